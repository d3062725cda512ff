-- Numbers that are looked up.
use Rattle.std.proofs.Common.{◌≡◌, ℕ, ◌<◌, ◌≤◌, Bool, true, false, List, length, get_or, map, Option, Some, None, IsSome, IsSomeAnd, slice_get, option_map, subst, sym, ap, ◌∙◌, refl, arith}
use Rattle.std.specs.List.{Contains}
use Rattle.std.specs.HashMap.{get}
use Rattle.std.proofs.lemmas.List.{length-map, get_or-map}
use Rattle.std.proofs.lemmas.Option.{slice_get_within, slice_get_read, slice_get-map}
use Rattle.ipdl_syntax.specs.declared.program.Entry.{Entry}
use Rattle.name_table.specs.declared.decl.DeclId.{DeclId}
use Rattle.name_table.specs.declared.decl.DeclId.TheVariants.{Struct, Union}
use Rattle.name_table.specs.Decls.{protocol_of}
use Rattle.program_schema.specs.Numbers.{IsTypeNumber, place_of}
use Rattle.actor_tables.specs.Numbered.{decl_of, same_id, numbering_of, AreNumbersOf}
use Rattle.actor_tables.specs.declared.numbers.SchemaNumbers.{SchemaNumbers}
use Rattle.actor_tables.specs.declared.numbers.TypeId.{TypeId}

-- a property of the value of an option
pub at_some : {X : Type 0} (P : X → Type 0) (o : Option X) (x : X) → o ≡ Some x → IsSomeAnd o P → P x
at_some {X} P o x is h = let Q : Option X → Type 0 = λ p. IsSomeAnd p P in subst Q is h

pub never_none : {X : Type 0} (P : X → Type 0) (o : Option X) → o ≡ None → IsSomeAnd o P → ⊥
never_none {X} P o is h = let Q : Option X → Type 0 = λ p. IsSomeAnd p P in subst Q is h

some_below : {X : Type 0} (P : X → Type 0) (xs : List X) (i : ℕ) → IsSomeAnd (slice_get xs i) P → i < length xs
some_below {X} P xs i h = go (slice_get xs i) refl h
  where
    go : (o : Option X) → slice_get xs i ≡ o → IsSomeAnd o P → i < length xs
    go None e k = absurd k
    go (Some x) e k = slice_get_within xs i x e

-- what was read
pub read_at : {X : Type 0} (xs read : List X) (i : ℕ) (x : X) → read ≡ xs → i < length read → ((d : X) → x ≡ get_or read i d) → slice_get xs i ≡ Some x
read_at {X} xs read i x same below at = let P : List X → Type 0 = λ ys. slice_get ys i ≡ Some x in subst P same (slice_get_read read (length read) i x refl below (at x))

-- Protocols

number_of_file : (program : List Entry) (numbers : SchemaNumbers) (file : ℕ) → AreNumbersOf program numbers → IsSome (protocol_of program file) → IsSomeAnd (slice_get numbers.of_files.items file) (λ number. slice_get numbers.files.items number ≡ Some file)
number_of_file program numbers file are there = are.of_files file ((are.files.exact file).1 there)

pub file_within : (program : List Entry) (numbers : SchemaNumbers) (file : ℕ) (read : List ℕ) → AreNumbersOf program numbers → IsSome (protocol_of program file) → read ≡ numbers.of_files.items → length read ≤ file → ⊥
file_within program numbers file read are there same past =
    let below : file < length numbers.of_files.items = some_below _ numbers.of_files.items file (number_of_file program numbers file are there) in
    let long : length read ≡ length numbers.of_files.items = ap length same in
    absurd (omega arith)

pub file_number : (program : List Entry) (numbers : SchemaNumbers) (file number : ℕ) (read : List ℕ) → AreNumbersOf program numbers → IsSome (protocol_of program file) → read ≡ numbers.of_files.items → file < length read
    → ((d : ℕ) → number ≡ get_or read file d) → slice_get numbers.files.items number ≡ Some file
file_number program numbers file number read are there same below at =
    at_some (λ k. slice_get numbers.files.items k ≡ Some file) (slice_get numbers.of_files.items file) number (read_at numbers.of_files.items read file number same below at) (number_of_file program numbers file are there)

-- Types

id_of : DeclId → TypeId
id_of (Struct file index) = record { file = file; is_union = false; index = index }
id_of (Union file index) = record { file = file; is_union = true; index = index }
id_of _ = record { file = 0; is_union = false; index = 0 }

id_back : (file : ℕ) (is_union : Bool) (index : ℕ) → id_of (decl_of (record { file = file; is_union = is_union; index = index })) ≡ record { file = file; is_union = is_union; index = index }
unfolding id_of
id_back file true index = refl
id_back file false index = refl

-- the declaration determines the struct or union
pub same_type : (a b : TypeId) → decl_of a ≡ decl_of b → a ≡ b
same_type a b e = sym (id_back a.file a.is_union a.index) ∙ ap id_of e ∙ id_back b.file b.is_union b.index

-- a declaration among the declarations of these is that of one of these
pub contains_type : (ids : List TypeId) (id : TypeId) → Contains (map decl_of ids) (decl_of id) → Contains ids id
contains_type ids id (k, lt, at) =
    let below : k < length ids = rw (length-map ids decl_of) at lt in
    (k, below, same_type (get_or ids k id) id (sym (get_or-map decl_of ids k id (decl_of id) below) ∙ at))

pub number_of_type : (program : List Entry) (numbers : SchemaNumbers) (id : TypeId) → AreNumbersOf program numbers → IsSome (place_of program (decl_of id)) → IsSomeAnd (get same_id numbers.of_types id) (λ number. slice_get numbers.types.items number ≡ Some id)
number_of_type program numbers id are there = are.of_types id (contains_type numbers.types.items id ((are.types.exact (decl_of id)).1 there))

pub type_number : (program : List Entry) (numbers : SchemaNumbers) (id : TypeId) (number : ℕ) → AreNumbersOf program numbers → IsSome (place_of program (decl_of id)) → Some number ≡ get same_id numbers.of_types id → IsTypeNumber (numbering_of numbers) number (decl_of id)
type_number program numbers id number are there found =
    slice_get-map decl_of numbers.types.items number
    ∙ ap (option_map decl_of) (at_some (λ k. slice_get numbers.types.items k ≡ Some id) (get same_id numbers.of_types id) number (sym found) (number_of_type program numbers id are there))
