-- No two builtin types share a name.
use Rattle.std.proofs.Common.{◌≡◌, ◌⊎◌, inl, inr, ◌∙◌, List, [], ◌∷◌, Option, Some, None, refl, sym, ap, find, codes, ℕ}
use Rattle.std.specs.Str.{bytes_eq}
use Rattle.ipdl_base.specs.Builtins.{builtin_name}
use Rattle.ipdl_base.specs.declared.builtin.Builtin.{Builtin}
use Rattle.ipdl_base.specs.declared.builtin.Builtin.TheVariants as builtin
use Rattle.name_table.specs.Finds.{builtin_full_name, IsNameOfBuiltin}

abbrev all_builtins : List Builtin
all_builtins =
    builtin.Bool ∷ builtin.Char ∷ builtin.Int8 ∷ builtin.Uint8 ∷ builtin.Short ∷ builtin.Int16 ∷ builtin.Uint16 ∷ builtin.Int ∷ builtin.Int32 ∷ builtin.Uint32
    ∷ builtin.NsResult ∷ builtin.Long ∷ builtin.Int64 ∷ builtin.IntPtr ∷ builtin.Uint64 ∷ builtin.UintPtr ∷ builtin.Float ∷ builtin.Double ∷ builtin.NsString
    ∷ builtin.NsCString ∷ builtin.ByteBuf ∷ builtin.Shmem ∷ builtin.FileDescriptor ∷ []

-- the builtin type that a text names, by search
abbrev type_of : List ℕ → Option Builtin
type_of text =
    let by_word = find (λ b. bytes_eq (builtin_name b) text) all_builtins in
    first by_word (find (λ b. bytes_eq (builtin_full_name b) text) all_builtins)
  where
    first : Option Builtin → Option Builtin → Option Builtin
    first None other = other
    first (Some b) other = Some b

by_word : (b : Builtin) → type_of (builtin_name b) ≡ Some b
by_word builtin.Bool = refl
by_word _ = refl

by_full_name : (b : Builtin) → type_of (builtin_full_name b) ≡ Some b
by_full_name builtin.Bool = refl
by_full_name _ = refl

named_type : (b : Builtin) (text : List ℕ) → IsNameOfBuiltin b text → type_of text ≡ Some b
named_type b text (inl e) = ap type_of (sym e) ∙ by_full_name b
named_type b text (inr e) = ap type_of (sym e) ∙ by_word b

-- a text names at most one builtin type
pub one_builtin : (a b : Builtin) (text : List ℕ) → IsNameOfBuiltin a text → IsNameOfBuiltin b text → a ≡ b
one_builtin a b text p q =
    let same : Some a ≡ Some b = sym (named_type a text p) ∙ named_type b text q in
    cc

-- the full name of a builtin type is its word, for all but three
pub full_name_cases : (b : Builtin) → (builtin_full_name b ≡ builtin_name b)
    ⊎ ((builtin_full_name b ≡ codes "mozilla::ipc::ByteBuf") ⊎ ((builtin_full_name b ≡ codes "mozilla::ipc::Shmem") ⊎ (builtin_full_name b ≡ codes "mozilla::ipc::FileDescriptor")))
full_name_cases builtin.ByteBuf = inr (inl refl)
full_name_cases builtin.Shmem = inr (inr (inl refl))
full_name_cases builtin.FileDescriptor = inr (inr (inr refl))
full_name_cases _ = inl refl
