-- Names of builtin types, and the argument in a name.
use Rattle.report_existence.proofs.Lists.{text_or_not}
use Rattle.std.proofs.lemmas.Bool.{cases_eq}
use Rattle.std.proofs.Common.{◌≡◌, ◌⊎◌, ◌∙◌, ℕ, ◌-◌, Bool, true, false, true≢false, ◌||◌, List, [], ◌∷◌, ◌++◌, Contains, Option, Some, length, take, drop, refl, sym, ap, inl, inr, arith, length-append}
use Rattle.std.specs.List.{list_any}
use Rattle.std.specs.Str.{bytes_eq}
use Rattle.std.proofs.lemmas.Slice.Eq.{bytes_eq-Decides}
use Rattle.std.proofs.Math.Seq.{take-append_seam, drop-append_seam}
use Rattle.ipdl_base.specs.Builtins.{builtin_name}
use Rattle.ipdl_base.specs.Words.{short_name}
use Rattle.ipdl_base.specs.declared.builtin.Builtin.{Builtin}
use Rattle.ipdl_base.specs.declared.builtin.Builtin.TheVariants as builtin
use Rattle.ipdl_syntax.specs.Grammar.{whole_name}
use Rattle.name_table.specs.Finds.{builtin_full_name, IsNameOfBuiltin, IsNameOf}
use Rattle.name_table.proofs.BuiltinNames.{one_builtin}
use Rattle.report_existence.proofs.Finite.{contains_more, either_or_not, both_or_not, not_or, any_or_not}
use Rattle.name_existence.proofs.Decisions.{like_or_not, three_or_not, none_or_not, contains_or_not}

-- Builtin types

pub builtins : List Builtin
builtins =
    builtin.Bool ∷ builtin.Char ∷ builtin.Int8 ∷ builtin.Uint8 ∷ builtin.Short ∷ builtin.Int16 ∷ builtin.Uint16 ∷ builtin.Int ∷ builtin.Int32 ∷ builtin.Uint32
    ∷ builtin.NsResult ∷ builtin.Long ∷ builtin.Int64 ∷ builtin.IntPtr ∷ builtin.Uint64 ∷ builtin.UintPtr ∷ builtin.Float ∷ builtin.Double ∷ builtin.NsString
    ∷ builtin.NsCString ∷ builtin.ByteBuf ∷ builtin.Shmem ∷ builtin.FileDescriptor ∷ []

abbrev has_word : Builtin → Builtin → Bool
has_word a b = bytes_eq (builtin_name b) (builtin_name a)

same_word : (a b : Builtin) → has_word a b ≡ true → b ≡ a
same_word a b h = one_builtin b a (builtin_name a) (inr ((bytes_eq-Decides (builtin_name b) (builtin_name a)).0 h)) (inr refl)

-- a type whose word is found among those of others is one of these
among : (a : Builtin) (types : List Builtin) → list_any (has_word a) types ≡ true → Contains types a
among a [] h = absurd (true≢false (sym h))
among a (b ∷ types) h = go (has_word a b) refl (λ later. among a types later) h
  where
    go : (here : Bool) → has_word a b ≡ here → (list_any (has_word a) types ≡ true → Contains types a) → here || list_any (has_word a) types ≡ true → Contains (b ∷ types) a
    go true e more found = contains_more b types a (inl (same_word a b e))
    go false e more found = contains_more b types a (inr (more found))

found_word : (a : Builtin) → list_any (has_word a) builtins ≡ true
unfolding builtins
found_word builtin.Bool = refl
found_word _ = refl

pub is_builtin : (a : Builtin) → Contains builtins a
is_builtin a = among a builtins (found_word a)

pub builtin_or_not : (a b : Builtin) → (a ≡ b) ⊎ (a ≡ b → ⊥)
builtin_or_not a b = like_or_not (λ e. one_builtin a b (builtin_name b) (inr e) (inr refl)) (ap builtin_name) (text_or_not (builtin_name a) (builtin_name b))

pub names_type_or_not : (type : Builtin) (text : List ℕ) → IsNameOfBuiltin type text ⊎ (IsNameOfBuiltin type text → ⊥)
names_type_or_not type text = either_or_not (text_or_not (builtin_full_name type) text) (text_or_not (builtin_name type) text)

-- a property that is decided for each builtin type holds of one, or of no type
pub type_or_none : (P : Builtin → Type 0) → ((type : Builtin) → P type ⊎ (P type → ⊥)) → ((type : Builtin) × P type) ⊎ ((type : Builtin) × P type → ⊥)
type_or_none P each =
    like_or_not (λ (i, type, below, at, h). (type, h)) (λ (type, h). let c = is_builtin type in (c.0, type, c.1, c.2, h)) (any_or_not P each builtins)

-- a property that is decided for `Endpoint` and `ManagedEndpoint` holds of one of them, or of neither
pub managed_or_none : (P : Bool → Type 0) → ((managed : Bool) → P managed ⊎ (P managed → ⊥)) → ((managed : Bool) × P managed) ⊎ ((managed : Bool) × P managed → ⊥)
managed_or_none P each = like_or_not to from (either_or_not (each false) (each true))
  where
    to : P false ⊎ P true → (managed : Bool) × P managed
    to (inl h) = (false, h)
    to (inr h) = (true, h)

    from : (managed : Bool) × P managed → P false ⊎ P true
    from (false, h) = inl h
    from (true, h) = inr h

-- Names

pub name_of_or_not : (text : List ℕ) (argument : Option (List ℕ)) (full : List ℕ) → IsNameOf text argument full ⊎ (IsNameOf text argument full → ⊥)
name_of_or_not text argument full =
    either_or_not
    (both_or_not (text_or_not full (whole_name text argument)) (not_or (contains_or_not cases_eq text 60)))
    (three_or_not (none_or_not argument) (text_or_not (short_name full) text) (not_or (contains_or_not cases_eq full 60)))

-- the text between a prefix with `<` and the last byte
abbrev inner_of : List ℕ → List ℕ → List ℕ
inner_of front whole = drop (length (front ++ 60 ∷ [])) (take (length whole - 1) whole)

inner_is : (front whole inner : List ℕ) → whole ≡ whole_name front (Some inner) → inner_of front whole ≡ inner
inner_is front whole inner e =
    let xs = (front ++ 60 ∷ []) ++ inner in
    let long : length whole - 1 ≡ length xs = omega (arith, ap length e, length-append xs (62 ∷ [])) in
    ap (λ n. drop (length (front ++ 60 ∷ [])) (take n whole)) long
    ∙ ap (λ w. drop (length (front ++ 60 ∷ [])) (take (length xs) w)) e
    ∙ ap (drop (length (front ++ 60 ∷ []))) (take-append_seam xs (62 ∷ []))
    ∙ drop-append_seam (front ++ 60 ∷ []) inner

-- a text is a name with an argument, or is not
pub inner_or_none : (front whole : List ℕ) → ((inner : List ℕ) × (whole ≡ whole_name front (Some inner))) ⊎ ((inner : List ℕ) → whole ≡ whole_name front (Some inner) → ⊥)
inner_or_none front whole = go (text_or_not whole (whole_name front (Some (inner_of front whole))))
  where
    go : (whole ≡ whole_name front (Some (inner_of front whole))) ⊎ (whole ≡ whole_name front (Some (inner_of front whole)) → ⊥)
        → ((inner : List ℕ) × (whole ≡ whole_name front (Some inner))) ⊎ ((inner : List ℕ) → whole ≡ whole_name front (Some inner) → ⊥)
    go (inl e) = inl (inner_of front whole, e)
    go (inr none) = inr (λ inner e. none (e ∙ ap (λ i. whole_name front (Some i)) (sym (inner_is front whole inner e))))
