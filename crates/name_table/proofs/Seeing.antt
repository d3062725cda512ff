-- A file sees declarations of the files that are reached from it.
use Rattle.std.proofs.Common.{◌≡◌, inl, inr, ◌∙◌, ◌<◌, ◌≤◌, ℕ, Bool, true, false, List, length, arith, get_or, Option, Some, None, IsSomeAnd, slice_get, refl, sym, ap, subst}
use Rattle.std.specs.Prelude.{option_and_then}
use Rattle.std.specs.List.{slice_index_or}
use Rattle.std.proofs.lemmas.Option.{slice_get_within, slice_get_read, get_or_from_slice_get}
use Rattle.ipdl_syntax.specs.declared.program.Entry.{Entry}
use Rattle.name_table.specs.declared.decl.DeclId.{DeclId}
use Rattle.name_table.specs.declared.decl.DeclId.TheVariants.{Builtin, Using, Struct, Union, Protocol, Endpoint}
use Rattle.name_table.specs.Declares.{file_of, full_name_in, full_name_of, Declares, Includes, IsHeader}
use Rattle.name_table.specs.declared.sight.Reach.{Reach}
use Rattle.name_table.specs.Marks.{IsFollowed, Reaches, start, step, Shows, AreMarksOf, IsSight, AreSights}
use Rattle.name_table.specs.Visible.{Sees, own, protocol, header}

-- a file whose entry has a property exists
pub within : (program : List Entry) (file : ℕ) (P : Entry → Type 0) → IsSomeAnd (slice_get program file) P → file < length program
within program file P h = go (slice_get program file) refl h
  where
    go : (o : Option Entry) → slice_get program file ≡ o → IsSomeAnd o P → file < length program
    go None e h = absurd h
    go (Some entry) e h = slice_get_within program file entry e

pub declared_within : (program : List Entry) (file : ℕ) (d : DeclId) (full : List ℕ) → Declares program file d full → file < length program
declared_within program file d full (at, is) =
    go (slice_get program file) refl (sym (ap (λ (o : Option ℕ). option_and_then (λ f. option_and_then (λ entry. full_name_in entry d) (slice_get program f)) o) at) ∙ is)
  where
    wrong : None ≡ Some full → ⊥
    wrong e = cc

    go : (o : Option Entry) → slice_get program file ≡ o → option_and_then (λ entry. full_name_in entry d) (slice_get program file) ≡ Some full → file < length program
    go None e h = absurd (wrong (sym (ap (λ (o : Option Entry). option_and_then (λ entry. full_name_in entry d) o) e) ∙ h))
    go (Some entry) e h = slice_get_within program file entry e

pub reaches_from : (program : List Entry) (from : ℕ) {file : ℕ} → Reaches program from file → from < length program
reaches_from program from (start below) = below
reaches_from program from (step r along e below) = reaches_from program from r

-- the files that a header reaches are reached from the file that includes it
through : (program : List Entry) (from other : ℕ) → Includes program from other → IsHeader program other → {file : ℕ} → Reaches program other file → Reaches program from file
through program from other e h (start below) = step (start (within program from _ e)) (inl refl) e below
through program from other e h (step {file} r along i below) =
    step (through program from other e h r) (elim along [ inl same ↦ inr (subst (IsHeader program) (sym same) h) | inr is ↦ inr is ]) i below

followed_on : (program : List Entry) (from other file : ℕ) → IsHeader program other → IsFollowed program other file → IsFollowed program from file
followed_on program from other file h (inl same) = inr (subst (IsHeader program) (sym same) h)
followed_on program from other file h (inr is) = inr is

-- the declarations of a file are shown to it
own_shown : (program : List Entry) (file : ℕ) (d : DeclId) → file < length program → file_of d ≡ Some file → Shows program file d
own_shown program file (Using other place) below at = here other file below at
  where
    here : (o f : ℕ) → f < length program → Some o ≡ Some f → Reaches program f o × IsFollowed program f o
    here o f b e = let same : o ≡ f = cc in (subst (Reaches program f) (sym same) (start b), inl same)
own_shown program file (Struct other place) below at = here other file below at
  where
    here : (o f : ℕ) → f < length program → Some o ≡ Some f → Reaches program f o × IsFollowed program f o
    here o f b e = let same : o ≡ f = cc in (subst (Reaches program f) (sym same) (start b), inl same)
own_shown program file (Union other place) below at = here other file below at
  where
    here : (o f : ℕ) → f < length program → Some o ≡ Some f → Reaches program f o × IsFollowed program f o
    here o f b e = let same : o ≡ f = cc in (subst (Reaches program f) (sym same) (start b), inl same)
own_shown program file (Protocol other) below at = let same : other ≡ file = cc in subst (Reaches program file) (sym same) (start below)
own_shown program file (Builtin type) below at = wrong at
  where
    wrong : None ≡ Some file → ⊥
    wrong e = cc
own_shown program file (Endpoint p managed) below at = wrong at
  where
    wrong : None ≡ Some file → ⊥
    wrong e = cc

-- what a header shows is shown in the file that includes it
shown_through : (program : List Entry) (from other : ℕ) (d : DeclId) → Includes program from other → IsHeader program other → Shows program other d → Shows program from d
shown_through program from other (Using file place) e h s = (through program from other e h s.0, followed_on program from other file h s.1)
shown_through program from other (Struct file place) e h s = (through program from other e h s.0, followed_on program from other file h s.1)
shown_through program from other (Union file place) e h s = (through program from other e h s.0, followed_on program from other file h s.1)
shown_through program from other (Protocol file) e h s = through program from other e h s
shown_through program from other (Builtin type) e h s = s
shown_through program from other (Endpoint p managed) e h s = s

-- a declaration that a file sees is shown to it, under its full name
pub sees_shown : (program : List Entry) {file : ℕ} {d : DeclId} {full : List ℕ} → Sees program file d full → Shows program file d × (full_name_of program d ≡ Some full)
sees_shown program (own {file} {d} {full} is) = (own_shown program file d (declared_within program file d full is) is.0, is.1)
sees_shown program (protocol {file} {other} {full} e is) =
    (step (start (within program file _ e)) (inl refl) e (declared_within program other (Protocol other) full is), is.1)
sees_shown program (header {file} {other} {d} {full} e h s) = let k = sees_shown program s in (shown_through program file other d e h k.0, k.1)

-- a declaration that is shown is seen
lifted : (program : List Entry) (from : ℕ) (d : DeclId) (full : List ℕ) {file : ℕ} → Reaches program from file → IsFollowed program from file → Sees program file d full → Sees program from d full
lifted program from d full (start below) along s = s
lifted program from d full (step {file} {other} r before e below) (inl same) s = subst (λ f. Sees program f d full) same s
lifted program from d full (step {file} {other} r before e below) (inr h) s = lifted program from d full r before (header e h s)

protocol_seen : (program : List Entry) (from : ℕ) (full : List ℕ) {file : ℕ} → Reaches program from file → full_name_of program (Protocol file) ≡ Some full → Sees program from (Protocol file) full
protocol_seen program from full (start below) is = own (refl, is)
protocol_seen program from full (step {file} {other} r along e below) is = lifted program from (Protocol other) full r along (protocol e (refl, is))

pub shown_sees : (program : List Entry) (file : ℕ) (d : DeclId) (full : List ℕ) → Shows program file d → full_name_of program d ≡ Some full → Sees program file d full
shown_sees program file (Using other place) full s is = lifted program file (Using other place) full s.0 s.1 (own (refl, is))
shown_sees program file (Struct other place) full s is = lifted program file (Struct other place) full s.0 s.1 (own (refl, is))
shown_sees program file (Union other place) full s is = lifted program file (Union other place) full s.0 s.1 (own (refl, is))
shown_sees program file (Protocol other) full s is = protocol_seen program file full s is
shown_sees program file (Builtin type) full s is = absurd s
shown_sees program file (Endpoint p managed) full s is = absurd s

-- from a number without a file nothing is reached
pub not_reached : (program : List Entry) (sights : List Reach) (file other : ℕ) → AreSights program sights → length sights ≤ file → ¬ Reaches program file other
not_reached program sights file other are past r =
    let below = reaches_from program file r in
    absurd (omega (arith, below, past, are.size))

-- the stored list or marks of a file
pub sight_at : (program : List Entry) (sights : List Reach) (file : ℕ) (sight : Reach) → AreSights program sights → file < length sights → sight ≡ get_or sights file sight → IsSight program file sight
sight_at program sights file sight are below at = are.of_file file sight (slice_get_read sights (length sights) file sight refl below at)

-- a mark that was read decides whether a file is reached
pub mark_tells : (program : List Entry) (file other : ℕ) (marks : List Bool) (mark : Bool) → AreMarksOf program file marks → other < length marks → mark ≡ get_or marks other mark → ((mark ≡ true) → Reaches program file other) × (Reaches program file other → mark ≡ true)
mark_tells program file other marks mark are below at =
    let same : slice_index_or marks other false ≡ mark = get_or_from_slice_get marks other mark false (slice_get_read marks (length marks) other mark refl below at) in
    (λ h. (are other).0 (same ∙ h), λ r. sym same ∙ (are other).1 r)

-- a declaration is seen under one full name
pub seen_once : (program : List Entry) (file : ℕ) (d : DeclId) (a b : List ℕ) → Sees program file d a → Sees program file d b → a ≡ b
seen_once program file d a b s t =
    let same : Some a ≡ Some b = sym (sees_shown program s).1 ∙ (sees_shown program t).1 in
    cc
