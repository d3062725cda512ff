-- The messages of a sound schema, in their protocols.
use Rattle.std.proofs.Common.{◌≡◌, ◌⊎◌, inl, inr, ℕ, zero, suc, ◌+◌, ◌*◌, ◌/◌, ◌%◌, ◌<◌, Bool, true, false, cond, find, List, [], ◌∷◌, length, Some, refl, sym, ap, subst, ◌∙◌, arith}
use Rattle.std.specs.List.{All, Contains, flat_map, slice_get}
use Rattle.std.proofs.lemmas.List.Elements.{All-contains, Contains-append_cases, Contains-append_left, Contains-append_right}
use Rattle.std.proofs.lemmas.Option.{slice_get_within, slice_get-get_or, same_Some}
use Rattle.ipdl_base.specs.declared.schema.Kind.{Kind}
use Rattle.ipdl_base.specs.declared.schema.Kind.TheVariants.{Constructor}
use Rattle.ipdl_base.specs.declared.schema.MessageRow.{MessageRow}
use Rattle.ipdl_base.specs.declared.schema.ProtocolRow.{ProtocolRow}
use Rattle.ipdl_base.specs.declared.schema.Schema.{Schema}
use Rattle.ipdl_base.specs.Sound.{IsSound, IsSoundMessage, IsKindOf, has_number}
use Rattle.ipdl_base.proofs.Numbers.{request_found}
use Rattle.wait_report.specs.Sendable.{IsMessage}
use Rattle.wait_report.specs.Least.{IsRightMessage, IsMessageOf}

-- Lists

pub contains-cases : {A : Type 0} (x y : A) (xs : List A) → Contains (x ∷ xs) y → (x ≡ y) ⊎ Contains xs y
contains-cases x y xs (zero, below, is) = inl is
contains-cases x y xs (suc k, below, is) = inr (k, omega (arith, below), is)

pub contains-here : {A : Type 0} (x : A) (xs : List A) → Contains (x ∷ xs) x
contains-here x xs = (0, omega arith, refl)

pub contains-later : {A : Type 0} (x y : A) (xs : List A) → Contains xs y → Contains (x ∷ xs) y
contains-later x y xs (k, below, is) = (suc k, omega (arith, below), is)

pub none-in-nothing : {A B : Type 0} (y : A) → Contains [] y → B
none-in-nothing y (k, below, is) = absurd (omega (arith, below))

-- an element of a list has a place
pub place-of : {A : Type 0} (xs : List A) (x : A) → Contains xs x → (k : ℕ) × (slice_get xs k ≡ Some x)
place-of xs x (k, below, is) = (k, slice_get-get_or xs k x below ∙ ap (λ (y : _). Some y) is)

found-there : {A : Type 0} (test : A → Bool) (xs : List A) (x : A) → find test xs ≡ Some x → Contains xs x
found-there test [] x e = cc
found-there test (y ∷ ys) x e = by (test y) e (found-there test ys x)
  where
    by : (b : Bool) → cond b (Some y) (find test ys) ≡ Some x → (find test ys ≡ Some x → Contains ys x) → Contains (y ∷ ys) x
    by true e rec = subst (Contains (y ∷ ys)) (same_Some y x e) (contains-here y ys)
    by false e rec = contains-later y x ys (rec e)

pub flat-there : {A B : Type 0} (f : A → List B) (xs : List A) (y : B) → Contains (flat_map f xs) y → (x : A) × Contains xs x × Contains (f x) y
flat-there f [] y h = none-in-nothing y h
flat-there f (x ∷ xs) y h = elim (Contains-append_cases (f x) (flat_map f xs) y h) [
  | inl here ↦ (x, contains-here x xs, here)
  | inr later ↦ let found = flat-there f xs y later in (found.0, contains-later x found.0 xs found.1, found.2)
]

pub flat-in : {A B : Type 0} (f : A → List B) (xs : List A) (x : A) (y : B) → Contains xs x → Contains (f x) y → Contains (flat_map f xs) y
flat-in f [] x y there inside = none-in-nothing x there
flat-in f (z ∷ zs) x y there inside = elim (contains-cases z x zs there) [
  | inl same ↦ Contains-append_left (f z) (flat_map f zs) y (subst (λ (w : _). Contains (f w) y) (sym same) inside)
  | inr later ↦ Contains-append_right (f z) (flat_map f zs) y (flat-in f zs x y later inside)
]

-- Schemas

-- a message of a schema is a message of one of its protocols
pub of-protocol : (schema : Schema) (row : MessageRow) → IsMessage schema row → IsMessageOf schema.protocols row
of-protocol schema row found = flat-there (λ (p : ProtocolRow). p.messages) schema.protocols row (found-there (has_number row.number) (flat_map (λ (p : ProtocolRow). p.messages) schema.protocols) row found)

module _ (schema : Schema) (sound : IsSound schema) where
  -- A message at its place.
  record IsPlaced (row : MessageRow) : Type 0 where
    p : ℕ
    i : ℕ
    protocol : ProtocolRow
    there : slice_get schema.protocols p ≡ Some protocol
    here : slice_get protocol.messages i ≡ Some row

  placed : (row : MessageRow) → IsMessageOf schema.protocols row → IsPlaced row
  placed row of =
      let there = place-of schema.protocols of.0 of.1 in
      let here = place-of of.0.messages row of.2 in
      record { p = there.0; i = here.0; protocol = of.0; there = there.1; here = here.1 }

  sound-at : (row : MessageRow) (at : IsPlaced row) → IsSoundMessage schema at.p at.protocol at.i row
  sound-at row at = (sound.protocols at.p at.protocol at.there).messages at.i row at.here

  few-at : (row : MessageRow) (at : IsPlaced row) → at.i < 32768
  few-at row at =
      let few = (sound.protocols at.p at.protocol at.there).few in
      let within = slice_get_within at.protocol.messages at.i row at.here in
      omega (arith, few, within)

  -- a message of a protocol of a schema is found by its number
  pub is-message : (row : MessageRow) → IsMessageOf schema.protocols row → IsMessage schema row
  is-message row of =
      let at : IsPlaced row = placed row of in
      let number : row.number ≡ at.p * 65536 + 2 * at.i = (sound-at row at).number in
      let low : at.i < 32768 = few-at row at in
      let home : row.number / 65536 ≡ at.p = omega (arith, number, low) in
      let index : row.number % 65536 / 2 ≡ at.i = omega (arith, number, low) in
      sym (request_found schema row.number sound at.protocol (ap (slice_get schema.protocols) home ∙ at.there) row (ap (slice_get at.protocol.messages) index ∙ at.here) (omega (arith, number)))

  made-within : (protocol : ProtocolRow) (name : List ℕ) (kind : Kind) (made : ℕ) → All (λ m. m < length schema.protocols) protocol.manages → IsKindOf schema.protocols protocol name kind → kind ≡ Constructor made → made < length schema.protocols
  made-within protocol name kind made few is e =
      let known : IsKindOf schema.protocols protocol name (Constructor made) = subst (IsKindOf schema.protocols protocol name) e is in
      All-contains (λ m. m < length schema.protocols) protocol.manages made few known.1

  pub right-message : (built : List Bool) → length built ≡ length schema.protocols → (row : MessageRow) → IsMessageOf schema.protocols row → IsRightMessage schema built row
  right-message built size row of =
      let at : IsPlaced row = placed row of in
      record {
        found = is-message row of;
        within = λ made kind. subst (λ (n : ℕ). made < n) (sym size) (made-within at.protocol row.name row.kind made (sound.protocols at.p at.protocol at.there).manages (sound-at row at).kind kind);
      }
