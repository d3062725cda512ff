-- Elements with a property, with their indices, when one more is appended.
use Rattle.std.proofs.Common.{◌≡◌, ℕ, suc, zero, List, [], ◌∷◌, ◌++◌, length, Some, ◌⊎◌, inl, inr, refl, sym, subst, arith}
use Rattle.std.specs.Prelude.{slice_get}
use Rattle.findings.specs.Gains.{AtSome}

-- an element that is read after one more was appended was read before, or is the new one
pub slice_get-push : {X : Type 0} (xs : List X) (y : X) (k : ℕ) (x : X) → slice_get (xs ++ y ∷ []) k ≡ Some x → (slice_get xs k ≡ Some x) ⊎ ((k ≡ length xs) × (y ≡ x))
slice_get-push [] y zero x h = inr (refl, let e : y ≡ x = cc in e)
slice_get-push [] y (suc k) x h = absurd (let no : ⊥ = cc in no)
slice_get-push (z ∷ xs) y zero x h = inl h
slice_get-push (z ∷ xs) y (suc k) x h = elim (slice_get-push xs y k x h) [ inl e ↦ inl e | inr e ↦ inr (omega (arith, e.0), e.1) ]

pub slice_get-left : {X : Type 0} (xs : List X) (y : X) (k : ℕ) (x : X) → slice_get xs k ≡ Some x → slice_get (xs ++ y ∷ []) k ≡ Some x
slice_get-left [] y k x h = absurd (let no : ⊥ = cc in no)
slice_get-left (z ∷ xs) y zero x h = h
slice_get-left (z ∷ xs) y (suc k) x h = slice_get-left xs y k x h

pub slice_get-last : {X : Type 0} (xs : List X) (y : X) → slice_get (xs ++ y ∷ []) (length xs) ≡ Some y
slice_get-last [] y = refl
slice_get-last (z ∷ xs) y = slice_get-last xs y

-- the property holds of an earlier element, or of the new one
pub AtSome-cases : {X : Type 0} (P : ℕ → X → Type 0) (xs : List X) (y : X) → AtSome P (xs ++ y ∷ []) → AtSome P xs ⊎ P (length xs) y
AtSome-cases {X} P xs y (k, x, at, p) = elim (slice_get-push xs y k x at) [
  | inl e ↦ inl (k, x, e, p)
  | inr e ↦ inr (let Q : ℕ → Type 0 = λ n. P n x in let R : X → Type 0 = λ z. P (length xs) z in subst R (sym e.1) (subst Q e.0 p))
]

-- an element that is read stays at its index
pub AtSome-left : {X : Type 0} (P : ℕ → X → Type 0) (xs : List X) (y : X) → AtSome P xs → AtSome P (xs ++ y ∷ [])
AtSome-left P xs y (k, x, at, p) = (k, x, slice_get-left xs y k x at, p)

-- the new element has the property
pub AtSome-push : {X : Type 0} (P : ℕ → X → Type 0) (xs : List X) (y : X) → P (length xs) y → AtSome P (xs ++ y ∷ [])
AtSome-push P xs y p = (length xs, y, slice_get-last xs y, p)
