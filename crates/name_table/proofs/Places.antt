-- Places in lists.
use Rattle.std.proofs.Common.{◌≡◌, ◌⊎◌, inl, inr, ℕ, zero, suc, List, [], ◌∷◌, ◌++◌, length, Some, None, slice_get, refl, arith}

-- what is read from a list with one more element
pub read_more : {X : Type 0} (xs : List X) (x : X) (i : ℕ) (v : X) → slice_get (xs ++ x ∷ []) i ≡ Some v → (slice_get xs i ≡ Some v) ⊎ ((i ≡ length xs) × (x ≡ v))
read_more [] x zero v e = inr (refl, cc)
read_more [] x (suc i) v e = elim (some_none v e) [ ]
  where
    some_none : {Y : Type 0} (y : Y) → None ≡ Some y → ⊥
    some_none y q = cc
read_more (y ∷ xs) x zero v e = inl e
read_more (y ∷ xs) x (suc i) v e = elim (read_more xs x i v e) [ inl h ↦ inl h | inr h ↦ inr (omega (arith, h.0), h.1) ]
