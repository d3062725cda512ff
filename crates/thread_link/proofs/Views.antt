-- Lists of views, read by their index.
use Rattle.std.proofs.Common.{◌≡◌, ◌≢◌, ◌∙◌, Bool, ℕ, zero, suc, List, [], ◌∷◌, ◌++◌, ◌⊎◌, inl, inr, sym, refl, ap, subst, true, false, true≢false, length}
use mathlib.Core.Option.{some, some-injective, some-ne-none}
use lib.ListN.{get_elem?, set}
use Rattle.atomic_table.proofs.Lists.{at_set}

pub clash : {b : Bool} → b ≡ true → b ≡ false → ⊥
clash t f = true≢false (sym t ∙ f)

module _ {A : Type 0} where
  -- an element of a list with one more is of the list, or is the last one
  pub at-end : (l : List A) (a b : A) (j : ℕ) → get_elem? (l ++ a ∷ []) j ≡ some b → (get_elem? l j ≡ some b) ⊎ ((j ≡ length l) × (a ≡ b))
  at-end [] a b zero e = inr (refl, some-injective a b e)
  at-end [] a b (suc j) e = absurd (some-ne-none b (sym e))
  at-end (x ∷ xs) a b zero e = inl e
  at-end (x ∷ xs) a b (suc j) e = elim (at-end xs a b j e) [ inl h ↦ inl h | inr h ↦ inr (ap suc h.0, h.1) ]

  pub written : (l : List A) (i : ℕ) (a b : A) → get_elem? l i ≡ some a → get_elem? (set l i b) i ≡ some b
  written [] i a b e = absurd (some-ne-none a (sym e))
  written (x ∷ xs) zero a b e = refl
  written (x ∷ xs) (suc i) a b e = written xs i a b e

  -- what is true of a new view and of all others is true of each view after a write
  pub each-set : (P : A → Type 0) (l : List A) (i : ℕ) (a : A) → P a → ((j : ℕ) (b : A) → j ≢ i → get_elem? l j ≡ some b → P b) → (j : ℕ) (b : A) → get_elem? (set l i a) j ≡ some b → P b
  each-set P l i a new old j b e = elim (at_set l i j a b e) [ inl h ↦ subst P h.1 new | inr h ↦ old j b h.0 h.1 ]

  -- and after one more
  pub each-push : (P : A → Type 0) (l : List A) (a : A) → P a → ((j : ℕ) (b : A) → get_elem? l j ≡ some b → P b) → (j : ℕ) (b : A) → get_elem? (l ++ a ∷ []) j ≡ some b → P b
  each-push P l a new old j b e = elim (at-end l a b j e) [ inl h ↦ old j b h | inr h ↦ subst P h.1 new ]

  -- the only element of a list of one
  pub only : (a b : A) (j : ℕ) → get_elem? (a ∷ []) j ≡ some b → (j ≡ 0) × (a ≡ b)
  only a b zero e = (refl, some-injective a b e)
  only a b (suc j) e = absurd (some-ne-none b (sym e))
