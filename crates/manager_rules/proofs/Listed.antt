-- Lists that gather numbers, one element after another.
use Rattle.std.proofs.Common.{◌≡◌, ℕ, ◌+◌, ◌<◌, List, [], ◌∷◌, ◌++◌, length, take, get_or, inl, inr, subst, sym}
use Rattle.std.specs.Prelude.{◌↔◌}
use Rattle.std.specs.List.{Any, Contains}
use Rattle.std.proofs.lemmas.List.Elements.{Contains-push, Contains-push_cases, Contains-append_left}
use Rattle.findings.proofs.Elements.{any_more, any_before, any_here}

-- the next element gives one number
pub gathers_one : {X : Type 0} (Holds : X → ℕ → Type 0) (xs : List X) (i : ℕ) (x : X) (n : ℕ) (old new : List ℕ) → i < length xs → x ≡ get_or xs i x → Holds x n → ((m : ℕ) → Holds x m → n ≡ m) → new ≡ old ++ n ∷ [] → ((m : ℕ) → Contains old m ↔ Any (λ y. Holds y m) (take i xs)) → (m : ℕ) → Contains new m ↔ Any (λ y. Holds y m) (take (i + 1) xs)
gathers_one {X} Holds xs i x n old new lt at here only e told m = rw e (
  λ c. elim (Contains-push_cases old n m c) [
    | inl o ↦ any_before (λ y. Holds y m) xs i x lt ((told m).0 o)
    | inr same ↦ any_here (λ y. Holds y m) xs i x lt (let P : ℕ → Type 0 = λ k. Holds x k in let Q : X → Type 0 = λ y. Holds y m in subst Q at (subst P same here))
  ],
  λ h. elim (any_more (λ y. Holds y m) xs i x lt h) [
    | inl o ↦ Contains-append_left old (n ∷ []) m ((told m).1 o)
    | inr p ↦ (let P : ℕ → Type 0 = λ k. Contains (old ++ n ∷ []) k in let Q : X → Type 0 = λ y. Holds y m in subst P (only m (subst Q (sym at) p)) (Contains-push old n))
  ],
)

-- the next element gives no finding
pub gathers_none : {X : Type 0} (Holds : X → ℕ → Type 0) (xs : List X) (i : ℕ) (x : X) (old new : List ℕ) → i < length xs → x ≡ get_or xs i x → ((m : ℕ) → ¬ Holds x m) → new ≡ old → ((m : ℕ) → Contains old m ↔ Any (λ y. Holds y m) (take i xs)) → (m : ℕ) → Contains new m ↔ Any (λ y. Holds y m) (take (i + 1) xs)
gathers_none {X} Holds xs i x old new lt at none e told m = rw e (
  λ c. any_before (λ y. Holds y m) xs i x lt ((told m).0 c),
  λ h. elim (any_more (λ y. Holds y m) xs i x lt h) [ inl o ↦ (told m).1 o | inr p ↦ (let Q : X → Type 0 = λ y. Holds y m in absurd (none m (subst Q (sym at) p))) ],
)
