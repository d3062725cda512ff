-- Decided properties: which number is below, equality of options, and what is made of decided parts. A decided
-- property is listed if some list has all things with it.
use Rattle.std.proofs.Common.{◌≡◌, ◌⊎◌, ℕ, ◌<◌, List, [], ◌∷◌, Contains, Any, Option, Some, None, refl, ap, subst, inl, inr, ⊎_elim, arith, IsSomeAnd}
use Rattle.std.proofs.lemmas.Bool.{cases_lt}
use Rattle.report_existence.proofs.Finite.{contains_none, contains_more, contains_cases, either_or_not, both_or_not, same_places, of_any, when}
use Rattle.report_existence.specs.Laws.{IsListed}
use Rattle.report_existence.proofs.Lists.{some_or_each}

-- what is equivalent to something decided is decided
pub like_or_not : {P Q : Type 0} → (P → Q) → (Q → P) → P ⊎ (P → ⊥) → Q ⊎ (Q → ⊥)
like_or_not to from (inl p) = inl (to p)
like_or_not to from (inr none) = inr (λ q. none (from q))

pub three_or_not : {P Q R : Type 0} → P ⊎ (P → ⊥) → Q ⊎ (Q → ⊥) → R ⊎ (R → ⊥) → (P × Q × R) ⊎ (P × Q × R → ⊥)
three_or_not p q r = like_or_not (λ h. (h.0, h.1.0, h.1.1)) (λ h. (h.0, (h.1, h.2))) (both_or_not p (both_or_not q r))

-- numbers

pub below_or_not : (a b : ℕ) → (a < b) ⊎ (a < b → ⊥)
below_or_not a b = ⊎_elim (λ less. inl less) (λ above. inr (λ less. omega (arith, less, above))) (cases_lt a b)

-- options

pub option_or_not : {X : Type 0} → ((a b : X) → (a ≡ b) ⊎ (a ≡ b → ⊥)) → (a b : Option X) → (a ≡ b) ⊎ (a ≡ b → ⊥)
option_or_not each None None = inl refl
option_or_not each None (Some b) = inr (λ e. cc)
option_or_not each (Some a) None = inr (λ e. cc)
option_or_not each (Some a) (Some b) = like_or_not (ap Some) (λ e. cc) (each a b)

pub none_or_not : {X : Type 0} (o : Option X) → (o ≡ None) ⊎ (o ≡ None → ⊥)
none_or_not None = inl refl
none_or_not (Some x) = inr (λ e. cc)

pub some_and_or_not : {X : Type 0} (o : Option X) (P : X → Type 0) → ((x : X) → P x ⊎ (P x → ⊥)) → IsSomeAnd o P ⊎ (IsSomeAnd o P → ⊥)
some_and_or_not None P each = inr (λ h. h)
some_and_or_not (Some x) P each = each x

-- elements

pub contains_or_not : {X : Type 0} → ((a b : X) → (a ≡ b) ⊎ (a ≡ b → ⊥)) → (xs : List X) (x : X) → Contains xs x ⊎ (Contains xs x → ⊥)
contains_or_not each [] x = inr (contains_none x)
contains_or_not each (y ∷ xs) x = like_or_not (contains_more y xs x) (contains_cases y xs x) (either_or_not (each y x) (contains_or_not each xs x))

-- all elements have the property, or one does not have it
pub all_or_not : {X : Type 0} (P : X → Type 0) → ((x : X) → P x ⊎ (P x → ⊥)) → (xs : List X) → ((x : X) → Contains xs x → P x) ⊎ (((x : X) → Contains xs x → P x) → ⊥)
all_or_not {X} P each xs =
    ⊎_elim
    (λ (s : (x : X) × Contains xs x × (P x → ⊥)). inr (λ h. s.2 (h s.0 s.1)))
    (λ (every : (x : X) → Contains xs x → P x). inl every)
    (some_or_each (λ x. P x → ⊥) P (λ x. ⊎_elim (λ (h : P x). inr h) (λ (none : P x → ⊥). inl none) (each x)) xs)

-- the elements of a list with a property that holds of nothing else
pub of_list : {X : Type 0} (P : X → Type 0) → ((x : X) → P x ⊎ (P x → ⊥)) → (xs : List X) → ((x : X) → P x → Contains xs x) → IsListed P
of_list {X} P each xs within =
    same_places (λ p. Any (λ x. (x ≡ p) × P x) xs) P
    (λ p (i, x, below, at, h). subst P h.0 h.1)
    (λ p h. let c = within p h in (c.0, p, c.1, c.2, (refl, h)))
    (of_any xs (λ x p. (x ≡ p) × P x) (λ x. when (P x) (each x) x))

-- a listed property holds of some element, or of no element
pub some_or_none : {X : Type 0} (P : X → Type 0) → IsListed P → ((x : X) × P x) ⊎ ((x : X) → P x → ⊥)
some_or_none P ([], exact) = inr (λ x h. contains_none x ((exact x).1 h))
some_or_none P (x ∷ xs, exact) = inl (x, (exact x).0 (contains_more x xs x (inl refl)))
