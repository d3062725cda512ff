-- Lists of exactly the things with a property, put together from such lists.
use Rattle.std.proofs.Common.{◌≡◌, ◌⊎◌, ℕ, zero, suc, List, [], ◌∷◌, ◌++◌, Any, Contains, map, ap, refl, sym, subst, inl, inr, ⊎_elim, arith}
use Rattle.std.proofs.lemmas.List.Elements.{Contains-append_left, Contains-append_right, Contains-append_cases}
use Rattle.std.proofs.lemmas.Option.{none-some, same_Some}
use Rattle.findings.specs.Gains.{AtSome}
use Rattle.ipdl_base.specs.declared.finding.Finding.{Finding}
use Rattle.ipdl_base.specs.declared.finding.Place.{Place}
use Rattle.ipdl_base.specs.declared.finding.Rule.{Rule}
use Rattle.report_existence.specs.Laws.{IsListed}

-- Elements of a list with a first one

pub contains_none : {X : Type 0} (x : X) → Contains [] x → ⊥
contains_none x (i, below, is) = omega arith

pub contains_more : {X : Type 0} (x : X) (xs : List X) (y : X) → (x ≡ y) ⊎ Contains xs y → Contains (x ∷ xs) y
contains_more x xs y (inl e) = (0, omega arith, e)
contains_more x xs y (inr (i, below, is)) = (suc i, omega arith, is)

pub contains_cases : {X : Type 0} (x : X) (xs : List X) (y : X) → Contains (x ∷ xs) y → (x ≡ y) ⊎ Contains xs y
contains_cases x xs y (zero, below, is) = inl is
contains_cases x xs y (suc i, below, is) = inr (i, omega arith, is)

pub any_none : {X : Type 0} (P : X → Type 0) → Any P [] → ⊥
any_none P (k, x, below, is, h) = omega arith

pub any_cases : {X : Type 0} (P : X → Type 0) (x : X) (xs : List X) → Any P (x ∷ xs) → P x ⊎ Any P xs
any_cases P x xs (zero, y, below, is, h) = inl (subst P (sym is) h)
any_cases P x xs (suc k, y, below, is, h) = inr (k, y, omega arith, is, h)

pub any_more : {X : Type 0} (P : X → Type 0) (x : X) (xs : List X) → P x ⊎ Any P xs → Any P (x ∷ xs)
any_more P x xs (inl h) = (0, x, omega arith, refl, h)
any_more P x xs (inr (k, y, below, is, h)) = (suc k, y, omega arith, is, h)

-- Decisions

pub either_or_not : {P Q : Type 0} → P ⊎ (P → ⊥) → Q ⊎ (Q → ⊥) → (P ⊎ Q) ⊎ (P ⊎ Q → ⊥)
either_or_not (inl p) q = inl (inl p)
either_or_not (inr never) (inl q) = inl (inr q)
either_or_not (inr never) (inr none) = inr (λ h. ⊎_elim never none h)

pub both_or_not : {P Q : Type 0} → P ⊎ (P → ⊥) → Q ⊎ (Q → ⊥) → (P × Q) ⊎ (P × Q → ⊥)
both_or_not (inl p) (inl q) = inl (p, q)
both_or_not (inl p) (inr none) = inr (λ h. none h.1)
both_or_not (inr never) q = inr (λ h. never h.0)

pub not_or : {P : Type 0} → P ⊎ (P → ⊥) → (P → ⊥) ⊎ ((P → ⊥) → ⊥)
not_or (inl p) = inr (λ never. never p)
not_or (inr never) = inl never

pub any_or_not : {X : Type 0} (P : X → Type 0) → ((x : X) → P x ⊎ (P x → ⊥)) → (xs : List X) → Any P xs ⊎ (Any P xs → ⊥)
any_or_not P each [] = inr (any_none P)
any_or_not P each (x ∷ xs) =
    ⊎_elim (λ h. inl (any_more P x xs h)) (λ none. inr (λ h. none (any_cases P x xs h))) (either_or_not (each x) (any_or_not P each xs))

-- Lists

pub same_places : {X : Type 0} (P Q : X → Type 0) → ((p : X) → P p → Q p) → ((p : X) → Q p → P p) → IsListed P → IsListed Q
same_places P Q to from (places, exact) = (places, λ p. (λ c. to p ((exact p).0 c), λ q. (exact p).1 (from p q)))

pub no_place : {X : Type 0} (P : X → Type 0) → ((p : X) → P p → ⊥) → IsListed P
no_place P none = ([], λ p. (λ c. absurd (contains_none p c), λ h. absurd (none p h)))

only_one : {X : Type 0} (q p : X) → Contains (q ∷ []) p → p ≡ q
only_one q p c = ⊎_elim (λ (e : q ≡ p). sym e) (λ (more : Contains [] p). absurd (contains_none p more)) (contains_cases q [] p c)

pub one_place : {X : Type 0} (q : X) → IsListed (λ p. p ≡ q)
one_place q = (q ∷ [], λ p. (only_one q p, λ e. contains_more q [] p (inl (sym e))))

pub either_place : {X : Type 0} (P Q : X → Type 0) → IsListed P → IsListed Q → IsListed (λ p. P p ⊎ Q p)
either_place P Q (ps, exact) (qs, other) = (
  ps ++ qs,
  λ p. (
    λ c. ⊎_elim (λ (here : Contains ps p). inl ((exact p).0 here)) (λ (there : Contains qs p). inr ((other p).0 there)) (Contains-append_cases ps qs p c),
    λ h. ⊎_elim (λ (here : P p). Contains-append_left ps qs p ((exact p).1 here)) (λ (there : Q p). Contains-append_right ps qs p ((other p).1 there)) h,
  ),
)

-- the one place of a property that holds, or no place
pub when : {X : Type 0} (D : Type 0) → D ⊎ (D → ⊥) → (q : X) → IsListed (λ p. (q ≡ p) × D)
when D (inl d) q = same_places (λ p. p ≡ q) (λ p. (q ≡ p) × D) (λ p e. (sym e, d)) (λ p h. sym h.0) (one_place q)
when D (inr none) q = no_place (λ p. (q ≡ p) × D) (λ p h. none h.1)

-- the things that have a property at some element
pub of_any : {X Y : Type 0} (xs : List X) (Holds : X → Y → Type 0) → ((x : X) → IsListed (Holds x)) → IsListed (λ p. Any (λ x. Holds x p) xs)
of_any [] Holds each = no_place (λ p. Any (λ x. Holds x p) []) (λ p. any_none (λ x. Holds x p))
of_any (x ∷ xs) Holds each =
    same_places (λ p. Holds x p ⊎ Any (λ y. Holds y p) xs) (λ p. Any (λ y. Holds y p) (x ∷ xs))
    (λ p. any_more (λ y. Holds y p) x xs) (λ p. any_cases (λ y. Holds y p) x xs)
    (either_place (Holds x) (λ p. Any (λ y. Holds y p) xs) (each x) (of_any xs Holds each))

-- the things that have a property at some element with its index

none_at : {X : Type 0} (Holds : ℕ → X → Type 0) → AtSome Holds [] → ⊥
none_at Holds (index, x, e, h) = none-some x e

at_cases : {X : Type 0} (Holds : ℕ → X → Type 0) (x : X) (xs : List X) → AtSome Holds (x ∷ xs) → Holds 0 x ⊎ AtSome (λ index. Holds (suc index)) xs
at_cases Holds x xs (zero, y, e, h) = inl (subst (Holds 0) (sym (same_Some x y e)) h)
at_cases Holds x xs (suc index, y, e, h) = inr (index, y, e, h)

at_more : {X : Type 0} (Holds : ℕ → X → Type 0) (x : X) (xs : List X) → Holds 0 x ⊎ AtSome (λ index. Holds (suc index)) xs → AtSome Holds (x ∷ xs)
at_more Holds x xs (inl h) = (0, x, refl, h)
at_more Holds x xs (inr (index, y, e, h)) = (suc index, y, e, h)

pub of_some : {X Y : Type 0} (xs : List X) (Holds : ℕ → X → Y → Type 0) → ((index : ℕ) (x : X) → IsListed (Holds index x)) → IsListed (λ p. AtSome (λ index x. Holds index x p) xs)
of_some [] Holds each = no_place (λ p. AtSome (λ index x. Holds index x p) []) (λ p. none_at (λ index x. Holds index x p))
of_some (x ∷ xs) Holds each =
    same_places (λ p. Holds 0 x p ⊎ AtSome (λ index z. Holds (suc index) z p) xs) (λ p. AtSome (λ index z. Holds index z p) (x ∷ xs))
    (λ p. at_more (λ index z. Holds index z p) x xs) (λ p. at_cases (λ index z. Holds index z p) x xs)
    (either_place (Holds 0 x) (λ p. AtSome (λ index z. Holds (suc index) z p) xs) (each 0 x) (of_some xs (λ index. Holds (suc index)) (λ index. each (suc index))))

-- Findings of one rule

at_rule : Rule → Place → Finding
at_rule rule place = record { place = place; rule = rule }

found_to : (rule : Rule) (places : List Place) (f : Finding) → Contains (map (at_rule rule) places) f → (f.rule ≡ rule) × Contains places f.place
unfolding at_rule
found_to rule [] f c = absurd (contains_none f c)
found_to rule (q ∷ qs) f c =
    ⊎_elim
    (λ (e : at_rule rule q ≡ f). (sym (ap (λ (g : Finding). g.rule) e), contains_more q qs f.place (inl (ap (λ (g : Finding). g.place) e))))
    (λ (more : Contains (map (at_rule rule) qs) f). let r = found_to rule qs f more in (r.0, contains_more q qs f.place (inr r.1)))
    (contains_cases (at_rule rule q) (map (at_rule rule) qs) f c)

found_from : (rule : Rule) (places : List Place) (f : Finding) → f.rule ≡ rule → Contains places f.place → Contains (map (at_rule rule) places) f
unfolding at_rule
found_from rule [] f e c = absurd (contains_none f.place c)
found_from rule (q ∷ qs) f e c =
    ⊎_elim
    (λ (is : q ≡ f.place). contains_more (at_rule rule q) (map (at_rule rule) qs) f (inl (λ j. record { place = is j; rule = sym e j })))
    (λ (more : Contains qs f.place). contains_more (at_rule rule q) (map (at_rule rule) qs) f (inr (found_from rule qs f e more)))
    (contains_cases q qs f.place c)

-- the findings of a rule whose places are listed
pub of_rule : (rule : Rule) (P : Place → Type 0) → IsListed P → IsListed (λ (f : Finding). (f.rule ≡ rule) × P f.place)
of_rule rule P (places, exact) = (
  map (at_rule rule) places,
  λ f. (
    λ c. let r = found_to rule places f c in (r.0, (exact f.place).0 r.1),
    λ h. found_from rule places f h.0 ((exact f.place).1 h.1),
  ),
)
