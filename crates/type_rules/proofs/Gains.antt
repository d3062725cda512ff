-- How findings of any rules are gathered, where a loop knows its element as one of the list.
use Rattle.std.proofs.Common.{◌≡◌, ℕ, ◌+◌, ◌<◌, List, [], ◌∷◌, ◌++◌, length, map, take, get_or, inl, inr, subst, sym}
use Rattle.std.specs.List.{Any, Contains}
use Rattle.std.proofs.lemmas.List.Elements.{Contains-push, Contains-push_cases, Contains-append_left}
use Rattle.ipdl_base.specs.declared.finding.Finding.{Finding}
use Rattle.findings.specs.Gains.{Gains, AtSome}
use Rattle.findings.proofs.Gathers.{Gains-like, Gains-more, Gains-at_more}
use Rattle.type_rules.proofs.Lists.{any_of_map, any_to_map}

-- one more finding
pub Gains-push : (x : Finding) (old new : List Finding) → new ≡ old ++ x ∷ [] → Gains (λ f. f ≡ x) old new
Gains-push x old new e =
    let Q : List Finding → Type 0 = Gains (λ f. f ≡ x) old in
    subst Q (sym e) (record {
      exact = λ f. (
        λ h. elim (Contains-push_cases old x f h) [ inl a ↦ inl a | inr same ↦ inr (sym same) ],
        λ h. elim h [
          | inl a ↦ Contains-append_left old (x ∷ []) f a
          | inr same ↦ (let P : Finding → Type 0 = Contains (old ++ x ∷ []) in subst P (sym same) (Contains-push old x))
        ],
      );
    })

-- a turn of a loop over a list: the findings of the first elements, and then those of the next
pub Gains-turn : {X : Type 0} (P : Finding → X → Type 0) (xs : List X) (i : ℕ) (x : X) (a b c : List Finding) → i < length xs → x ≡ get_or xs i x → Gains (λ f. Any (P f) (take i xs)) a b → Gains (λ f. P f x) b c → Gains (λ f. Any (P f) (take (i + 1) xs)) a c
Gains-turn {X} P xs i x a b c lt is one two =
    let Q : X → Type 0 = λ y. Gains (λ f. P f y) b c in
    Gains-more P xs i x a b c lt one (subst Q is two)

-- the same with the index of an element
pub Gains-at_turn : {X : Type 0} (P : Finding → ℕ → X → Type 0) (xs : List X) (i : ℕ) (x : X) (a b c : List Finding) → i < length xs → x ≡ get_or xs i x → Gains (λ f. AtSome (P f) (take i xs)) a b → Gains (λ f. P f i x) b c → Gains (λ f. AtSome (P f) (take (i + 1) xs)) a c
Gains-at_turn {X} P xs i x a b c lt is one two =
    let Q : X → Type 0 = λ y. Gains (λ f. P f i y) b c in
    Gains-at_more P xs i x a b c lt one (subst Q is two)

-- the findings of a list that the code has in another form
pub Gains-listed : {Y Z : Type 0} (P : Finding → Z → Type 0) (view : Y → Z) (ys : List Y) (zs : List Z) (old new : List Finding) → map view ys ≡ zs → Gains (λ f. Any (λ y. P f (view y)) ys) old new → Gains (λ f. Any (P f) zs) old new
Gains-listed {Y} {Z} P view ys zs old new same gains =
    let Q : List Z → Type 0 = λ l. Gains (λ f. Any (P f) l) old new in
    subst Q same (Gains-like (λ f. Any (λ y. P f (view y)) ys) (λ f. Any (P f) (map view ys)) old new gains (λ f. any_to_map view (P f) ys) (λ f. any_of_map view (P f) ys))
