-- How findings of any rules are gathered.
use Rattle.std.proofs.Common.{◌≡◌, ℕ, ◌+◌, ◌<◌, List, [], ◌∷◌, ◌++◌, length, take, get_or, Option, Some, None, ◌⊎◌, inl, inr, subst, sym, ap, refl, arith}
use Rattle.std.specs.Prelude.{IsSomeAnd}
use Rattle.std.specs.List.{Any, Contains}
use Rattle.std.proofs.lemmas.List.{take_more, length-take}
use Rattle.std.proofs.lemmas.List.Elements.{Contains-push, Contains-push_cases, Contains-append_left}
use Rattle.std.proofs.lemmas.List.Quantifiers.{Any-push}
use Rattle.ipdl_base.specs.declared.finding.Finding.{Finding}
use Rattle.ipdl_base.specs.declared.finding.Place.{Place}
use Rattle.ipdl_base.specs.declared.finding.Rule.{Rule}
use Rattle.findings.specs.Adds.{Adds}
use Rattle.findings.specs.Gains.{Gains, AtSome}
use Rattle.findings.proofs.Elements.{any_cases, any_left}
use Rattle.findings.proofs.Indexed.{AtSome-cases, AtSome-left, AtSome-push}
use Rattle.findings.proofs.Same.{same_finding}

-- nothing is gained if the property holds nowhere
pub Gains-none : (P : Finding → Type 0) (old new : List Finding) → ((f : Finding) → ¬ P f) → new ≡ old → Gains P old new
Gains-none P old new none same = rw same (record { exact = λ f. (λ h. inl h, λ h. elim h [ inl a ↦ a | inr b ↦ absurd (none f b) ]) })

-- the same, in other words
pub Gains-like : (P Q : Finding → Type 0) (old new : List Finding) → Gains P old new → ((f : Finding) → P f → Q f) → ((f : Finding) → Q f → P f) → Gains Q old new
Gains-like P Q old new gains to back = record {
  exact = λ f. (
    λ h. elim ((gains.exact f).0 h) [ inl a ↦ inl a | inr b ↦ inr (to f b) ],
    λ h. (gains.exact f).1 (elim h [ inl a ↦ inl a | inr b ↦ inr (back f b) ]),
  );
}

-- one more finding
pub Gains-push : (rule : Rule) (at : Place) (old new : List Finding) → new ≡ old ++ record { place = at; rule = rule } ∷ [] → Gains (λ f. (f.rule ≡ rule) × (at ≡ f.place)) old new
Gains-push rule at old new e =
    let x : Finding = record { place = at; rule = rule } in
    rw e
    (record {
      exact = λ f. (
        λ h. elim (Contains-push_cases old x f h) [ inl a ↦ inl a | inr e ↦ inr (sym (ap (λ (y : Finding). y.rule) e), ap (λ (y : Finding). y.place) e) ],
        λ h. elim h [
          | inl a ↦ Contains-append_left old (x ∷ []) f a
          | inr b ↦ (let P : Finding → Type 0 = λ y. Contains (old ++ x ∷ []) y in subst P (same_finding x f b.1 (sym b.0)) (Contains-push old x))
        ],
      );
    })

-- one gain, and another after it
pub Gains-then : (P Q : Finding → Type 0) (a b c : List Finding) → Gains P a b → Gains Q b c → Gains (λ f. P f ⊎ Q f) a c
Gains-then P Q a b c one two = record {
  exact = λ f. (
    λ h. elim ((two.exact f).0 h) [
      | inl x ↦ elim ((one.exact f).0 x) [ inl y ↦ inl y | inr z ↦ inr (inl z) ]
      | inr y ↦ inr (inr y)
    ],
    λ h. elim h [
      | inl x ↦ (two.exact f).1 (inl ((one.exact f).1 (inl x)))
      | inr y ↦ elim y [ inl z ↦ (two.exact f).1 (inl ((one.exact f).1 (inr z))) | inr z ↦ (two.exact f).1 (inr z) ]
    ],
  );
}

-- the findings of one rule
pub Gains-rule : (rule : Rule) (P : Place → Type 0) (old new : List Finding) → Adds rule P old new → Gains (λ f. (f.rule ≡ rule) × P f.place) old new
Gains-rule rule P old new adds = record { exact = adds.exact }

-- at no element
pub Gains-at_none : {X : Type 0} (P : Finding → X → Type 0) (old : List Finding) → Gains (λ f. Any (P f) []) old old
Gains-at_none P old = Gains-none (λ f. Any (P f) []) old old (λ f h. let no : ⊥ = omega (arith, h.2) in no) refl

-- the findings of one more element
pub Gains-more : {X : Type 0} (P : Finding → X → Type 0) (xs : List X) (i : ℕ) (d : X) (a b c : List Finding) → i < length xs → Gains (λ f. Any (P f) (take i xs)) a b → Gains (λ f. P f (get_or xs i d)) b c → Gains (λ f. Any (P f) (take (i + 1) xs)) a c
Gains-more P xs i d a b c lt one two =
    rw (take_more xs i d lt)
    (Gains-like (λ f. Any (P f) (take i xs) ⊎ P f (get_or xs i d)) (λ f. Any (P f) (take i xs ++ get_or xs i d ∷ [])) a c
    (Gains-then (λ f. Any (P f) (take i xs)) (λ f. P f (get_or xs i d)) a b c one two)
    (λ f h. elim h [ inl x ↦ any_left (P f) (take i xs) (get_or xs i d ∷ []) x | inr y ↦ Any-push (P f) (take i xs) (get_or xs i d) y ])
    (λ f h. any_cases (P f) (take i xs) (get_or xs i d) h))

-- at no index
pub Gains-nowhere : {X : Type 0} (P : Finding → ℕ → X → Type 0) (old : List Finding) → Gains (λ f. AtSome (P f) []) old old
Gains-nowhere P old = Gains-none (λ f. AtSome (P f) []) old old (λ f h. let at = h.2 in let no : ⊥ = cc in no) refl

-- the findings of one more element and its index
pub Gains-at_more : {X : Type 0} (P : Finding → ℕ → X → Type 0) (xs : List X) (i : ℕ) (d : X) (a b c : List Finding) → i < length xs → Gains (λ f. AtSome (P f) (take i xs)) a b → Gains (λ f. P f i (get_or xs i d)) b c → Gains (λ f. AtSome (P f) (take (i + 1) xs)) a c
Gains-at_more {X} P xs i d a b c lt one two =
    let y = get_or xs i d in
    let long : length (take i xs) ≡ i = omega (arith, length-take i xs, lt) in
    rw (take_more xs i d lt)
    (Gains-like (λ f. AtSome (P f) (take i xs) ⊎ P f i y) (λ f. AtSome (P f) (take i xs ++ y ∷ [])) a c
    (Gains-then (λ f. AtSome (P f) (take i xs)) (λ f. P f i y) a b c one two)
    (λ f h. elim h [ inl x ↦ AtSome-left (P f) (take i xs) y x | inr z ↦ AtSome-push (P f) (take i xs) y (let Q : ℕ → Type 0 = λ n. P f n y in subst Q (sym long) z) ])
    (λ f h. elim (AtSome-cases (P f) (take i xs) y h) [ inl x ↦ inl x | inr z ↦ inr (let Q : ℕ → Type 0 = λ n. P f n y in subst Q long z) ]))

-- the findings of the value of an option
pub Gains-of_some : {X : Type 0} (P : Finding → X → Type 0) (o : Option X) (x : X) (old new : List Finding) → o ≡ Some x → Gains (λ f. P f x) old new → Gains (λ f. IsSomeAnd o (P f)) old new
Gains-of_some {X} P o x old new e gains = let Q : Option X → Type 0 = λ o. Gains (λ f. IsSomeAnd o (P f)) old new in subst Q (sym e) gains

-- or of no value
pub Gains-of_none : {X : Type 0} (P : Finding → X → Type 0) (o : Option X) (old new : List Finding) → o ≡ None → new ≡ old → Gains (λ f. IsSomeAnd o (P f)) old new
Gains-of_none {X} P o old new e same = Gains-none (λ f. IsSomeAnd o (P f)) old new (λ f h. let Q : Option X → Type 0 = λ o. IsSomeAnd o (P f) in subst Q e h) same
