-- How findings are gathered.
use Rattle.std.proofs.Common.{◌≡◌, ℕ, ◌+◌, ◌<◌, List, [], ◌∷◌, ◌++◌, length, take, get_or, ◌⊎◌, inl, inr, subst, sym, ap}
use Rattle.std.specs.List.{Any, Contains}
use Rattle.std.proofs.lemmas.List.{take_more}
use Rattle.std.proofs.lemmas.List.Elements.{Contains-push, Contains-push_cases, Contains-append_left}
use Rattle.std.proofs.lemmas.List.Quantifiers.{Any-push}
use Rattle.ipdl_base.specs.declared.finding.Finding.{Finding}
use Rattle.ipdl_base.specs.declared.finding.Place.{Place}
use Rattle.ipdl_base.specs.declared.finding.Rule.{Rule}
use Rattle.findings.specs.Adds.{Adds}
use Rattle.findings.proofs.Elements.{any_cases, any_left}
use Rattle.findings.proofs.Same.{same_finding}

-- nothing is added if the property holds nowhere
pub Adds-none : (rule : Rule) (P : Place → Type 0) (old : List Finding) → ((place : Place) → ¬ P place) → Adds rule P old old
Adds-none rule P old none = record { exact = λ f. (λ h. inl h, λ h. elim h [ inl a ↦ a | inr b ↦ absurd (none f.place b.1) ]) }

-- the same, in other words
pub Adds-like : (rule : Rule) (P Q : Place → Type 0) (old new : List Finding) → Adds rule P old new → ((place : Place) → P place → Q place) → ((place : Place) → Q place → P place) → Adds rule Q old new
Adds-like rule P Q old new adds to back = record {
  exact = λ f. (
    λ h. elim ((adds.exact f).0 h) [ inl a ↦ inl a | inr b ↦ inr (b.0, to f.place b.1) ],
    λ h. (adds.exact f).1 (elim h [ inl a ↦ inl a | inr b ↦ inr (b.0, back f.place b.1) ]),
  );
}

-- one more finding
pub Adds-push : (rule : Rule) (at : Place) (old : List Finding) → Adds rule (λ place. at ≡ place) old (old ++ record { place = at; rule = rule } ∷ [])
Adds-push rule at old =
    let x : Finding = record { place = at; rule = rule } in
    record {
      exact = λ f. (
        λ h. elim (Contains-push_cases old x f h) [ inl a ↦ inl a | inr e ↦ inr (sym (ap (λ (y : Finding). y.rule) e), ap (λ (y : Finding). y.place) e) ],
        λ h. elim h [
          | inl a ↦ Contains-append_left old (x ∷ []) f a
          | inr b ↦ (let P : Finding → Type 0 = λ y. Contains (old ++ x ∷ []) y in subst P (same_finding x f b.1 (sym b.0)) (Contains-push old x))
        ],
      );
    }

-- one gain, and another after it
pub Adds-then : (rule : Rule) (P Q : Place → Type 0) (a b c : List Finding) → Adds rule P a b → Adds rule Q b c → Adds rule (λ place. P place ⊎ Q place) a c
Adds-then rule P Q a b c one two = record {
  exact = λ f. (
    λ h. elim ((two.exact f).0 h) [
      | inl x ↦ elim ((one.exact f).0 x) [ inl y ↦ inl y | inr z ↦ inr (z.0, inl z.1) ]
      | inr y ↦ inr (y.0, inr y.1)
    ],
    λ h. elim h [
      | inl x ↦ (two.exact f).1 (inl ((one.exact f).1 (inl x)))
      | inr y ↦ elim y.1 [
        | inl z ↦ (two.exact f).1 (inl ((one.exact f).1 (inr (y.0, z))))
        | inr z ↦ (two.exact f).1 (inr (y.0, z))
      ]
    ],
  );
}

-- the findings of one more element
pub Adds-more : {X : Type 0} (rule : Rule) (P : Place → X → Type 0) (xs : List X) (i : ℕ) (d : X) (a b c : List Finding) → i < length xs → Adds rule (λ place. Any (P place) (take i xs)) a b → Adds rule (λ place. P place (get_or xs i d)) b c → Adds rule (λ place. Any (P place) (take (i + 1) xs)) a c
Adds-more rule P xs i d a b c lt one two =
    rw (take_more xs i d lt)
    (Adds-like rule (λ place. Any (P place) (take i xs) ⊎ P place (get_or xs i d)) (λ place. Any (P place) (take i xs ++ get_or xs i d ∷ [])) a c
    (Adds-then rule (λ place. Any (P place) (take i xs)) (λ place. P place (get_or xs i d)) a b c one two)
    (λ place h. elim h [ inl x ↦ any_left (P place) (take i xs) (get_or xs i d ∷ []) x | inr y ↦ Any-push (P place) (take i xs) (get_or xs i d) y ])
    (λ place h. any_cases (P place) (take i xs) (get_or xs i d) h))
