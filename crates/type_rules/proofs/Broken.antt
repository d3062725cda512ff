-- The finding of the rule that a type breaks.
use Rattle.std.proofs.Common.{◌≡◌, List, [], ◌∷◌, ◌++◌, Option, Some, None, ap, sym, subst, ◌∙◌}
use Rattle.std.specs.Prelude.{◌↔◌}
use Rattle.std.proofs.lemmas.Option.{same_Some, none-some}
use Rattle.ipdl_base.specs.declared.finding.Finding.{Finding}
use Rattle.ipdl_base.specs.declared.finding.Place.{Place}
use Rattle.ipdl_base.specs.declared.finding.Rule.{Rule}
use Rattle.findings.proofs.Same.{same_finding}
use Rattle.findings.specs.Gains.{Gains}
use Rattle.findings.proofs.Gathers.{Gains-like, Gains-none}
use Rattle.type_rules.proofs.Gains.{Gains-push}

-- the one rule that is broken at a place
pub Gains-rule : (P : Rule → Type 0) (at : Place) (o : Option Rule) (r : Rule) (old new : List Finding) → ((rule : Rule) → (o ≡ Some rule) ↔ P rule) → o ≡ Some r → new ≡ old ++ record { place = at; rule = r } ∷ [] → Gains (λ f. P f.rule × (at ≡ f.place)) old new
Gains-rule P at o r old new told is e =
    let x : Finding = record { place = at; rule = r } in
    Gains-like (λ f. f ≡ x) (λ f. P f.rule × (at ≡ f.place)) old new (Gains-push x old new e)
    (λ f same. (subst P (sym (ap (λ (y : Finding). y.rule) same)) ((told r).0 is), sym (ap (λ (y : Finding). y.place) same)))
    (λ f h. same_finding f x (sym h.1) (same_Some f.rule r (sym ((told f.rule).1 h.0) ∙ is)))

-- or no rule
pub Gains-no_rule : (P : Rule → Type 0) (at : Place) (o : Option Rule) (old new : List Finding) → ((rule : Rule) → (o ≡ Some rule) ↔ P rule) → o ≡ None → new ≡ old → Gains (λ f. P f.rule × (at ≡ f.place)) old new
Gains-no_rule P at o old new told is e = Gains-none (λ f. P f.rule × (at ≡ f.place)) old new (λ f h. none-some f.rule (sym is ∙ (told f.rule).1 h.0)) e
