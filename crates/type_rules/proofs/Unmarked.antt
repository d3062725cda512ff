-- The finding of a struct or union without a mark.
use Rattle.std.proofs.Common.{◌≡◌, List, [], ◌∷◌, ◌++◌, ap, sym}
use Rattle.ipdl_base.specs.declared.finding.Finding.{Finding}
use Rattle.ipdl_base.specs.declared.finding.Place.{Place}
use Rattle.ipdl_base.specs.declared.finding.Rule.{Rule}
use Rattle.findings.proofs.Same.{same_finding}
use Rattle.findings.specs.Gains.{Gains}
use Rattle.findings.proofs.Gathers.{Gains-like, Gains-none}
use Rattle.type_rules.proofs.Gains.{Gains-push}

-- a finding if this holds
pub Gains-unmarked : (r : Rule) (at : Place) (P : Type 0) (old new : List Finding) → P → new ≡ old ++ record { place = at; rule = r } ∷ [] → Gains (λ f. (f.rule ≡ r) × P × (at ≡ f.place)) old new
Gains-unmarked r at P old new holds e =
    let x : Finding = record { place = at; rule = r } in
    Gains-like (λ f. f ≡ x) (λ f. (f.rule ≡ r) × P × (at ≡ f.place)) old new (Gains-push x old new e)
    (λ f same. (ap (λ (y : Finding). y.rule) same, holds, sym (ap (λ (y : Finding). y.place) same)))
    (λ f h. same_finding f x (sym h.2) h.0)

-- no finding otherwise
pub Gains-marked : (r : Rule) (at : Place) (P : Type 0) (old new : List Finding) → ¬ P → new ≡ old → Gains (λ f. (f.rule ≡ r) × P × (at ≡ f.place)) old new
Gains-marked r at P old new not e = Gains-none (λ f. (f.rule ≡ r) × P × (at ≡ f.place)) old new (λ f h. not h.1) e
