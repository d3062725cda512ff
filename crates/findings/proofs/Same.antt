-- When two findings are the same.
use Rattle.std.proofs.Common.{◌≡◌, ap, ◌∙◌}
use Rattle.ipdl_base.specs.declared.finding.Finding.{Finding}
use Rattle.ipdl_base.specs.declared.finding.Place.{Place}
use Rattle.ipdl_base.specs.declared.finding.Rule.{Rule}

finding_of : Place → Rule → Finding
finding_of place rule = record { place = place; rule = rule }

-- findings of one place and one rule are the same
pub same_finding : (a b : Finding) → a.place ≡ b.place → a.rule ≡ b.rule → a ≡ b
unfolding finding_of
same_finding a b p r = ap (λ q. finding_of q a.rule) p ∙ ap (finding_of b.place) r
