-- Reports of one relation, and of relations that agree.
use Rattle.std.proofs.Common.{◌≡◌, List}
use Rattle.std.specs.Prelude.{◌↔◌}
use Rattle.std.specs.List.{Contains}
use Rattle.ipdl_base.specs.declared.finding.Finding.{Finding}
use Rattle.findings.specs.Report.{IsReport}
use Rattle.findings.proofs.One.{one_report}

-- whatever the rules are, there is at most one report
pub same_report : {Broken : Finding → Type 0} (a b : List Finding) → IsReport Broken a → IsReport Broken b → a ≡ b
same_report a b x y = one_report a b x.ordered y.ordered (λ f. (λ h. (y.exact f).1 ((x.exact f).0 h), λ h. (x.exact f).1 ((y.exact f).0 h)))

-- the report of a list whose members are exactly the broken findings is the report of the rules
pub report_of : {Broken : Finding → Type 0} (found report : List Finding) → ((f : Finding) → Contains found f ↔ Broken f) → IsReport (Contains found) report → IsReport Broken report
report_of found report broken x = record {
  ordered = x.ordered;
  exact = λ f. (λ h. (broken f).0 ((x.exact f).0 h), λ h. (x.exact f).1 ((broken f).1 h));
}
