-- Findings that are listed have a report: in their order, each once.
use Rattle.std.proofs.Common.{◌≡◌, ◌⊎◌, List, refl, ap, ◌∙◌, inl, inr, Ordering, Less, Equal, Greater}
use Rattle.std.specs.Cmp.{Equal-is}
use Rattle.std.specs.Ordering.{ordering_reverse}
use Rattle.ipdl_base.specs.declared.finding.Finding.{Finding}
use Rattle.findings.specs.Order.{finding_cmp}
use Rattle.findings.specs.Report.{IsReport}
use Rattle.findings.proofs.Order.{finding_total, same_by_tie}
use Rattle.findings.proofs.Reports.{report_of as report_of_list}
use Rattle.report_existence.specs.Laws.{IsListed, FindingsHaveReports}
use Rattle.report_existence.proofs.Ordered.{IsOrder, in_order}

abbrev IsBefore : Finding → Finding → Type 0
IsBefore a b = finding_cmp a b ≡ Less

compared : (order : Ordering) (a b : Finding) → finding_cmp a b ≡ order → IsBefore a b ⊎ ((a ≡ b) ⊎ IsBefore b a)
compared Less a b e = inl e
compared Equal a b e = inr (inl (same_by_tie a b ((Equal-is (finding_cmp a b)).1 e)))
compared Greater a b e = inr (inr (finding_total.antisymm b a ∙ ap ordering_reverse e))

order_of_findings : IsOrder (λ (f : Finding). Unit {0}) IsBefore
order_of_findings = record { compared = λ a b ta tb. compared (finding_cmp a b) a b refl; trans = λ a b c ta tb tc. finding_total.trans a b c }

pub findings_have_reports : FindingsHaveReports
findings_have_reports found =
    let s = in_order order_of_findings found (λ f c. tt) in (s.0, record { ordered = s.1; exact = s.2 })

pub report_of : (Broken : Finding → Type 0) → IsListed Broken → (report : List Finding) × IsReport Broken report
report_of Broken (found, exact) = let r = findings_have_reports found in (r.0, report_of_list found r.0 exact r.1)
