use Rattle.std.proofs.Common.{List, inl, inr, subst, arith}
use Rattle.std.specs.List.{Contains}
use Rattle.ipdl_base.specs.declared.finding.Finding.{Finding}
use Rattle.findings.proofs.Reports.{report_of}
use Rattle.handler_script.proofs.report.report_of.Goals as goal

pub returns : goal.returns
returns c =
    let one = c.in_ok-add_if.ensures in
    let two = c.in_ok-add_lines.ensures in
    let managed = c.has_manager-managed.ensures in
    report_of c.add_lines.new.found.items c.sort_findings.result (λ f. (
      (λ h. elim ((two.exact f).0 h) [
        | inl x ↦ elim ((one.exact f).0 x) [
          | inl none ↦ (let P : List Finding → Type 0 = λ fs. Contains fs f in let z = subst P c.new-found.ensures.items none in let no : ⊥ = omega (arith, z.1) in absurd no)
          | inr y ↦ inl (y.1.0, y.0, managed.0 y.1.1)
        ]
        | inr y ↦ inr y
      ]),
      (λ h. elim h [ inl y ↦ (two.exact f).1 (inl ((one.exact f).1 (inr (y.1, (y.0, managed.1 y.2))))) | inr y ↦ (two.exact f).1 (inr y) ]),
    )) c.sort_findings.ensures
