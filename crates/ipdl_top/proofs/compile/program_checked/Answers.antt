use Rattle.std.proofs.Common.{◌≡◌, ◌++◌, ◌∙◌, List, ℕ, ap, subst, sym}
use Rattle.std.specs.Option.{option_copied}
use Rattle.std.specs.Prelude.{IfOk, Option}
use Rattle.findings.proofs.Reports.{report_of}
use Rattle.ipdl_base.specs.declared.finding.Finding.{Finding}
use Rattle.sync_list.specs.declared.list.Section.{Section}
use Rattle.ipdl_top.specs.declared.checked.CheckResult.TheVariants as checked
use Rattle.ipdl_top.specs.declared.list.SyncListFile.{SyncListFile}
use Rattle.ipdl_top.specs.Lists.{list_names}
use Rattle.ipdl_top.specs.Steps.{IsListedChecked, IsRuleChecked, names_of}
use Rattle.ipdl_top.proofs.Gathered.{Has, of_one}
use Rattle.ipdl_top.proofs.compile.program_checked.Goals as goal

pub returns-in-Sections : goal.returns-in-Sections
returns-in-Sections c =
    let program = c.args.program.now in
    let word = option_copied c.args.list in
    subst (λ (listed : SyncListFile). IfOk c.rule_checked.result (IsListedChecked program listed word)) (sym c.in-Sections.is)
    (subst (λ (sections : Option (List Section)). IfOk c.rule_checked.result (IsRuleChecked program sections word)) c.as_ref.ensures.value c.rule_checked.ensures)

pub returns-in_ok-report_of-in-Broken : goal.returns-in_ok-report_of-in-Broken
returns-in_ok-report_of-in-Broken c =
    let program = c.args.program.now in
    let word = option_copied c.args.list in
    let finding = c.in-Broken.finding in
    let report = c.in_ok-report_of-in-Broken.field-0 in
    let found = c.in_ok-found-in-Broken.found.items in
    let has : Has found (λ f. f ≡ finding) = subst (λ (xs : List Finding). Has xs (λ f. f ≡ finding)) (sym c.in_ok-found-in-Broken.ensures.items) (of_one finding) in
    subst (λ (listed : SyncListFile). IsListedChecked program listed word (checked.Broken report)) (sym c.in-Broken.is) (record {
      is_report = report_of found report.findings has c.in_ok-report_of-in-Broken.ensures.is_report;
      called = c.in_ok-report_of-in-Broken.ensures.called ∙ ap (λ (names : List (List ℕ)). names ++ list_names word) (c.in_ok-names-in-Broken.ensures ∙ ap names_of c.as_slice.ensures);
    })
