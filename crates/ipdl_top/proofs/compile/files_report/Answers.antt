use Rattle.std.proofs.Common.{◌++◌, ◌∙◌, List, ℕ, ap}
use Rattle.std.specs.Option.{option_copied}
use Rattle.std.proofs.lemmas.Result.{IfOk-weaker}
use Rattle.findings.proofs.Reports.{report_of}
use Rattle.ipdl_top.specs.Lists.{list_names}
use Rattle.ipdl_top.proofs.compile.files_report.Goals as goal

pub returns : goal.returns
returns c =
    IfOk-weaker c.report_of.result _ _
    (λ report reports. record {
      is_report = report_of c.in_ok-found.found.items report.findings c.in_ok-found.ensures reports.is_report;
      called = reports.called ∙ ap (λ (names : List (List ℕ)). names ++ list_names (option_copied c.args.list)) c.into_vec.ensures;
    })
    c.report_of.ensures
