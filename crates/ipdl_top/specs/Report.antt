-- The text of a report.
use Rattle.std.specs.Prelude.{◌≡◌, ℕ, List, [], ◌++◌, codes, slice_get, unwrap_or}
use Rattle.std.specs.List.{flat_map}
use Rattle.std.specs.Fmt.{decimal}
use Rattle.ipdl_base.specs.declared.finding.Finding.{Finding}
use Rattle.ipdl_base.specs.declared.finding.Report.{Report}
use Rattle.ipdl_base.specs.Rules.{rule_line}
use Rattle.ipdl_top.specs.declared.answer.CommandAnswer.{CommandAnswer}
use Rattle.ipdl_top.specs.declared.status.Status.{Status}

-- the line of a finding in files that are called so, by their numbers
abbrev pub finding_line : List (List ℕ) → Finding → List ℕ
finding_line names f =
    unwrap_or (slice_get names f.place.file) [] ++ codes ":" ++ decimal f.place.line ++ codes ":" ++ decimal f.place.column ++ codes ": " ++ rule_line f.rule ++ codes "\n"

-- the text of a report on files that are called so
abbrev pub report_text : List (List ℕ) → List Finding → List ℕ
report_text names report = flat_map (finding_line names) report

-- the answer that is a report, with this status
abbrev pub broken_answer : Status → Report → CommandAnswer
broken_answer status report = record { status = status; out = []; err = report_text report.names report.findings }

-- The answer is a report with this property, and with this status.
pub record TellsReport (status : Status) (Holds : Report → Type 0) (answer : CommandAnswer) : Type 0 where
  pub report : Report
  pub holds : Holds report
  pub says : answer ≡ broken_answer status report
