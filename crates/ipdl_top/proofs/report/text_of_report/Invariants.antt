use Rattle.std.proofs.Common.{◌≡◌, take}
use Rattle.ipdl_top.specs.Report.{report_text}
use Rattle.ipdl_top.proofs.report.text_of_report.Given as goal

-- the lines of the findings so far
abbrev pub invariant-loop-finding : goal.invariant-loop-finding
invariant-loop-finding l = l.text.items ≡ report_text l.names (take l.finding-index l.finding-items)
