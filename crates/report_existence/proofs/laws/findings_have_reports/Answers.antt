use Rattle.report_existence.proofs.Sorted as law
use Rattle.report_existence.proofs.laws.findings_have_reports.Goals as goal

pub returns : goal.returns
returns c = law.findings_have_reports
