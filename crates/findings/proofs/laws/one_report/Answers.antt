use Rattle.findings.proofs.One as one
use Rattle.findings.proofs.laws.one_report.Goals as goal

pub returns : goal.returns
returns c = one.one_report
