use Rattle.file_existence.proofs.Findings as law
use Rattle.file_existence.proofs.laws.findings_are_listed.Goals as goal

pub returns : goal.returns
returns c = law.findings_are_listed
