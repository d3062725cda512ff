use Rattle.wait_laws.proofs.Interruptions as law
use Rattle.wait_laws.proofs.laws.reports_are_whole.Goals as goal

pub returns : goal.returns
returns c = law.reports_are_whole
