use Rattle.run_existence.proofs.Waits as law
use Rattle.run_existence.proofs.laws.wait_reports_exist.Goals as goal

pub returns : goal.returns
returns c = law.wait_reports_exist
