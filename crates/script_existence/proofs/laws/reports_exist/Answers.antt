use Rattle.script_existence.proofs.Reports as law
use Rattle.script_existence.proofs.laws.reports_exist.Goals as goal

pub returns : goal.returns
returns c = law.reports_exist
