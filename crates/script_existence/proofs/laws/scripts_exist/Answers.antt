use Rattle.script_existence.proofs.Scripts as law
use Rattle.script_existence.proofs.laws.scripts_exist.Goals as goal

pub returns : goal.returns
returns c = law.scripts_exist
