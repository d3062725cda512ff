use Rattle.script_bounds.proofs.Bounds as law
use Rattle.script_bounds.proofs.laws.scripts_come_to_rest.Goals as goal

pub returns : goal.returns
returns c = law.scripts_come_to_rest
