use Rattle.script_bounds.proofs.Bounds as law
use Rattle.script_bounds.proofs.laws.runs_are_bounded.Goals as goal

pub returns : goal.returns
returns c = law.runs_are_bounded
