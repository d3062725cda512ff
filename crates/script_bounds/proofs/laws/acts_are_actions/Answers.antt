use Rattle.script_bounds.proofs.Bounds as law
use Rattle.script_bounds.proofs.laws.acts_are_actions.Goals as goal

pub returns : goal.returns
returns c = law.acts_are_actions
