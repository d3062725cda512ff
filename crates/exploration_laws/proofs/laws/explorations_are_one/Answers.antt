use Rattle.exploration_laws.proofs.One as law
use Rattle.exploration_laws.proofs.laws.explorations_are_one.Goals as goal

pub returns : goal.returns
returns c = law.explorations_are_one
