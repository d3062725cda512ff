use Rattle.exploration_existence.proofs.Deciding as law
use Rattle.exploration_existence.proofs.laws.explorations_exist.Goals as goal

pub returns : goal.returns
returns c = law.explorations_exist
