use Rattle.exploration_bounds.proofs.Limits as law
use Rattle.exploration_bounds.proofs.laws.ways_finish.Goals as goal

pub returns : goal.returns
returns c = law.ways_finish
