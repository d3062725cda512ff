use Rattle.exploration_laws.proofs.Ways as law
use Rattle.exploration_laws.proofs.laws.ways_are_run.Goals as goal

pub returns : goal.returns
returns c = law.ways_are_run
