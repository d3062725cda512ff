use Rattle.exploration_laws.proofs.Ways as law
use Rattle.exploration_laws.proofs.laws.ways_differ.Goals as goal

pub returns : goal.returns
returns c = law.ways_differ
