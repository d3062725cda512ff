use Rattle.alone_laws.proofs.AloneRuns as law
use Rattle.alone_laws.proofs.laws.one_end_obeys_fallen.Goals as goal

pub returns : goal.returns
returns c = law.one_end_obeys_fallen
