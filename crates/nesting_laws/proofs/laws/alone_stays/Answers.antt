use Rattle.nesting_laws.proofs.AloneSteps as law
use Rattle.nesting_laws.proofs.laws.alone_stays.Goals as goal

pub returns : goal.returns
returns c = law.alone_stays
