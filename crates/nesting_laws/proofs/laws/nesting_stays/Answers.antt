use Rattle.nesting_laws.proofs.NestedSteps as law
use Rattle.nesting_laws.proofs.laws.nesting_stays.Goals as goal

pub returns : goal.returns
returns c = law.nesting_stays
