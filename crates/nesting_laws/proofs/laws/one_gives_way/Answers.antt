use Rattle.nesting_laws.proofs.GivingWay as law
use Rattle.nesting_laws.proofs.laws.one_gives_way.Goals as goal

pub returns : goal.returns
returns c = law.one_gives_way
