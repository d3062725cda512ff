use Rattle.order_laws.proofs.Refusals as law
use Rattle.order_laws.proofs.effects.refused_acts_change_nothing.Goals as goal

pub returns : goal.returns
returns c = law.refused_acts_change_nothing
