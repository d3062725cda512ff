use Rattle.channel_laws.proofs.GivingWay as law
use Rattle.channel_laws.proofs.laws.waits_give_way.Goals as goal

pub returns : goal.returns
returns c = law.waits_give_way
