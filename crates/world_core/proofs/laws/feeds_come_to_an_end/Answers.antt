use Rattle.world_core.proofs.FeedEnds as law
use Rattle.world_core.proofs.laws.feeds_come_to_an_end.Goals as goal

pub returns : goal.returns
returns c = law.feeds_come_to_an_end
