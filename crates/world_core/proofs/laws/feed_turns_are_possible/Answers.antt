use Rattle.world_core.proofs.FeedEnds as law
use Rattle.world_core.proofs.laws.feed_turns_are_possible.Goals as goal

pub returns : goal.returns
returns c = law.feed_turns_are_possible
