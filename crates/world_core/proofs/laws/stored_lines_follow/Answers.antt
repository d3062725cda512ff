use Rattle.world_core.proofs.SplitHalves as law
use Rattle.world_core.proofs.laws.stored_lines_follow.Goals as goal

pub returns : goal.returns
returns c = law.stored_lines_follow
