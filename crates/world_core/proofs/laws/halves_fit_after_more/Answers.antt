use Rattle.world_core.proofs.SplitHalves as law
use Rattle.world_core.proofs.laws.halves_fit_after_more.Goals as goal

pub returns : goal.returns
returns c = law.halves_fit_after_more
