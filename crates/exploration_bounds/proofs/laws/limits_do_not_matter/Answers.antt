use Rattle.exploration_bounds.proofs.Limits as law
use Rattle.exploration_bounds.proofs.laws.limits_do_not_matter.Goals as goal

pub returns : goal.returns
returns c = law.limits_do_not_matter
