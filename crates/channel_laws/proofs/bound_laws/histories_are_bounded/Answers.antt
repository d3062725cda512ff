use Rattle.channel_laws.proofs.BoundedRuns as law
use Rattle.channel_laws.proofs.bound_laws.histories_are_bounded.Goals as goal

pub returns : goal.returns
returns c = law.histories_are_bounded
