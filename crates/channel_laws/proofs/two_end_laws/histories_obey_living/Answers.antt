use Rattle.channel_laws.proofs.LivingRuns as law
use Rattle.channel_laws.proofs.two_end_laws.histories_obey_living.Goals as goal

pub returns : goal.returns
returns c = law.histories_obey_living
