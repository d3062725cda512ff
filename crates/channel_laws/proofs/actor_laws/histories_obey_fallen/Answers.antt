use Rattle.channel_laws.proofs.FallenRuns as law
use Rattle.channel_laws.proofs.actor_laws.histories_obey_fallen.Goals as goal

pub returns : goal.returns
returns c = law.histories_obey_fallen
