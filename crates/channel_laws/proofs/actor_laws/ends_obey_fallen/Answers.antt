use Rattle.channel_laws.proofs.FallenRuns as law
use Rattle.channel_laws.proofs.actor_laws.ends_obey_fallen.Goals as goal

pub returns : goal.returns
returns c = law.ends_obey_fallen
