use Rattle.channel_laws.proofs.EndsTold as law
use Rattle.channel_laws.proofs.laws.ends_are_recorded_in_runs.Goals as goal

pub returns : goal.returns
returns c = law.ends_are_recorded_in_runs
