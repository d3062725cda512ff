use Rattle.channel_laws.proofs.EveryRun as law
use Rattle.channel_laws.proofs.laws.nesting_in_every_run.Goals as goal

pub returns : goal.returns
returns c = law.nesting_in_every_run
