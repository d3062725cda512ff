use Rattle.channel_model.proofs.RunsKeep as law
use Rattle.channel_model.proofs.step_laws.numbers_in_every_run.Goals as goal

pub returns : goal.returns
returns c = law.numbers_in_every_run
