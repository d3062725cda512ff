use Rattle.channel_model.proofs.KnownSteps as law
use Rattle.channel_model.proofs.step_laws.first_actors_are_known.Goals as goal

pub returns : goal.returns
returns c = law.first_actors_are_known
