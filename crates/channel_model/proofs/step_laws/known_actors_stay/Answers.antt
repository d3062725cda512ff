use Rattle.channel_model.proofs.KnownSteps as law
use Rattle.channel_model.proofs.step_laws.known_actors_stay.Goals as goal

pub returns : goal.returns
returns c = law.known_actors_stay
