use Rattle.channel_model.proofs.StateSteps as law
use Rattle.channel_model.proofs.step_laws.states_stay.Goals as goal

pub returns : goal.returns
returns c = law.states_stay
