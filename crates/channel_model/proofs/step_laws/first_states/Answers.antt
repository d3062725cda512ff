use Rattle.channel_model.proofs.StateSteps as law
use Rattle.channel_model.proofs.step_laws.first_states.Goals as goal

pub returns : goal.returns
returns c = law.first_states
