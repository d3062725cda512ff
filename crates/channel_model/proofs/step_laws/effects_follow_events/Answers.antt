use Rattle.channel_model.proofs.Follow as law
use Rattle.channel_model.proofs.step_laws.effects_follow_events.Goals as goal

pub returns : goal.returns
returns c = law.effects_follow_events
