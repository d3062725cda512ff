use Rattle.channel_model.proofs.Events as law
use Rattle.channel_model.proofs.step_laws.events_have_their_lines.Goals as goal

pub returns : goal.returns
returns c = law.events_have_their_lines
