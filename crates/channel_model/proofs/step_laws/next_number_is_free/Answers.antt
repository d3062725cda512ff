use Rattle.channel_model.proofs.Numbered as law
use Rattle.channel_model.proofs.step_laws.next_number_is_free.Goals as goal

pub returns : goal.returns
returns c = law.next_number_is_free
