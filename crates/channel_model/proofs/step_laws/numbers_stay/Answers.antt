use Rattle.channel_model.proofs.Numbered as law
use Rattle.channel_model.proofs.step_laws.numbers_stay.Goals as goal

pub returns : goal.returns
returns c = law.numbers_stay
