use Rattle.channel_model.proofs.Histories as law
use Rattle.channel_model.proofs.laws.histories_grow.Goals as goal

pub returns : goal.returns
returns c = law.histories_grow
