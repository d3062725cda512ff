use Rattle.channel_model.proofs.Histories as law
use Rattle.channel_model.proofs.laws.moves_go_one_after_another.Goals as goal

pub returns : goal.returns
returns c = law.moves_go_one_after_another
