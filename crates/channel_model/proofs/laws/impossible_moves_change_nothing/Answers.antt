use Rattle.channel_model.proofs.Histories as law
use Rattle.channel_model.proofs.laws.impossible_moves_change_nothing.Goals as goal

pub returns : goal.returns
returns c = law.impossible_moves_change_nothing
