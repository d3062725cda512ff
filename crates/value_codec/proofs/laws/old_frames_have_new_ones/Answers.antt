use Rattle.value_codec.proofs.Cases.{old_has_new}
use Rattle.value_codec.proofs.laws.old_frames_have_new_ones.Goals as goal

pub returns : goal.returns
returns c = old_has_new
