use Rattle.value_codec.proofs.Cases.{one_spelling}
use Rattle.value_codec.proofs.laws.frames_have_one_spelling.Goals as goal

pub returns : goal.returns
returns c = one_spelling
