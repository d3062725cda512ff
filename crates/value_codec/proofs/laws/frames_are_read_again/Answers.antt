use Rattle.value_codec.proofs.Cases.{read_again}
use Rattle.value_codec.proofs.laws.frames_are_read_again.Goals as goal

pub returns : goal.returns
returns c = read_again
