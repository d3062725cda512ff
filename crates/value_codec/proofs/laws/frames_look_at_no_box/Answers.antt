use Rattle.value_codec.proofs.PlainFrames.{frame_plain}
use Rattle.value_codec.proofs.laws.frames_look_at_no_box.Goals as goal

pub returns : goal.returns
returns c = frame_plain
