use Rattle.run_existence.proofs.Frames as law
use Rattle.run_existence.proofs.laws.bytes_have_frames.Goals as goal

pub returns : goal.returns
returns c = law.bytes_have_frames
