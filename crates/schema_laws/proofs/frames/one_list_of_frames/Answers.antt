use Rattle.schema_laws.proofs.OneList as law
use Rattle.schema_laws.proofs.frames.one_list_of_frames.Goals as goal

pub returns : goal.returns
returns c = law.one_list_of_frames
