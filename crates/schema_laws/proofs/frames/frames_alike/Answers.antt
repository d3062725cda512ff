use Rattle.schema_laws.proofs.Alike as law
use Rattle.schema_laws.proofs.frames.frames_alike.Goals as goal

pub returns : goal.returns
returns c = law.frames_alike
