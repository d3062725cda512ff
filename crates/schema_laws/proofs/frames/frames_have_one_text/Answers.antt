use Rattle.schema_laws.proofs.OneText as law
use Rattle.schema_laws.proofs.frames.frames_have_one_text.Goals as goal

pub returns : goal.returns
returns c = law.one_text c.boxes_say_nothing.ensures
