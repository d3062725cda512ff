use Rattle.program_schema.proofs.Soundness as law
use Rattle.program_schema.proofs.laws.clean_is_sound.Goals as goal

pub returns : goal.returns
returns c = law.clean_is_sound
