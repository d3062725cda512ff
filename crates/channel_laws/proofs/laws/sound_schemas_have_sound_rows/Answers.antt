use Rattle.channel_laws.proofs.Rows as law
use Rattle.channel_laws.proofs.laws.sound_schemas_have_sound_rows.Goals as goal

pub returns : goal.returns
returns c = law.sound_schemas_have_sound_rows
