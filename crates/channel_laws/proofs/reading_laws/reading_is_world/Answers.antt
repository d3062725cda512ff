use Rattle.channel_laws.proofs.WorldReading as law
use Rattle.channel_laws.proofs.reading_laws.reading_is_world.Goals as goal

pub returns : goal.returns
returns c = law.reading_is_world
