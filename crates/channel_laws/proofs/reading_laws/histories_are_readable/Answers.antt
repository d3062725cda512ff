use Rattle.channel_laws.proofs.Readable as law
use Rattle.channel_laws.proofs.reading_laws.histories_are_readable.Goals as goal

pub returns : goal.returns
returns c = law.histories_are_readable
