use Rattle.channel_laws.proofs.ProtocolRuns as law
use Rattle.channel_laws.proofs.two_end_laws.types_tell_who_lives.Goals as goal

pub returns : goal.returns
returns c = law.types_tell_who_lives
