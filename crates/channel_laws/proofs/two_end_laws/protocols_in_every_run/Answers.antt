use Rattle.channel_laws.proofs.ProtocolRuns as law
use Rattle.channel_laws.proofs.two_end_laws.protocols_in_every_run.Goals as goal

pub returns : goal.returns
returns c = law.protocols_in_every_run
