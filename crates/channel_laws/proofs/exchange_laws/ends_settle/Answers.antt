use Rattle.channel_laws.proofs.SettledRuns as law
use Rattle.channel_laws.proofs.exchange_laws.ends_settle.Goals as goal

pub returns : goal.returns
returns c = law.ends_settle
