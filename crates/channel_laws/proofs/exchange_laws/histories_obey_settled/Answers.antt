use Rattle.channel_laws.proofs.SettledRuns as law
use Rattle.channel_laws.proofs.exchange_laws.histories_obey_settled.Goals as goal

pub returns : goal.returns
returns c = law.histories_obey_settled
