use Rattle.channel_laws.proofs.PrefixRuns as law
use Rattle.channel_laws.proofs.history_laws.histories_obey_prefix.Goals as goal

pub returns : goal.returns
returns c = law.histories_obey_prefix
