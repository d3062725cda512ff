use Rattle.channel_laws.proofs.AllLaws as law
use Rattle.channel_laws.proofs.history_laws.histories_obey_all_laws.Goals as goal

pub returns : goal.returns
returns c = law.histories_obey_all_laws
