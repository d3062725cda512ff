use Rattle.channel_laws.proofs.WaitLaw as law
use Rattle.channel_laws.proofs.history_laws.histories_obey_waits.Goals as goal

pub returns : goal.returns
returns c = law.histories_obey_waits
