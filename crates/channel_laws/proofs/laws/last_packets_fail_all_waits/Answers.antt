use Rattle.channel_laws.proofs.FailedWaits as law
use Rattle.channel_laws.proofs.laws.last_packets_fail_all_waits.Goals as goal

pub returns : goal.returns
returns c = law.last_packets_fail_all_waits
