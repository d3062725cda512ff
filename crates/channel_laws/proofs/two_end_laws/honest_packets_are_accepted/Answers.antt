use Rattle.channel_laws.proofs.HonestRuns as law
use Rattle.channel_laws.proofs.two_end_laws.honest_packets_are_accepted.Goals as goal

pub returns : goal.returns
returns c = law.honest_packets_are_accepted
