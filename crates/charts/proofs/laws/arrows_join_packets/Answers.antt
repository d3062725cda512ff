use Rattle.charts.proofs.Joins as law
use Rattle.charts.proofs.laws.arrows_join_packets.Goals as goal

pub returns : goal.returns
returns c = law.arrows_join_packets
