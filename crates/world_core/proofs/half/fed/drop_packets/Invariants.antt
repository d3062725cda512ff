use Rattle.std.proofs.Common.{◌≡◌, length}
use Rattle.world_core.proofs.half.fed.drop_packets.Given as goal

abbrev pub invariant-loop : goal.invariant-loop
invariant-loop l = l.end ≡ record l.initial.end { packets = l.end.packets }

abbrev pub decreases-loop : goal.decreases-loop
decreases-loop l = length l.end.packets
