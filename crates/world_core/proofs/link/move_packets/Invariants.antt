use Rattle.std.proofs.Common.{◌≡◌, ◌+◌, ◌≤◌, ◌++◌, length}
use Rattle.std.specs.VecDeque.{deque_capacity}
use Rattle.world_core.proofs.link.move_packets.Given as goal

abbrev pub invariant-loop-packet : goal.invariant-loop-packet
invariant-loop-packet l =
    (l.into.items ++ l.end.packets ≡ l.initial.into.items ++ l.initial.end.packets) × (l.end ≡ record l.initial.end { packets = l.end.packets })
    × (deque_capacity l.into ≡ deque_capacity l.initial.into) × (length l.into.items + length l.end.packets ≤ deque_capacity l.into)

abbrev pub decreases-loop-packet : goal.decreases-loop-packet
decreases-loop-packet l = length l.end.packets
