use Rattle.std.proofs.Common.{◌≡◌, ◌+◌, ◌≤◌, ◌++◌, length, map}
use Rattle.std.specs.VecDeque.{deque_capacity}
use Rattle.end_parts.specs.declared.packet.Packet.TheVariants.{Bytes}
use Rattle.end_parts.proofs.end_output.move_frames.Given as goal

abbrev pub invariant-loop-request : goal.invariant-loop-request
invariant-loop-request l = record {
  moved : l.packets.items ++ map (λ r. Bytes r.frame) l.outbox.items ≡ l.initial.packets.items ++ map (λ r. Bytes r.frame) l.initial.outbox.items;
  capacity : deque_capacity l.packets ≡ deque_capacity l.initial.packets;
  outbox_capacity : deque_capacity l.outbox ≡ deque_capacity l.initial.outbox;
  room : length l.packets.items + length l.outbox.items ≤ deque_capacity l.packets;
}

abbrev pub decreases-loop-request : goal.decreases-loop-request
decreases-loop-request l = length l.outbox.items
