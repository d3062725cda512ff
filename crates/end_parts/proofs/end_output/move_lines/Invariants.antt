use Rattle.std.proofs.Common.{◌≡◌, ◌+◌, ◌≤◌, ◌++◌, length}
use Rattle.std.specs.VecDeque.{deque_capacity}
use Rattle.end_parts.proofs.end_output.move_lines.Given as goal

abbrev pub invariant-loop-line : goal.invariant-loop-line
invariant-loop-line l = record {
  moved : l.into.lines ++ l.lines.items ≡ l.initial.into.lines ++ l.initial.lines.items;
  capacity : deque_capacity l.lines ≡ deque_capacity l.initial.lines;
  room : length l.lines.items ≤ l.into.spare;
  spare : l.initial.into.spare + length l.lines.items ≤ l.into.spare + length l.initial.lines.items;
}

abbrev pub decreases-loop-line : goal.decreases-loop-line
decreases-loop-line l = length l.lines.items
