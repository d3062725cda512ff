use Rattle.std.proofs.Common.{◌+◌, ◌*◌, length}
use Rattle.least_fixed_points.specs.Marking.{unmarked}
use Rattle.least_fixed_points.proofs.Working.{Working}
use Rattle.least_fixed_points.proofs.nodes.least_fixed_point.Given as goal

-- what is known while nodes leave the work
abbrev pub invariant-loop-part : goal.invariant-loop-part
invariant-loop-part l = Working l.nodes l.users.items l.marks.items l.work.items l.seen.items

abbrev pub decreases-loop-part : goal.decreases-loop-part
decreases-loop-part l = 2 * unmarked l.marks.items + length l.work.items
