use Rattle.std.proofs.Common.{ℕ, ◌≤◌, ◌<◌, ◌-◌, length}
use Rattle.std.specs.Prelude.{slice_index}
use Rattle.least_fixed_points.specs.Marking.{IsMarked}
use Rattle.least_fixed_points.proofs.marking.first_unmarked.Given as goal

-- the parts that were passed are marked
abbrev pub invariant-loop-at : goal.invariant-loop-at
invariant-loop-at l = (j : ℕ) → l.from ≤ j → j < l.at → j < length l.parts → IsMarked l.marks (slice_index l.parts j)

abbrev pub decreases-loop-at : goal.decreases-loop-at
decreases-loop-at l = length l.parts - l.at
