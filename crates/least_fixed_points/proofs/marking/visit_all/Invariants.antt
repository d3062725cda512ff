use Rattle.std.proofs.Common.{take}
use Rattle.least_fixed_points.specs.Marking.{Visits}
use Rattle.least_fixed_points.proofs.marking.visit_all.Given as goal

-- the users so far were visited
abbrev pub invariant-loop-user : goal.invariant-loop-user
invariant-loop-user l = Visits l.nodes (take l.user-index l.users) l.fn.marks.items l.fn.work.items l.marks.items l.work.items l.seen.items
