use Rattle.std.proofs.Common.{length, take}
use Rattle.least_fixed_points.proofs.Rows.{AreUsersOf}
use Rattle.least_fixed_points.proofs.users.users.Given as goal

-- the rows have the users among the nodes so far
abbrev pub invariant-loop-user : goal.invariant-loop-user
invariant-loop-user l = AreUsersOf (length l.nodes) (take l.user l.nodes) l.users.items
