use Rattle.std.proofs.Common.{take}
use Rattle.least_fixed_points.proofs.Working.{AreStarters}
use Rattle.least_fixed_points.proofs.nodes.starters.Given as goal

-- those among the nodes so far
abbrev pub invariant-loop-number : goal.invariant-loop-number
invariant-loop-number l = AreStarters (take l.number l.nodes) l.starters.items
