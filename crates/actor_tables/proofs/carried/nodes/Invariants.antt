use Rattle.std.proofs.Common.{take}
use Rattle.actor_tables.specs.Marked.{AreNodesOf}
use Rattle.actor_tables.proofs.carried.nodes.Given as goal

abbrev pub invariant-loop-row : goal.invariant-loop-row
invariant-loop-row l = AreNodesOf (take l.row-index l.rows) l.nodes.items
