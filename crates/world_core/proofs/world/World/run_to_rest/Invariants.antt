use Rattle.world_core.proofs.RestLoop.{RestsSo, turns_left}
use Rattle.world_core.proofs.world.World.run_to_rest.Given as goal

abbrev pub invariant-loop-left : goal.invariant-loop-left
invariant-loop-left l = RestsSo l.initial.self l.self l.side l.left

abbrev pub decreases-loop-left : goal.decreases-loop-left
decreases-loop-left l = turns_left l.self l.left
