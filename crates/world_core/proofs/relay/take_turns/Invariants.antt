use Rattle.world_core.proofs.RelayLoop.{LoopsInEach, turns_left}
use Rattle.world_core.proofs.relay.take_turns.Given as goal

abbrev pub invariant-loop-left : goal.invariant-loop-left
invariant-loop-left l = LoopsInEach l.initial.parent l.initial.child l.side l.left l.parent l.child

abbrev pub decreases-loop-left : goal.decreases-loop-left
decreases-loop-left l = turns_left l.parent l.child l.left
