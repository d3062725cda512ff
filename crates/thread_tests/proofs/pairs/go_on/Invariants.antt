use Rattle.thread_tests.proofs.pairs.go_on.Given as goal
use Rattle.world_core.specs.Halves.{FitsAfter}

abbrev pub ghost-own : goal.ghost-own
ghost-own g a = g.at

abbrev pub invariant-loop : goal.invariant-loop
invariant-loop g l = FitsAfter g.at.0 g.at.1 g.at.2 l.half
