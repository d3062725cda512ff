use Rattle.world_core.specs.Halves.{FitsAfter}
use Rattle.world_tests.proofs.halves.go_on.Given as goal

abbrev pub ghost-own : goal.ghost-own
ghost-own g a = g.at

abbrev pub invariant-loop : goal.invariant-loop
invariant-loop g l = FitsAfter g.at.0 g.at.1 g.at.2 l.half
