use Rattle.world_core.specs.Relaying.{IsApart}
use Rattle.world_tests.proofs.half_lines.lent_in_steps.Given as goal

abbrev pub invariant-loop : goal.invariant-loop
invariant-loop l = IsApart l.half
