use Rattle.actor_tables.proofs.TypeNumbers.{GivesBelow}
use Rattle.actor_tables.proofs.numbers.numbers_of_types.Given as goal

abbrev pub invariant-loop-place : goal.invariant-loop-place
invariant-loop-place l = GivesBelow l.ids l.numbers l.place
