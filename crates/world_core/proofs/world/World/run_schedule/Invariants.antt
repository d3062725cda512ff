use Rattle.std.proofs.Common.{drop}
use Rattle.world_core.proofs.WordLoop.{PicksSo}
use Rattle.world_core.proofs.world.World.run_schedule.Given as goal

abbrev pub invariant-loop-turn : goal.invariant-loop-turn
invariant-loop-turn l = PicksSo l.initial.self l.self l.word (drop l.turn-index l.word)
