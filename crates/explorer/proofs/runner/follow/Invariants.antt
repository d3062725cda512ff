use Rattle.std.proofs.Common.{drop}
use Rattle.explorer.proofs.Running.{FollowsSo}
use Rattle.explorer.proofs.runner.follow.Given as goal

abbrev pub invariant-loop-turn : goal.invariant-loop-turn
invariant-loop-turn l = FollowsSo l.initial.world l.world l.word (drop l.turn-index l.word)
