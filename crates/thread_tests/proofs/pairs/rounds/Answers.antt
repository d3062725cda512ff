use Rattle.thread_link.proofs.Together.{has-worked}
use Rattle.thread_tests.proofs.pairs.rounds.Goals as goal

pub loop-preserved : goal.loop-preserved
loop-preserved g c = has-worked _ _ _ _ _ _ c.loop.invariant.at_work c.round-last-in-loop.ensures
