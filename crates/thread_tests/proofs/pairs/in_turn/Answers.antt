use Rattle.thread_link.proofs.Together.{has-worked}
use Rattle.thread_tests.proofs.pairs.in_turn.Goals as goal

pub loop-preserved : goal.loop-preserved
loop-preserved g c = (has-worked _ _ _ _ _ _ c.loop.invariant.0.at_work c.round-first-in-loop.ensures, has-worked _ _ _ _ _ _ c.loop.invariant.1.at_work c.round-second-in-loop.ensures)
