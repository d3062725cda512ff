use Rattle.std.proofs.Common.{length}
use Rattle.end_steps.specs.FailedWaits.{unanswered_in}
use Rattle.end_steps.proofs.FailLemmas.{IsFailing}
use Rattle.end_steps.proofs.closing.fail_all.Given as goal

abbrev pub invariant-loop-seq : goal.invariant-loop-seq
invariant-loop-seq l = IsFailing l.side l.initial.stack l.initial.out l.stack l.out

abbrev pub decreases-loop-seq : goal.decreases-loop-seq
decreases-loop-seq l = length (unanswered_in l.stack)
