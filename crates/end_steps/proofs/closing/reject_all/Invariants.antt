use Rattle.std.proofs.Common.{true}
use Rattle.ipdl_base.specs.declared.kinds.Reason.TheVariants.{ChannelClosed}
use Rattle.end_parts.specs.PromiseRequests.{pending_in}
use Rattle.end_steps.proofs.RejectionLemmas.{IsRejecting}
use Rattle.end_steps.proofs.closing.reject_all.Given as goal

abbrev pub invariant-loop-seq : goal.invariant-loop-seq
invariant-loop-seq l = IsRejecting l.side (λ p. true) ChannelClosed l.initial.promises l.initial.out l.promises l.out

abbrev pub decreases-loop-seq : goal.decreases-loop-seq
decreases-loop-seq l = pending_in l.promises
