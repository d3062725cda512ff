use Rattle.std.proofs.Common.{length}
use Rattle.frame_list.proofs.Lists.{IsCome}
use Rattle.frame_list.proofs.told.push_frames.Given as goal

abbrev pub invariant-loop-rest : goal.invariant-loop-rest
invariant-loop-rest l = IsCome l.form l.schema l.bytes l.fn.out.items l.offset l.rest l.out.items

abbrev pub decreases-loop-rest : goal.decreases-loop-rest
decreases-loop-rest l = length l.rest
