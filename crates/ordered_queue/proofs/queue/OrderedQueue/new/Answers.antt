use Rattle.ordered_queue.proofs.Moves.{begins}
use Rattle.ordered_queue.proofs.queue.OrderedQueue.new.Goals as goal

pub with_rule-requires : goal.with_rule-requires
with_rule-requires g c = begins
