use Rattle.ordered_queue.proofs.Moves.{learns}
use Rattle.ordered_queue.proofs.queue.OrderedQueue.len.Goals as goal

pub len_as-requires-clause-rule : goal.len_as-requires-clause-rule
len_as-requires-clause-rule g c = learns c.args.pass.now.id c.args.pass.now.me.view.client
