use Rattle.ordered_queue.proofs.Moves.{forks}
use Rattle.ordered_queue.proofs.queue.OrderedQueue.part.Goals as goal

pub another-requires-clause-rule : goal.another-requires-clause-rule
another-requires-clause-rule g c = forks c.args.pass.now.id c.args.pass.now.me.view.client c.requires.1 c.requires.2
