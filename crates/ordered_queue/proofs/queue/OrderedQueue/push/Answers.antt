use Rattle.ordered_queue.proofs.Moves.{pushes}
use Rattle.ordered_queue.proofs.queue.OrderedQueue.push.Goals as goal

pub push_as-requires-clause-rule : goal.push_as-requires-clause-rule
push_as-requires-clause-rule g c n = pushes n c.args.pass.now.id c.args.pass.now.me.view.client c.args.value c.requires.1
