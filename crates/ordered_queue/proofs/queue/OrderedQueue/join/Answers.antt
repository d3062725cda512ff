use Rattle.ordered_queue.proofs.Moves.{merges}
use Rattle.ordered_queue.proofs.queue.OrderedQueue.join.Goals as goal

pub absorb-requires-clause-rule : goal.absorb-requires-clause-rule
absorb-requires-clause-rule g c =
    merges c.args.pass.now.id c.args.pass.now.me.view.client c.args.other.id c.args.other.me.view.client c.requires.pass.1 c.requires.other.1
