use Rattle.ordered_queue.proofs.Moves.{learns, pops}
use Rattle.ordered_queue.proofs.queue.OrderedQueue.pop.Goals as goal

pub pop_as-requires-clause-rule : goal.pop_as-requires-clause-rule
pop_as-requires-clause-rule g c =
    let pass = c.args.pass.now in (
      pops pass.id pass.me.view.client c.requires.1,
      learns pass.id pass.me.view.client,
    )
