use Rattle.ordered_queue.specs.Passes.{view_of}
use Rattle.queue_link.proofs.Ends.{ends-relay}
use Rattle.queue_link.proofs.workers.run_over.Goals as goal

pub returns : goal.returns
returns g c =
    let ended = c.end_in_turn-answer in
    ends-relay g.at ended.new.parent ended.new.child (view_of ended.new.to_child) (view_of ended.new.to_parent) c.see_order.ensures.order c.see_order-2.ensures.order ended.result ended.ensures.to_parent.1 ended.ensures.to_child.1 ended.ensures.ends
