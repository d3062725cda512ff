use Rattle.ordered_queue.specs.Passes.{view_of}
use Rattle.queue_link.proofs.Hands.{push-ended}
use Rattle.queue_link.proofs.steps.hand_over.Goals as goal

pub returns-then-not-branch-clause-work : goal.returns-then-not-branch-clause-work
returns-then-not-branch-clause-work g c =
    push-ended g.at.0 g.at.1 (view_of c.push_next.new.pushing).pushed (view_of c.args.popping.now).popped c.push_next.new.half c.in_ok-push_next.field-0 c.if-not-branch.true c.in_ok-push_next.ensures.hands
