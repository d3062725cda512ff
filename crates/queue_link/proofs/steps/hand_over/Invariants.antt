use Rattle.ordered_queue.specs.Passes.{HasPushed, MayPush, view_of}
use Rattle.queue_link.specs.Work.{HandsOver}
use Rattle.queue_link.proofs.steps.hand_over.Given as goal

abbrev pub ghost-push_next : goal.ghost-push_next
ghost-push_next g a = g.at

-- the half has still to hand out what it held
abbrev pub invariant-loop : goal.invariant-loop
invariant-loop g l =
    (MayPush l.queue.queue l.pushing) × (HasPushed l.queue.queue l.initial.pushing l.pushing) × HandsOver g.at.0 g.at.1 (view_of l.pushing).pushed (view_of l.popping).popped l.half
