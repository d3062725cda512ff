use Rattle.ordered_queue.specs.Passes.{HasPopped, HasPushed, MayPop, MayPush, view_of}
use Rattle.queue_link.specs.Work.{IsAtWork}
use Rattle.queue_link.proofs.workers.work_on.Given as goal

abbrev pub ghost-step : goal.ghost-step
ghost-step g a = g.at

abbrev pub invariant-loop : goal.invariant-loop
invariant-loop g l =
    (MayPush l.out.queue l.pushing) × (HasPushed l.out.queue l.initial.pushing l.pushing) × (MayPop l.incoming.queue l.popping) × (HasPopped l.incoming.queue l.initial.popping l.popping)
    × IsAtWork g.at.0 g.at.1 (view_of l.pushing).pushed (view_of l.popping).popped l.half
