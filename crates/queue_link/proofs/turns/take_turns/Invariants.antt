use Rattle.ordered_queue.specs.Passes.{MayBoth, view_of}
use Rattle.queue_link.specs.Work.{AreAtWork}
use Rattle.queue_link.proofs.turns.take_turns.Given as goal

abbrev pub ghost-round : goal.ghost-round
ghost-round g a = g.at

abbrev pub invariant-loop : goal.invariant-loop
invariant-loop g l = MayBoth l.down.queue l.to_child × MayBoth l.up.queue l.to_parent × AreAtWork g.at (view_of l.to_child) (view_of l.to_parent) l.parent l.child
