use Rattle.world_core.proofs.Chosen.{left_of}
use Rattle.world_core.proofs.Meetings.{DeliversSo}
use Rattle.world_core.proofs.half.Half.deliver_all.Given as goal
use Rattle.world_core.specs.WorldView.{seen_by, state_of}

abbrev pub ghost-delivery_turn : goal.ghost-delivery_turn
ghost-delivery_turn g a = (seen_by g.at.0 a.link.now, g.at.1)

abbrev pub invariant-loop-answer : goal.invariant-loop-answer
invariant-loop-answer g l = DeliversSo g.at.0 g.at.1 l.initial.link l.link l.self

abbrev pub decreases-loop-answer : goal.decreases-loop-answer
decreases-loop-answer g l = left_of g.at.0 (state_of g.at.0 l.link.lines)
