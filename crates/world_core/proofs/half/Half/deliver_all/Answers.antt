use Rattle.std.proofs.Common.{◌∙◌, ap}
use Rattle.world_core.proofs.Meetings.{deliveries-end, deliveries-go_on, deliveries-less}
use Rattle.world_core.proofs.Standing.{side-at}
use Rattle.world_core.proofs.Turning.{stands-come}
use Rattle.world_core.proofs.half.Half.deliver_all.Goals as goal
use Rattle.world_core.specs.HalfView.{HalfView}
use Rattle.world_core.specs.WorldView.{seen_by, state_of}

pub delivery_turn-requires : goal.delivery_turn-requires
delivery_turn-requires g c = (
  c.loop-answer.invariant.stands,
  c.side-side.ensures ∙ ap (λ (h : HalfView). h.end.end.side) c.self.view_is
      ∙ side-at g.at.0 (state_of g.at.0 c.args.link.now.lines) g.at.1 c.args.self.now (stands-come (seen_by g.at.0 c.args.link.now) g.at.1 c.args.self.now c.args.link.now c.requires),
)

pub loop-answer-smaller : goal.loop-answer-smaller
loop-answer-smaller g c = deliveries-less g.at.0 g.at.1 c.args.link.now c.loop-answer.link c.delivery_turn.new.link c.loop-answer.self c.delivery_turn.new.half c.loop-answer.invariant c.in-Did.ensures

pub loop-answer-preserved : goal.loop-answer-preserved
loop-answer-preserved g c = deliveries-go_on g.at.0 g.at.1 c.args.link.now c.loop-answer.link c.delivery_turn.new.link c.loop-answer.self c.delivery_turn.new.half c.loop-answer.invariant c.in-Did.ensures

pub returns-in_default-clause-stands : goal.returns-in_default-clause-stands
returns-in_default-clause-stands g c = (deliveries-end g.at.0 g.at.1 c.args.link.now c.loop-answer.link c.delivery_turn.new.link c.loop-answer.self c.delivery_turn.new.half c.loop-answer.invariant c.delivery_turn.result c.in_default.not-Did c.delivery_turn.ensures).0.stands

pub returns-in_default-clause-delivers : goal.returns-in_default-clause-delivers
returns-in_default-clause-delivers g c = (deliveries-end g.at.0 g.at.1 c.args.link.now c.loop-answer.link c.delivery_turn.new.link c.loop-answer.self c.delivery_turn.new.half c.loop-answer.invariant c.delivery_turn.result c.in_default.not-Did c.delivery_turn.ensures).0.delivers

pub returns-in_default-clause-ends : goal.returns-in_default-clause-ends
returns-in_default-clause-ends g c = (deliveries-end g.at.0 g.at.1 c.args.link.now c.loop-answer.link c.delivery_turn.new.link c.loop-answer.self c.delivery_turn.new.half c.loop-answer.invariant c.delivery_turn.result c.in_default.not-Did c.delivery_turn.ensures).1
