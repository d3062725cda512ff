use Rattle.std.proofs.Common.{inl, inr, subst}
use Rattle.world_core.proofs.Turning.{turn-delivery, turn-own}
use Rattle.world_core.proofs.side_turns.turn_of.Goals as goal
use Rattle.world_core.specs.HalfView.{HalfView}
use Rattle.world_core.specs.LinkView.{LinkView}
use Rattle.world_core.specs.SideTurns.{DeliveryPlays}

pub returns-then-turn : goal.returns-then-turn
returns-then-turn g c =
    turn-delivery g.at.0 c.args.turn c.args.half.now c.delivery_turn.new.half c.args.link.now c.delivery_turn.new.link g.at.1 c.delivery_turn.result c.requires.1 (inl c.if-turn.true) c.delivery_turn.ensures

pub returns-in-Nothing : goal.returns-in-Nothing
returns-in-Nothing g c =
    let none = c.in-Nothing.ensures in
    let call = c.delivery_turn-in-Nothing in
    turn-delivery g.at.0 c.args.turn c.args.half.now call.new.half c.args.link.now call.new.link g.at.1 call.result c.requires.1 (inr none.0)
    (subst (λ (l : LinkView). DeliveryPlays g.at.0 g.at.1 c.args.half.now l call.result call.new.half call.new.link) none.1.1
    (subst (λ (h : HalfView). DeliveryPlays g.at.0 g.at.1 h c.own_turn.new.link call.result call.new.half call.new.link) none.1.0 call.ensures))

pub returns-in_default : goal.returns-in_default
returns-in_default g c =
    turn-own g.at.0 c.args.turn c.args.half.now c.own_turn.new.half c.args.link.now c.own_turn.new.link g.at.1 c.own_turn.result c.requires.1 c.if-turn.false c.in_default.not-Nothing c.own_turn.ensures
