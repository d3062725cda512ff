use Rattle.std.proofs.Common.{subst}
use Rattle.world_core.proofs.FeedStates.{may-go-on, own-gives, own-rests}
use Rattle.world_core.proofs.feeding.do_turn.Goals as goal
use Rattle.world_core.specs.declared.feeding.FeedTrace.{FeedTrace}
use Rattle.world_core.specs.Feeding.{TurnGives}

pub own_turn-requires : goal.own_turn-requires
own_turn-requires g c = may-go-on g.feed.0 g.feed.1 c.args.bytes.now c.args.half.now c.args.trace.now c.requires

pub reading_turn-requires : goal.reading_turn-requires
reading_turn-requires g c = own-rests g.feed.0 g.feed.1 c.args.bytes.now c.args.half.now c.args.trace.now c.requires c.own_turn.new.half c.own_turn.new.trace c.in-Nothing.ensures

pub returns-in-Nothing : goal.returns-in-Nothing
returns-in-Nothing g c =
    subst (λ (t : FeedTrace). TurnGives g.feed.0 g.feed.1 c.args.bytes.now t c.reading_turn.result c.reading_turn.new.half c.reading_turn.new.trace) c.in-Nothing.ensures.2 c.reading_turn.ensures

pub returns-in_default : goal.returns-in_default
returns-in_default g c =
    own-gives g.feed.0 g.feed.1 c.args.bytes.now c.args.half.now c.args.trace.now c.requires c.own_turn.result c.own_turn.new.half c.own_turn.new.trace c.in_default.not-Nothing c.own_turn.ensures
