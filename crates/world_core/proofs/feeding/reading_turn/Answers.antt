use Rattle.std.proofs.Common.{◌∙◌, sym}
use Rattle.world_core.proofs.FeedStates.{closed-ends, full-ends}
use Rattle.world_core.proofs.feeding.reading_turn.Goals as goal

pub returns-then-not-is_open : goal.returns-then-not-is_open
returns-then-not-is_open g c = closed-ends g.feed.0 g.feed.1 c.args.bytes.now c.args.half.now c.args.trace.now c.requires.0 c.requires.1 (sym c.is_open.ensures ∙ c.if-not-is_open.true)

pub returns-then-is_spent : goal.returns-then-is_spent
returns-then-is_spent g c =
    full-ends g.feed.0 g.feed.1 c.args.bytes.now c.args.half.now c.args.trace.now c.requires.0 c.requires.1 (sym c.is_open.ensures ∙ c.if-not-is_open.false) (sym c.is_spent.ensures ∙ c.if-is_spent.true)
