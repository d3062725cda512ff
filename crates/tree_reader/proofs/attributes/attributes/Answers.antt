use Rattle.tree_reader.proofs.AttributeForms.{headed_read, headed_turns, headed_stops}
use Rattle.tree_reader.proofs.attributes.attributes.Goals as goal

pub returns-then-skips-clause-read : goal.returns-then-skips-clause-read
returns-then-skips-clause-read c = headed_read c.bracketed.result _ _ _ (c.skips.ensures.yes c.if-skips.true) c.bracketed.ensures.read

pub returns-then-skips-clause-turns : goal.returns-then-skips-clause-turns
returns-then-skips-clause-turns c =
    headed_turns c.bracketed.result c.args.reader.now c.skips.new.self c.bracketed.new.reader (c.skips.ensures.yes c.if-skips.true) c.bracketed.ensures.turns

pub returns-then-skips-clause-stops : goal.returns-then-skips-clause-stops
returns-then-skips-clause-stops c =
    headed_stops c.bracketed.result c.args.reader.now c.skips.new.self (c.skips.ensures.yes c.if-skips.true) c.bracketed.ensures.stops
