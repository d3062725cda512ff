use Rattle.tree_reader.proofs.TypeForms.{next_from, question_read, array_read, array_stops}
use Rattle.tree_reader.proofs.types.suffix.Goals as goal

pub returns-then-skips-clause-read : goal.returns-then-skips-clause-read
returns-then-skips-clause-read c = question_read c.args.reader.now c.skips.new.self (c.skips.ensures.yes c.if-skips.true)

pub returns-in_err-take-clause-stops : goal.returns-in_err-take-clause-stops
returns-in_err-take-clause-stops c =
    let kept = c.skips.ensures.not c.if-skips.false in
    array_stops c.from_residual.result _ c.args.reader.now c.skips-2.new.self c.from_residual.ensures.1
    (next_from _ _ _ _ kept.1 (c.skips-2.ensures.yes c.if-skips-2.true)) c.in_err-take.ensures.stops

pub returns-then-skips-2-clause-read : goal.returns-then-skips-2-clause-read
returns-then-skips-2-clause-read c =
    let kept = c.skips.ensures.not c.if-skips.false in
    array_read c.args.reader.now c.skips-2.new.self c.take.new.self
    (next_from _ _ _ _ kept.1 (c.skips-2.ensures.yes c.if-skips-2.true)) c.in_ok-take.ensures.read c.in_ok-take.ensures.turns
