use Rattle.tree_reader.specs.Machine.{after_attribute}
use Rattle.std.proofs.Common.{[], ◌∷◌}
use Rattle.tree_reader.proofs.AttributeForms.{value_read, value_turns, value_stops, no_value_turns}
use Rattle.tree_reader.proofs.Turns.{stops_on}
use Rattle.tree_reader.proofs.attributes.value.Goals as goal

pub returns-in_err-any_word-clause-stops : goal.returns-in_err-any_word-clause-stops
returns-in_err-any_word-clause-stops c =
    stops_on c.from_residual.result _ (after_attribute ∷ []) c.args.reader.now c.from_residual.ensures.1
    (value_stops c.args.reader.now c.skips.new.self c.in_err-any_word.field-0.0 (c.skips.ensures.yes c.if-skips.true) c.in_err-any_word.ensures.stops)

pub returns-in_ok-any_word-clause-read : goal.returns-in_ok-any_word-clause-read
returns-in_ok-any_word-clause-read c = value_read _ _ _ _ (c.skips.ensures.yes c.if-skips.true) c.in_ok-any_word.ensures.read

pub returns-in_ok-any_word-clause-turns : goal.returns-in_ok-any_word-clause-turns
returns-in_ok-any_word-clause-turns c =
    value_turns c.args.reader.now c.skips.new.self c.any_word.new.self (c.skips.ensures.yes c.if-skips.true) c.in_ok-any_word.ensures.turns

pub returns-else-skips-clause-turns : goal.returns-else-skips-clause-turns
returns-else-skips-clause-turns c =
    let kept = c.skips.ensures.not c.if-skips.false in
    no_value_turns c.args.reader.now c.skips.new.self kept.0 kept.1
