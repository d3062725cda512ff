use Rattle.std.proofs.Common.{[], ◌∷◌}
use Rattle.tree_reader.specs.Machine.{attributed}
use Rattle.tree_reader.proofs.AttributeForms.{attribute_turns, unnamed_stops, attribute_stops}
use Rattle.tree_reader.proofs.Turns.{stops_on}
use Rattle.tree_reader.proofs.attributes.attribute.Goals as goal

pub returns-in_err-name-clause-stops : goal.returns-in_err-name-clause-stops
returns-in_err-name-clause-stops c =
    stops_on c.from_residual.result _ (attributed ∷ []) c.args.reader.now c.from_residual.ensures.1
    (unnamed_stops c.args.reader.now c.in_err-name.field-0.0 c.in_err-name.ensures.stops)

pub returns-in_err-value-clause-stops : goal.returns-in_err-value-clause-stops
returns-in_err-value-clause-stops c =
    stops_on c.from_residual-in_err-value.result _ (attributed ∷ []) c.args.reader.now c.from_residual-in_err-value.ensures.1
    (attribute_stops c.args.reader.now c.word.new.self c.in_err-value.field-0.0 c.in_ok-name.ensures.turns c.in_err-value.ensures.stops)

pub returns-clause-turns : goal.returns-clause-turns
returns-clause-turns c = attribute_turns c.args.reader.now c.word.new.self c.value.new.reader c.in_ok-name.ensures.turns c.in_ok-value.ensures.turns
