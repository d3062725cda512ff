use Rattle.std.proofs.Common.{[], ◌∷◌}
use Rattle.tree_reader.specs.declared.symbol.Symbol.TheVariants.{Greater}
use Rattle.tree_reader.specs.Machine.{take, argument_name}
use Rattle.tree_reader.proofs.NameForms.{argument_unnamed, argument_named}
use Rattle.tree_reader.proofs.Turns.{turns, stops_after, stops_on}
use Rattle.tree_reader.proofs.names.argument_name.Goals as goal

pub returns-in_err-name-clause-stops : goal.returns-in_err-name-clause-stops
returns-in_err-name-clause-stops c =
    stops_on c.from_residual.result _ (argument_name ∷ []) c.args.reader.now c.from_residual.ensures.1
    (argument_unnamed c.args.reader.now c.in_err-name.field-0.0 c.in_err-name.ensures.stops)

pub returns-in_err-take-clause-stops : goal.returns-in_err-take-clause-stops
returns-in_err-take-clause-stops c =
    stops_on c.from_residual-in_err-take.result _ (argument_name ∷ []) c.args.reader.now c.from_residual-in_err-take.ensures.1
    (stops_after (argument_name ∷ []) (take Greater ∷ []) c.args.reader.now c.qualified.new.reader c.in_err-take.field-0.0
    (argument_named c.args.reader.now c.qualified.new.reader c.in_ok-name.ensures.turns c.in_ok-name.ensures.ending)
    c.in_err-take.ensures.stops)

pub returns-clause-turns : goal.returns-clause-turns
returns-clause-turns c =
    turns (argument_name ∷ []) (take Greater ∷ []) [] c.args.reader.now c.qualified.new.reader c.take.new.self
    (argument_named c.args.reader.now c.qualified.new.reader c.in_ok-name.ensures.turns c.in_ok-name.ensures.ending)
    c.in_ok-take.ensures.turns
