use Rattle.std.proofs.Common.{[], ◌∷◌}
use Rattle.tree_reader.specs.declared.symbol.Symbol.TheVariants.{Word}
use Rattle.tree_reader.specs.Ending as ending
use Rattle.tree_reader.specs.Machine.{take, typed, one_param}
use Rattle.tree_reader.specs.Reading.{Stops}
use Rattle.tree_reader.proofs.Turns.{thrown, turns, stops_after}
use Rattle.tree_reader.proofs.ParamTurns.{headed_param}
use Rattle.tree_reader.proofs.params.param.Goals as goal

pub returns-in_err-attributes-clause-stops : goal.returns-in_err-attributes-clause-stops
returns-in_err-attributes-clause-stops c =
    thrown c.from_residual.result c.in_err-attributes.field-0.0 (λ e. Stops (one_param ∷ []) c.args.reader.now e) c.from_residual.ensures.1
    (c.in_err-attributes.ensures.stops one_param (typed 4 ending.Name ∷ []) (headed_param c.args.reader.now))

pub returns-in_err-spec-clause-stops : goal.returns-in_err-spec-clause-stops
returns-in_err-spec-clause-stops c =
    thrown c.from_residual-in_err-spec.result c.in_err-spec.field-0.0 (λ e. Stops (one_param ∷ []) c.args.reader.now e) c.from_residual-in_err-spec.ensures.1
    (stops_after (one_param ∷ []) (typed 4 ending.Name ∷ []) c.args.reader.now c.attributes.new.reader c.in_err-spec.field-0.0
    (c.in_ok-attributes.ensures.turns one_param (typed 4 ending.Name ∷ []) (headed_param c.args.reader.now))
    (c.in_err-spec.ensures.stops ending.Name))

pub returns-in_err-name-clause-stops : goal.returns-in_err-name-clause-stops
returns-in_err-name-clause-stops c =
    thrown c.from_residual-in_err-name.result c.in_err-name.field-0.0 (λ e. Stops (one_param ∷ []) c.args.reader.now e) c.from_residual-in_err-name.ensures.1
    (stops_after (one_param ∷ []) (take Word ∷ []) c.args.reader.now c.type_spec.new.reader c.in_err-name.field-0.0
    (turns (one_param ∷ []) (typed 4 ending.Name ∷ []) (take Word ∷ []) c.args.reader.now c.attributes.new.reader c.type_spec.new.reader
    (c.in_ok-attributes.ensures.turns one_param (typed 4 ending.Name ∷ []) (headed_param c.args.reader.now))
    (c.in_ok-spec.ensures.turns ending.Name))
    c.in_err-name.ensures.stops)

pub returns-clause-turns : goal.returns-clause-turns
returns-clause-turns c =
    turns (one_param ∷ []) (take Word ∷ []) [] c.args.reader.now c.type_spec.new.reader c.word.new.self
    (turns (one_param ∷ []) (typed 4 ending.Name ∷ []) (take Word ∷ []) c.args.reader.now c.attributes.new.reader c.type_spec.new.reader
    (c.in_ok-attributes.ensures.turns one_param (typed 4 ending.Name ∷ []) (headed_param c.args.reader.now))
    (c.in_ok-spec.ensures.turns ending.Name))
    c.in_ok-name.ensures.turns
