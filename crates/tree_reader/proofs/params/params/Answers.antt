use Rattle.std.proofs.Common.{[], ◌∷◌, ◌∙◌}
use Rattle.tree_reader.specs.Machine.{one_param, parameters, more_parameters}
use Rattle.tree_reader.specs.declared.symbol.Symbol.TheVariants.{CloseParen}
use Rattle.tree_reader.proofs.Turns.{is_spelled}
use Rattle.tree_reader.proofs.ParamTurns.{turns_ok, stops_err, none_turn, some_turn, params_none}
use Rattle.tree_reader.proofs.params.params.Goals as goal

pub returns-then-skips-clause-read : goal.returns-then-skips-clause-read
returns-then-skips-clause-read c =
    params_none c.from_vec.result c.args.reader.now c.skips.new.self (c.from_vec.ensures ∙ c.new.ensures.items) (is_spelled CloseParen c.args.reader.now c.skips.new.self (c.skips.ensures.yes c.if-skips.true))

pub returns-then-skips-clause-turns : goal.returns-then-skips-clause-turns
returns-then-skips-clause-turns c = none_turn c.args.reader.now c.skips.new.self (c.skips.ensures.yes c.if-skips.true)

pub returns-else-skips-clause-turns : goal.returns-else-skips-clause-turns
returns-else-skips-clause-turns c =
    turns_ok c.some_params.result (parameters ∷ []) (one_param ∷ more_parameters ∷ []) [] c.args.reader.now c.skips.new.self c.some_params.new.reader
    (some_turn c.args.reader.now c.skips.new.self (c.skips.ensures.not c.if-skips.false)) c.some_params.ensures.turns

pub returns-else-skips-clause-stops : goal.returns-else-skips-clause-stops
returns-else-skips-clause-stops c =
    stops_err c.some_params.result (parameters ∷ []) (one_param ∷ more_parameters ∷ []) c.args.reader.now c.skips.new.self
    (some_turn c.args.reader.now c.skips.new.self (c.skips.ensures.not c.if-skips.false)) c.some_params.ensures.stops
