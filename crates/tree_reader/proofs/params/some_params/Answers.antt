use Rattle.std.proofs.Common.{[], ◌∷◌}
use Rattle.tree_reader.specs.Machine.{take, one_param, more_parameters}
use Rattle.tree_reader.specs.declared.symbol.Symbol.TheVariants.{CloseParen}
use Rattle.tree_reader.proofs.Turns.{turns, stops_before}
use Rattle.tree_reader.proofs.ParamTurns.{thrown_after, read_comma, read_more, read_close, params_all}
use Rattle.tree_reader.proofs.params.some_params.Goals as goal

pub returns-in_err-param-2-clause-stops : goal.returns-in_err-param-2-clause-stops
returns-in_err-param-2-clause-stops c =
    thrown_after c.from_residual-in_err-param-2.result c.in_err-param-2.field-0.0 (one_param ∷ more_parameters ∷ []) (one_param ∷ more_parameters ∷ []) c.args.reader.now c.skips.new.self c.from_residual-in_err-param-2.ensures.1
    (read_comma c.params.all.items c.args.reader.now c.params.reader c.skips.new.self c.params.invariant (c.skips.ensures.yes c.params-test.true))
    (stops_before (one_param ∷ []) (more_parameters ∷ []) c.skips.new.self c.in_err-param-2.field-0.0 c.in_err-param-2.ensures.stops)

pub params-preserved : goal.params-preserved
params-preserved c =
    read_more c.in_ok-param-2.field-0 c.params.all.items c.push-in-params.new.self.items c.args.reader.now c.params.reader c.skips.new.self c.param-in-params.new.reader
    c.in_ok-push-2.ensures.items c.params.invariant (c.skips.ensures.yes c.params-test.true) c.in_ok-param-2.ensures.read c.in_ok-param-2.ensures.turns c.in_ok-param-2.ensures.less

pub returns-in_err-take-clause-stops : goal.returns-in_err-take-clause-stops
returns-in_err-take-clause-stops c =
    thrown_after c.from_residual-in_err-take.result c.in_err-take.field-0.0 (one_param ∷ more_parameters ∷ []) (take CloseParen ∷ []) c.args.reader.now c.skips.new.self c.from_residual-in_err-take.ensures.1
    (read_close c.params.all.items c.args.reader.now c.params.reader c.skips.new.self c.params.invariant (c.skips.ensures.not c.params-test.false))
    c.in_err-take.ensures.stops

pub returns-clause-read : goal.returns-clause-read
returns-clause-read c =
    params_all c.fitted.result c.params.all.items c.args.reader.now c.params.reader c.skips.new.self c.take.new.self c.fitted.ensures c.params.invariant.read (c.skips.ensures.not c.params-test.false).1 c.in_ok-take.ensures.read

pub returns-clause-turns : goal.returns-clause-turns
returns-clause-turns c =
    turns (one_param ∷ more_parameters ∷ []) (take CloseParen ∷ []) [] c.args.reader.now c.skips.new.self c.take.new.self
    (read_close c.params.all.items c.args.reader.now c.params.reader c.skips.new.self c.params.invariant (c.skips.ensures.not c.params-test.false))
    c.in_ok-take.ensures.turns
