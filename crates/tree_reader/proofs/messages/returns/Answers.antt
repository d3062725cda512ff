use Rattle.std.proofs.Common.{[], ◌∷◌}
use Rattle.tree_reader.specs.declared.symbol.Symbol.TheVariants.{OpenParen, Semicolon, Returns}
use Rattle.tree_reader.specs.Machine.{take, parameters, after_parameters}
use Rattle.tree_reader.proofs.Turns.{is_spelled}
use Rattle.tree_reader.proofs.ParamTurns.{then_past, thrown_then}
use Rattle.tree_reader.proofs.MessageTurns.{returns_turn, no_returns_turn}
use Rattle.tree_reader.proofs.messages.returns.Goals as goal

pub returns-in_err-take-clause-stops : goal.returns-in_err-take-clause-stops
returns-in_err-take-clause-stops c =
    thrown_then c.from_residual.result c.in_err-take.field-0.0 (after_parameters ∷ []) (take OpenParen) (parameters ∷ take Semicolon ∷ []) c.args.reader.now c.skips.new.self c.from_residual.ensures.1
    (returns_turn c.args.reader.now c.skips.new.self (c.skips.ensures.yes c.if-skips.true))
    c.in_err-take.ensures.stops

pub returns-in_err-params-clause-stops : goal.returns-in_err-params-clause-stops
returns-in_err-params-clause-stops c =
    thrown_then c.from_residual-in_err-params.result c.in_err-params.field-0.0 (after_parameters ∷ []) parameters (take Semicolon ∷ []) c.args.reader.now c.take.new.self c.from_residual-in_err-params.ensures.1
    (then_past (after_parameters ∷ []) (take OpenParen) (parameters ∷ take Semicolon ∷ []) c.args.reader.now c.skips.new.self c.take.new.self
    (returns_turn c.args.reader.now c.skips.new.self (c.skips.ensures.yes c.if-skips.true))
    c.in_ok-take.ensures.turns)
    c.in_err-params.ensures.stops

pub returns-in_ok-params-clause-read : goal.returns-in_ok-params-clause-read
returns-in_ok-params-clause-read c =
    (c.skips.new.self, is_spelled Returns c.args.reader.now c.skips.new.self (c.skips.ensures.yes c.if-skips.true), (c.take.new.self, c.in_ok-take.ensures.read, c.in_ok-params.ensures.read))

pub returns-in_ok-params-clause-turns : goal.returns-in_ok-params-clause-turns
returns-in_ok-params-clause-turns c =
    then_past (after_parameters ∷ []) parameters (take Semicolon ∷ []) c.args.reader.now c.take.new.self c.params.new.reader
    (then_past (after_parameters ∷ []) (take OpenParen) (parameters ∷ take Semicolon ∷ []) c.args.reader.now c.skips.new.self c.take.new.self
    (returns_turn c.args.reader.now c.skips.new.self (c.skips.ensures.yes c.if-skips.true))
    c.in_ok-take.ensures.turns)
    c.in_ok-params.ensures.turns

pub returns-else-skips-clause-turns : goal.returns-else-skips-clause-turns
returns-else-skips-clause-turns c = no_returns_turn c.args.reader.now c.skips.new.self (c.skips.ensures.not c.if-skips.false)
