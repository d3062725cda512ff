use Rattle.std.proofs.Common.{[], ◌∷◌}
use Rattle.tree_reader.specs.declared.symbol.Symbol.TheVariants.{Semicolon, Word}
use Rattle.tree_reader.specs.Machine.{take, managing, more_managing}
use Rattle.tree_reader.proofs.ParamTurns.{then_past, thrown_then}
use Rattle.tree_reader.proofs.BodyTurns.{manager_turn, manages_turn, managers_added, managed_added, no_statement}
use Rattle.tree_reader.proofs.body.statement.Goals as goal

pub returns-in_err-word-clause-stops : goal.returns-in_err-word-clause-stops
returns-in_err-word-clause-stops c =
    thrown_then c.from_residual.result c.in_err-word.field-0.0 (managing ∷ []) (take Word) (more_managing ∷ managing ∷ []) c.args.reader.now c.skips.new.self c.from_residual.ensures.1
    (manager_turn c.args.reader.now c.skips.new.self (c.skips.ensures.yes c.if-skips.true))
    c.in_err-word.ensures.stops

pub returns-in_err-more_managers-clause-stops : goal.returns-in_err-more_managers-clause-stops
returns-in_err-more_managers-clause-stops c =
    thrown_then c.from_residual-in_err-more_managers.result c.in_err-more_managers.field-0.0 (managing ∷ []) more_managing (managing ∷ []) c.args.reader.now c.word.new.self c.from_residual-in_err-more_managers.ensures.1
    (then_past (managing ∷ []) (take Word) (more_managing ∷ managing ∷ []) c.args.reader.now c.skips.new.self c.word.new.self
    (manager_turn c.args.reader.now c.skips.new.self (c.skips.ensures.yes c.if-skips.true))
    c.in_ok-word.ensures.turns)
    c.in_err-more_managers.ensures.stops

pub returns-then-skips-clause-read : goal.returns-then-skips-clause-read
returns-then-skips-clause-read c =
    managers_added c.in_ok-word.field-0 c.args.managers.now.items c.push.new.self.items c.more_managers.new.managers.items c.args.manages.now.items c.args.reader.now c.skips.new.self c.word.new.self c.more_managers.new.reader
    c.in_ok-push.ensures.items (c.skips.ensures.yes c.if-skips.true) c.in_ok-word.ensures.read c.in_ok-more_managers.ensures.read

pub returns-then-skips-clause-turns : goal.returns-then-skips-clause-turns
returns-then-skips-clause-turns c =
    then_past (managing ∷ []) more_managing (managing ∷ []) c.args.reader.now c.word.new.self c.more_managers.new.reader
    (then_past (managing ∷ []) (take Word) (more_managing ∷ managing ∷ []) c.args.reader.now c.skips.new.self c.word.new.self
    (manager_turn c.args.reader.now c.skips.new.self (c.skips.ensures.yes c.if-skips.true))
    c.in_ok-word.ensures.turns)
    c.in_ok-more_managers.ensures.turns

pub returns-in_err-word-2-clause-stops : goal.returns-in_err-word-2-clause-stops
returns-in_err-word-2-clause-stops c =
    thrown_then c.from_residual-in_err-word-2.result c.in_err-word-2.field-0.0 (managing ∷ []) (take Word) (take Semicolon ∷ managing ∷ []) c.args.reader.now c.skips-2.new.self c.from_residual-in_err-word-2.ensures.1
    (manages_turn c.args.reader.now c.skips.new.self c.skips-2.new.self (c.skips.ensures.not c.if-skips.false).1 (c.skips-2.ensures.yes c.if-skips-2.true))
    c.in_err-word-2.ensures.stops

pub returns-in_err-take-clause-stops : goal.returns-in_err-take-clause-stops
returns-in_err-take-clause-stops c =
    thrown_then c.from_residual-in_err-take.result c.in_err-take.field-0.0 (managing ∷ []) (take Semicolon) (managing ∷ []) c.args.reader.now c.word-then-skips-2.new.self c.from_residual-in_err-take.ensures.1
    (then_past (managing ∷ []) (take Word) (take Semicolon ∷ managing ∷ []) c.args.reader.now c.skips-2.new.self c.word-then-skips-2.new.self
    (manages_turn c.args.reader.now c.skips.new.self c.skips-2.new.self (c.skips.ensures.not c.if-skips.false).1 (c.skips-2.ensures.yes c.if-skips-2.true))
    c.in_ok-word-2.ensures.turns)
    c.in_err-take.ensures.stops

pub returns-then-skips-2-clause-read : goal.returns-then-skips-2-clause-read
returns-then-skips-2-clause-read c =
    managed_added c.in_ok-word-2.field-0 c.args.managers.now.items c.args.manages.now.items c.push-then-skips-2.new.self.items c.args.reader.now c.skips.new.self c.skips-2.new.self c.word-then-skips-2.new.self c.take.new.self
    c.in_ok-push-2.ensures.items (c.skips.ensures.not c.if-skips.false).1 (c.skips-2.ensures.yes c.if-skips-2.true) c.in_ok-word-2.ensures.read c.in_ok-take.ensures.read

pub returns-then-skips-2-clause-turns : goal.returns-then-skips-2-clause-turns
returns-then-skips-2-clause-turns c =
    then_past (managing ∷ []) (take Semicolon) (managing ∷ []) c.args.reader.now c.word-then-skips-2.new.self c.take.new.self
    (then_past (managing ∷ []) (take Word) (take Semicolon ∷ managing ∷ []) c.args.reader.now c.skips-2.new.self c.word-then-skips-2.new.self
    (manages_turn c.args.reader.now c.skips.new.self c.skips-2.new.self (c.skips.ensures.not c.if-skips.false).1 (c.skips-2.ensures.yes c.if-skips-2.true))
    c.in_ok-word-2.ensures.turns)
    c.in_ok-take.ensures.turns

pub returns-clause-ending : goal.returns-clause-ending
returns-clause-ending c = λ _. no_statement c.args.reader.now c.skips.new.self c.skips-2.new.self (c.skips.ensures.not c.if-skips.false) (c.skips-2.ensures.not c.if-skips-2.false)
