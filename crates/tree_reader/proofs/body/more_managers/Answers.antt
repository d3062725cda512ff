use Rattle.std.proofs.Common.{[], ◌∷◌}
use Rattle.std.proofs.lemmas.Result.{on_ok_weaker}
use Rattle.tree_reader.specs.declared.symbol.Symbol.TheVariants.{Semicolon, Word}
use Rattle.tree_reader.specs.Machine.{take, more_managing}
use Rattle.tree_reader.proofs.ParamTurns.{thrown_then, turns_ok, stops_err}
use Rattle.tree_reader.proofs.BodyTurns.{managers_or, managers_add, managers_close, all_managers}
use Rattle.tree_reader.proofs.body.more_managers.Goals as goal

pub returns-in_err-word-clause-stops : goal.returns-in_err-word-clause-stops
returns-in_err-word-clause-stops c =
    thrown_then c.from_residual.result c.in_err-word.field-0.0 (more_managing ∷ []) (take Word) (more_managing ∷ []) c.args.reader.now c.skips.new.self c.from_residual.ensures.1
    (managers_or c.args.managers.now.items c.managers.managers.items c.args.reader.now c.managers.reader c.skips.new.self c.managers.invariant (c.skips.ensures.yes c.managers-test.true))
    c.in_err-word.ensures.stops

pub managers-preserved : goal.managers-preserved
managers-preserved c =
    managers_add c.in_ok-word.field-0 c.args.managers.now.items c.managers.managers.items c.push.new.self.items c.args.reader.now c.managers.reader c.skips.new.self c.word.new.self
    c.in_ok-push.ensures.items c.managers.invariant (c.skips.ensures.yes c.managers-test.true) c.in_ok-word.ensures.read c.in_ok-word.ensures.turns c.in_ok-word.ensures.less

pub returns-clause-read : goal.returns-clause-read
returns-clause-read c =
    on_ok_weaker c.take.result
    (all_managers c.args.managers.now.items c.managers.managers.items c.args.reader.now c.managers.reader c.skips.new.self c.take.new.self c.managers.invariant.read (c.skips.ensures.not c.managers-test.false).1)
    c.take.ensures.read

pub returns-clause-turns : goal.returns-clause-turns
returns-clause-turns c =
    turns_ok c.take.result (more_managing ∷ []) (take Semicolon ∷ []) [] c.args.reader.now c.skips.new.self c.take.new.self
    (managers_close c.args.managers.now.items c.managers.managers.items c.args.reader.now c.managers.reader c.skips.new.self c.managers.invariant (c.skips.ensures.not c.managers-test.false))
    c.take.ensures.turns

pub returns-clause-stops : goal.returns-clause-stops
returns-clause-stops c =
    stops_err c.take.result (more_managing ∷ []) (take Semicolon ∷ []) c.args.reader.now c.skips.new.self
    (managers_close c.args.managers.now.items c.managers.managers.items c.args.reader.now c.managers.reader c.skips.new.self c.managers.invariant (c.skips.ensures.not c.managers-test.false))
    c.take.ensures.stops
