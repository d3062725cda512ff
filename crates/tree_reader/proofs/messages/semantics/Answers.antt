use Rattle.tree_reader.specs.declared.symbol.Symbol.TheVariants.{Async, Sync}
use Rattle.std.proofs.Common.{List, subst}
use Rattle.ipdl_base.specs.declared.token.Token.{Token}
use Rattle.tree_reader.specs.Reading.{IsNext}
use Rattle.tree_reader.proofs.Turns.{is_spelled}
use Rattle.tree_reader.proofs.MessageTurns.{async_turn, sync_turn, neither_stops}
use Rattle.tree_reader.proofs.messages.semantics.Goals as goal

pub returns-then-skips-clause-read : goal.returns-then-skips-clause-read
returns-then-skips-clause-read c = is_spelled Async c.args.reader.now c.skips.new.self (c.skips.ensures.yes c.if-skips.true)

pub returns-then-skips-clause-turns : goal.returns-then-skips-clause-turns
returns-then-skips-clause-turns c = async_turn c.args.reader.now c.skips.new.self (c.skips.ensures.yes c.if-skips.true)

pub returns-then-skips-2-clause-read : goal.returns-then-skips-2-clause-read
returns-then-skips-2-clause-read c =
    is_spelled Sync c.args.reader.now c.skips-2.new.self
    (subst (λ (x : List Token). IsNext Sync x c.skips-2.new.self) (c.skips.ensures.not c.if-skips.false).1 (c.skips-2.ensures.yes c.if-skips-2.true))

pub returns-then-skips-2-clause-turns : goal.returns-then-skips-2-clause-turns
returns-then-skips-2-clause-turns c =
    sync_turn c.args.reader.now c.skips.new.self c.skips-2.new.self (c.skips.ensures.not c.if-skips.false).1 (c.skips-2.ensures.yes c.if-skips-2.true)

pub returns-clause-stops : goal.returns-clause-stops
returns-clause-stops c =
    neither_stops c.args.reader.now c.skips.new.self c.skips-2.new.self c.refusal.result (c.skips.ensures.not c.if-skips.false) (c.skips-2.ensures.not c.if-skips-2.false) c.refusal.ensures
