use Rattle.std.proofs.Common.{sym, arith}
use Rattle.script_reader.specs.Tokens.{hex_at}
use Rattle.script_reader.proofs.Sequences.{Reached-next, quote_no_digits, none_in_quotes}
use Rattle.script_reader.proofs.cursor.Cursor.bytes.Goals as goal

pub digits-preserved : goal.digits-preserved
digits-preserved c =
    (Reached-next hex_at c.digits.bytes.items _ c.in-Some.byte _ _ _ c.digits.invariant.0 (sym c.in-Some.ensures.found) c.in_ok-push.ensures.items, omega (arith, c.in-Some.ensures.less))

pub returns-else-quote-clause-stops : goal.returns-else-quote-clause-stops
returns-else-quote-clause-stops c =
    none_in_quotes hex_at _ _ _ quote_no_digits c.digits.invariant.0 (sym c.in_default.ensures.found) (c.quote.ensures.not c.if-quote.false)
