use Rattle.std.proofs.Common.{sym, arith}
use Rattle.script_reader.specs.Tokens.{character_at}
use Rattle.script_reader.proofs.Sequences.{Reached-next, quote_no_character, none_in_quotes}
use Rattle.script_reader.proofs.cursor.Cursor.text.Goals as goal

pub characters-preserved : goal.characters-preserved
characters-preserved c =
    (Reached-next character_at c.characters.bytes.items _ c.in-Some.byte _ _ _ c.characters.invariant.0 (sym c.in-Some.ensures.found) c.in_ok-push.ensures.items, omega (arith, c.in-Some.ensures.less))

pub returns-else-quote-clause-stops : goal.returns-else-quote-clause-stops
returns-else-quote-clause-stops c =
    none_in_quotes character_at _ _ _ quote_no_character c.characters.invariant.0 (sym c.in_default.ensures.found) (c.quote.ensures.not c.if-quote.false)
