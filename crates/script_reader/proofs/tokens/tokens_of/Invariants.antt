use Rattle.std.proofs.Common.{length}
use Rattle.script_reader.proofs.TokenLists.{HasTaken}
use Rattle.script_reader.proofs.tokens.tokens_of.Given as goal

abbrev pub invariant-tokens : goal.invariant-tokens
invariant-tokens l = HasTaken l.line l.tokens.items l.cursor

abbrev pub decreases-tokens : goal.decreases-tokens
decreases-tokens l = length l.cursor
