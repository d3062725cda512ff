use Rattle.std.proofs.Common.{length, ◌≤◌}
use Rattle.script_reader.specs.Tokens.{hex_at}
use Rattle.script_reader.proofs.Sequences.{Reached}
use Rattle.script_reader.proofs.cursor.Cursor.bytes.Given as goal

abbrev pub invariant-digits : goal.invariant-digits
invariant-digits l = Reached hex_at l.bytes.items l.fn.self l.rest × (length l.rest ≤ length l.fn.self)

abbrev pub decreases-digits : goal.decreases-digits
decreases-digits l = length l.rest
