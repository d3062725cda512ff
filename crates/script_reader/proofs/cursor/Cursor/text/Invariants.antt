use Rattle.std.proofs.Common.{length, ◌≤◌}
use Rattle.script_reader.specs.Tokens.{character_at}
use Rattle.script_reader.proofs.Sequences.{Reached}
use Rattle.script_reader.proofs.cursor.Cursor.text.Given as goal

abbrev pub invariant-characters : goal.invariant-characters
invariant-characters l = Reached character_at l.bytes.items l.fn.self l.rest × (length l.rest ≤ length l.fn.self)

abbrev pub decreases-characters : goal.decreases-characters
decreases-characters l = length l.rest
