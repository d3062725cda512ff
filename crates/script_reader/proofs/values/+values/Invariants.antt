use Rattle.std.proofs.Common.{◌+◌, ◌*◌, length}
use Rattle.script_reader.proofs.values.+values.Given as goal

-- A list of values calls a value on the same tokens; a value calls a list on fewer.
abbrev pub decreases-value : goal.decreases-value
decreases-value l = 2 * length l.reader.now

abbrev pub decreases-listed : goal.decreases-listed
decreases-listed l = 2 * length l.reader.now + 1

abbrev pub decreases-more : goal.decreases-more
decreases-more l = 2 * length l.reader.now + 1
