use Rattle.std.proofs.Common.{◌+◌, ◌*◌, length}
use Rattle.tree_reader.proofs.types.+type_spec.Given as goal

-- A type without `nullable` calls its base on the same tokens; a base calls a type on fewer tokens.
abbrev pub decreases-base : goal.decreases-base
decreases-base l = 2 * length l.reader.now

abbrev pub decreases-type_within : goal.decreases-type_within
decreases-type_within l = 2 * length l.reader.now + 1
