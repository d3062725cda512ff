use Rattle.std.proofs.Common.{length}
use Rattle.tree_reader.proofs.BodyTurns.{ReadManagers}
use Rattle.tree_reader.proofs.body.more_managers.Given as goal

abbrev pub invariant-managers : goal.invariant-managers
invariant-managers l = ReadManagers l.fn.managers.items l.managers.items l.fn.reader l.reader

abbrev pub decreases-managers : goal.decreases-managers
decreases-managers l = length l.reader
