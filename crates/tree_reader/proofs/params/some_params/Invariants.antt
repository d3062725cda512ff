use Rattle.std.proofs.Common.{length}
use Rattle.tree_reader.proofs.ParamTurns.{Read}
use Rattle.tree_reader.proofs.params.some_params.Given as goal

abbrev pub invariant-params : goal.invariant-params
invariant-params l = Read l.all.items l.fn.reader l.reader

abbrev pub decreases-params : goal.decreases-params
decreases-params l = length l.reader
