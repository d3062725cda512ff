use Rattle.std.proofs.Common.{◌+◌, if◌then◌else◌}
use Rattle.explorer.proofs.Going.{RunsSo}
use Rattle.explorer.specs.Searching.{left_of}
use Rattle.explorer.proofs.search.Search.run.Given as goal

abbrev pub invariant-loop-goes_on : goal.invariant-loop-goes_on
invariant-loop-goes_on l = RunsSo l.fn.self l.goes_on l.self

abbrev pub decreases-loop-goes_on : goal.decreases-loop-goes_on
decreases-loop-goes_on l = if l.goes_on then left_of l.self + 1 else 0
