use Rattle.std.proofs.Common.{◌+◌, ◌*◌, length}
use Rattle.name_table.specs.Marks.{unmarked}
use Rattle.name_table.proofs.Marking.{Follows}
use Rattle.name_table.proofs.sight.sight.Given as goal

abbrev pub invariant-loop-file : goal.invariant-loop-file
invariant-loop-file l = Follows l.program l.from l.marks.items l.work.items

abbrev pub decreases-loop-file : goal.decreases-loop-file
decreases-loop-file l = 2 * unmarked l.marks.items + length l.work.items
