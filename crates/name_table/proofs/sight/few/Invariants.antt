use Rattle.name_table.proofs.Marking.{Walks}
use Rattle.name_table.proofs.sight.few.Given as goal

abbrev pub invariant-files : goal.invariant-files
invariant-files l = Walks l.program l.from l.files.items l.next
