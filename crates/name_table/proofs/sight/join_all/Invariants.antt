use Rattle.std.proofs.Common.{take}
use Rattle.name_table.specs.Marks.{Joins}
use Rattle.name_table.proofs.sight.join_all.Given as goal

abbrev pub invariant-loop-file : goal.invariant-loop-file
invariant-loop-file l = Joins l.count (take l.file-index l.these) l.fn.files.items l.files.items
