use Rattle.std.proofs.Common.{take}
use Rattle.name_table.specs.Marks.{Marks}
use Rattle.manager_rules.proofs.cycle.mark_all.Given as goal

-- the files so far are marked
abbrev pub invariant-loop-file : goal.invariant-loop-file
invariant-loop-file l = Marks (take l.file-index l.files) l.fn.marks.items l.fn.work.items l.marks.items l.work.items
