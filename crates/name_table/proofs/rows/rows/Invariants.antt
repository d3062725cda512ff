use Rattle.std.proofs.Common.{take}
use Rattle.name_table.specs.Rows.{AreRows}
use Rattle.name_table.proofs.rows.rows.Given as goal

abbrev pub invariant-loop-file : goal.invariant-loop-file
invariant-loop-file l = AreRows (take l.file l.program) l.all
