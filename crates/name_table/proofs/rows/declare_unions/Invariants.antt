use Rattle.std.proofs.Common.{map, take}
use Rattle.name_table.specs.declared.decl.DeclId.TheVariants.{Union}
use Rattle.name_table.specs.Rows.{numbered, Lists}
use Rattle.name_table.proofs.rows.declare_unions.Given as goal

abbrev pub invariant-loop-place : goal.invariant-loop-place
invariant-loop-place l = Lists (numbered (Union l.file) 0 (map (λ d. d.full) (take l.place l.unions))) l.fn.rows l.rows
