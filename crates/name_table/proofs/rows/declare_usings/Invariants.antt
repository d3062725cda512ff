use Rattle.std.proofs.Common.{map, take}
use Rattle.name_table.specs.declared.decl.DeclId.TheVariants.{Using}
use Rattle.name_table.specs.Rows.{numbered, Lists}
use Rattle.name_table.proofs.rows.declare_usings.Given as goal

abbrev pub invariant-loop-place : goal.invariant-loop-place
invariant-loop-place l = Lists (numbered (Using l.file) 0 (map (λ d. d.full) (take l.place l.usings))) l.fn.rows l.rows
