use Rattle.std.specs.Prelude.{[], take}
use Rattle.script_parts.specs.Tables.{IsTableOf}
use Rattle.script_parts.proofs.blocks.BlockTable.new.Given as goal

abbrev pub invariant-loop-index : goal.invariant-loop-index
invariant-loop-index l = IsTableOf (take l.index l.script.blocks) l.side [] l.table
