use Rattle.std.proofs.Common.{◌≡◌, ◌++◌, map, drop}
use Rattle.handler_script.specs.Plain.{plain_block}
use Rattle.handler_script.specs.ScriptOf.{blocks_of}
use Rattle.handler_script.proofs.building.blocks_of.Given as goal

-- the blocks so far, and those of the lines that are left
abbrev pub invariant-loop-i : goal.invariant-loop-i
invariant-loop-i l = map plain_block l.blocks.items ++ blocks_of l.schema (drop l.i l.readings) ≡ blocks_of l.schema l.readings
