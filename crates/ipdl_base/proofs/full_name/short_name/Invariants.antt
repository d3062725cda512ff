use Rattle.std.proofs.Common.{◌≡◌, false, drop}
use Rattle.std.specs.List.{list_any}
use Rattle.ipdl_base.proofs.ShortNames.{is_colon}
use Rattle.ipdl_base.proofs.full_name.short_name.Given as goal

-- no later byte is a colon
abbrev pub invariant-loop-index : goal.invariant-loop-index
invariant-loop-index l = list_any is_colon (drop l.index l.full) ≡ false
