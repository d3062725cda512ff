use Rattle.std.proofs.Common.{◌≡◌, ℕ, length, slice_get, Some}
use Rattle.name_table.specs.declared.sight.Reach.{Reach}
use Rattle.name_table.specs.Marks.{IsSight}
use Rattle.name_table.proofs.sight.sights.Given as goal

abbrev pub invariant-loop-from : goal.invariant-loop-from
invariant-loop-from l =
    (length l.all.items ≡ l.from)
    × ((file : ℕ) (sight : Reach) → slice_get l.all.items file ≡ Some sight → IsSight l.program file sight)
