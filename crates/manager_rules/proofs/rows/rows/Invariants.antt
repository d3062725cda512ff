use Rattle.std.proofs.Common.{◌≡◌, ℕ, length, slice_get, Some}
use Rattle.manager_rules.specs.declared.rows.ManagerRow.{ManagerRow}
use Rattle.manager_rules.specs.Rows.{IsRow}
use Rattle.manager_rules.specs.Sides.{HasBond}
use Rattle.manager_rules.proofs.rows.rows.Given as goal

-- the rows of the files so far
abbrev pub invariant-loop-file : goal.invariant-loop-file
invariant-loop-file l = record {
  size : length l.rows.items ≡ l.file;
  row : (file : ℕ) (row : ManagerRow) → slice_get l.rows.items file ≡ Some row → IsRow (HasBond l.side l.program file) row;
}
