-- For each file of a program, the files whose protocols its protocol names. These serve the code alone.
use Rattle.std.specs.Prelude.{◌≡◌, ◌↔◌, ℕ, List, Some, IsTrue, length, nat_eq, slice_get}
use Rattle.std.specs.HashSet.{contains}
use Rattle.std.specs.List.{Contains}
use Rattle.ipdl_syntax.specs.declared.program.Entry.{Entry}
use Rattle.manager_rules.specs.declared.rows.ManagerRow.{ManagerRow}
use Rattle.manager_rules.specs.declared.side.Relation.{Relation}
use Rattle.manager_rules.specs.Sides.{HasBond}

-- a row has exactly the files with this property
pub record IsRow (Holds : ℕ → Type 0) (row : ManagerRow) : Type 0 where
  pub files : (other : ℕ) → Contains row.files.items other ↔ Holds other
  pub set : (other : ℕ) → IsTrue (contains nat_eq row.set other) ↔ Holds other

-- for each file the row of those that its protocol names in this relation
pub record AreRows (side : Relation) (program : List Entry) (rows : List ManagerRow) : Type 0 where
  pub size : length rows ≡ length program
  pub row : (file : ℕ) (row : ManagerRow) → slice_get rows file ≡ Some row → IsRow (HasBond side program file) row
