-- The first line of a history of which something holds.
use Rattle.std.specs.Prelude.{◌≡◌, ℕ, ◌<◌, ◌≤◌, List, Option, Some, None, slice_get}
use Rattle.ipdl_base.specs.declared.line.Line.{Line}

-- This holds of the line of a row, and of no line before it that is of the first row or after it.
pub record IsFirst (Holds : Line → Type 0) (lines : List Line) (from row : ℕ) : Type 0 where
  pub line : Line
  pub found : slice_get lines row ≡ Some line
  pub holds : Holds line
  pub after : from ≤ row
  pub first : (before : ℕ) (other : Line) → from ≤ before → before < row → slice_get lines before ≡ Some other → ¬ Holds other

-- The row of the first line, from a row on, of which this holds, or nothing if it holds of none.
abbrev pub Finds : (Line → Type 0) → List Line → ℕ → Option ℕ → Type 0
Finds Holds lines from None = (row : ℕ) (line : Line) → from ≤ row → slice_get lines row ≡ Some line → ¬ Holds line
Finds Holds lines from (Some row) = IsFirst Holds lines from row
