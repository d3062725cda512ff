-- What contracts see of a history.
use Rattle.std.specs.Prelude.{ℕ, List}
use Rattle.ipdl_base.specs.declared.line.Line.{Line}

-- the lines, oldest first, and the number of further lines that there is room for
pub record HistoryView : Type 0 where
  pub lines : List Line
  pub spare : ℕ
