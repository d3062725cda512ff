-- Lines that are moved to a history.
use Rattle.std.specs.Prelude.{◌≡◌, ◌+◌, ◌≤◌, List, ◌++◌, map, length}
use Rattle.ipdl_base.specs.declared.line.Line.{Line}
use Rattle.history.specs.HistoryView.{HistoryView}
use Rattle.end_parts.specs.PlainLines.{plain_line}

-- The lines are last in the history, up to where their boxes lie, and take no more of its room than their number.
pub record HasMoved (lines : List Line) (before after : HistoryView) : Type 0 where
  pub moved : List Line
  pub are : map plain_line moved ≡ lines
  pub last : after.lines ≡ before.lines ++ moved
  pub spare : before.spare ≤ after.spare + length lines
