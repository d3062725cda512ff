-- What holds of the picture of each history.
use Rattle.std.specs.Prelude.{◌≡◌, ℕ, ℤ, List, ◌++◌, codes, length, Option, Some, slice_get, take}
use Rattle.std.specs.List.{concat}
use Rattle.ipdl_base.specs.declared.kinds.Side.{Side}
use Rattle.ipdl_base.specs.declared.line.Line.{Line}
use Rattle.ipdl_base.specs.declared.schema.Schema.{Schema}
use Rattle.history.specs.Text.{line_text}
use Rattle.charts.specs.Chart.{chart_text, foot, head}
use Rattle.charts.specs.Documents.{IsContent, IsDocument}
use Rattle.charts.specs.Escapes.{shown}
use Rattle.charts.specs.Joins.{JoinsPackets}
use Rattle.charts.specs.Rows.{rows_from}
use Rattle.charts.specs.declared.marks.Place.{Place}

-- Documents

-- The picture of a history is one element named svg and a line feed, whatever the names and values of the history are.
abbrev pub ChartsAreWellFormed : Type 0
ChartsAreWellFormed = (schema : Schema) (lines : List Line) (spent : Option Side) → IsDocument (codes "svg") (chart_text schema lines spent)

-- Rows

-- The row of a line after others: a group that has the line of the transcript as its title, and then what is drawn.
pub record IsRow (schema : Schema) (before : List Line) (line : Line) (row : List ℕ) : Type 0 where
  pub title : List ℕ
  pub drawn : List ℕ
  pub is_title : line_text schema before line ≡ title ++ codes "\n"
  pub is_content : IsContent drawn
  pub whole : row ≡ codes "<g><title>" ++ shown title ++ codes "</title>" ++ drawn ++ codes "</g>\n"

-- the picture is its head, a row for each line in their order, and its foot
pub record HasRows (schema : Schema) (lines : List Line) (spent : Option Side) : Type 0 where
  pub rows : List (List ℕ)
  pub count : length rows ≡ length lines
  pub each : (i : ℕ) (line : Line) (row : List ℕ) → slice_get lines i ≡ Some line → slice_get rows i ≡ Some row → IsRow schema (take i lines) line row
  pub whole : chart_text schema lines spent ≡ head (rows_from schema 0 lines) (length lines) ++ concat rows ++ foot (length lines) spent

-- The picture of a history has one row for each line.
abbrev pub RowsAreLines : Type 0
RowsAreLines = (schema : Schema) (lines : List Line) (spent : Option Side) → HasRows schema lines spent

-- Arrows

-- The arrows and bars of a history end at the rows of the lines that answer to them.
abbrev pub ArrowsJoinPackets : Type 0
ArrowsJoinPackets = (schema : Schema) (lines : List Line) (place : Place) (n : ℤ) → JoinsPackets schema lines place n
