use Rattle.std.proofs.Common.{◌≡◌, ◌++◌, [], length, take, drop}
use Rattle.charts.specs.Chart.{rows_text}
use Rattle.charts.specs.Noted.{noted}
use Rattle.charts.specs.Tallies.{KnowsLines}
use Rattle.charts.proofs.chart.Pen.push_rows.Given as goal

-- the rows so far, followed by those of the remaining lines, are all, and the pen knows the lines so far
abbrev pub invariant-loop-line : goal.invariant-loop-line
invariant-loop-line l = record {
  row : l.row ≡ l.line-index;
  knows : KnowsLines (take l.line-index l.lines) l.self;
  text : l.out.items ++ rows_text l.schema (noted l.rows) (length l.lines) (take l.line-index l.lines) (drop l.line-index l.lines) ≡ l.fn.out.items ++ rows_text l.schema (noted l.rows) (length l.lines) [] l.lines;
}
