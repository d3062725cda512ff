use Rattle.std.proofs.Common.{◌≤◌, drop, length}
use Rattle.charts.specs.Noted.{Knows}
use Rattle.charts.proofs.rows.Rows.note_all.Given as goal

-- the lines from this row on are noted
abbrev pub invariant-loop-row : goal.invariant-loop-row
invariant-loop-row l = record {
  within : l.row ≤ length l.lines;
  knows : Knows l.schema l.row (drop l.row l.lines) l.self;
}

abbrev pub decreases-loop-row : goal.decreases-loop-row
decreases-loop-row l = l.row
