-- What is known of the rows of a history, from some row on.
use Rattle.std.specs.Prelude.{◌≡◌, ℕ, ℤ, List}
use Rattle.std.specs.HashMap.{get}
use Rattle.std.specs.Ordering.{int_eq}
use Rattle.ipdl_base.specs.declared.kinds.Side.{Side}
use Rattle.ipdl_base.specs.declared.kinds.Side.TheVariants as side
use Rattle.ipdl_base.specs.declared.line.Line.{Line}
use Rattle.ipdl_base.specs.declared.schema.Schema.{Schema}
use Rattle.charts.specs.Rows.{HistoryRows, arrival, departure, handler_return, leave_from, reply_arrival, reply_departure, row_from, side_rows}
use Rattle.charts.specs.declared.rows.Rows.{Rows}
use Rattle.charts.specs.declared.rows.SideRows.{SideRows}

-- the rows that are noted
abbrev pub noted : Rows → HistoryRows
noted rows = record {
  arrivals = get int_eq rows.arrivals;
  reply_arrivals = get int_eq rows.reply_arrivals;
  departures = get int_eq rows.departures;
  reply_departures = get int_eq rows.reply_departures;
  returns = get int_eq rows.returns;
  leaves = get int_eq rows.leaves;
  parent = rows.parent;
  child = rows.child;
}

-- the rows that are noted are those of the lines from a row on
pub record Knows (schema : Schema) (row : ℕ) (lines : List Line) (rows : Rows) : Type 0 where
  pub arrivals : (n : ℤ) → get int_eq rows.arrivals n ≡ row_from row arrival lines n
  pub reply_arrivals : (n : ℤ) → get int_eq rows.reply_arrivals n ≡ row_from row reply_arrival lines n
  pub departures : (n : ℤ) → get int_eq rows.departures n ≡ row_from row departure lines n
  pub reply_departures : (n : ℤ) → get int_eq rows.reply_departures n ≡ row_from row reply_departure lines n
  pub returns : (n : ℤ) → get int_eq rows.returns n ≡ row_from row handler_return lines n
  pub leaves : (n : ℤ) → get int_eq rows.leaves n ≡ leave_from row schema lines n
  pub parent : rows.parent ≡ side_rows schema row side.Parent lines
  pub child : rows.child ≡ side_rows schema row side.Child lines

-- the rows of a side that are noted
abbrev pub side_noted : Rows → Side → SideRows
side_noted rows side.Parent = rows.parent
side_noted rows side.Child = rows.child
