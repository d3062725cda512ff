-- What is drawn of a line.
use Rattle.std.specs.Option.{option_map_or}
use Rattle.std.specs.Prelude.{ℕ, ℤ, ◌+◌, ◌*◌, ◌-◌, ◌%◌, ◌==◌, min, Bool, false, if◌then◌else◌, List, [], ◌++◌, codes, length, Option, Some, None, unwrap_or}
use Rattle.ipdl_base.specs.Sides.{other}
use Rattle.ipdl_base.specs.declared.kinds.Side.{Side}
use Rattle.ipdl_base.specs.declared.kinds.Side.TheVariants as side
use Rattle.ipdl_base.specs.declared.line.Line.{Line}
use Rattle.ipdl_base.specs.declared.line.What.{What}
use Rattle.ipdl_base.specs.declared.line.What.TheVariants as what
use Rattle.charts.specs.Rows.{HistoryRows, begins_bar, bottom, brings_item, count_of, ends_bar, rows_of}
use Rattle.charts.specs.Strokes.{arrow_text, bar, height, lane, stroke}
use Rattle.charts.specs.declared.marks.Place.{Place}
use Rattle.charts.specs.declared.strokes.Arrow.{Arrow}
use Rattle.charts.specs.declared.strokes.Arrow.TheVariants.{Async, Farewell, Reply, Sync}

-- where a bar is, by how many others of its side it lies in
abbrev pub bar_place : Side → ℕ → ℕ
bar_place side.Parent depth = 595 - 5 * min depth 9
bar_place side.Child depth = 795 + 5 * min depth 9

-- where a waiting item is, by how many arrived before it
abbrev pub item_place : Side → ℕ → ℕ
item_place side.Parent count = 618 + 4 * (count % 8)
item_place side.Child count = 782 - 4 * (count % 8)

-- where an outbox is
abbrev pub outbox_place : Side → ℕ
outbox_place side.Parent = 611
outbox_place side.Child = 789

-- how far one row is above another
abbrev pub size : ℕ → ℕ → ℕ
size from to = height to - height from

abbrev pub dispatch_style : List ℕ
dispatch_style = codes "class=\"dispatch\" fill=\"#e69f00\" stroke=\"#7a5400\""

abbrev pub wait_style : List ℕ
wait_style = codes "class=\"wait\" fill=\"#fff\" stroke=\"#0072b2\" stroke-dasharray=\"3 2\""

abbrev pub item_style : List ℕ
item_style = codes "class=\"item\" stroke=\"#aa4499\" stroke-width=\"3\""

abbrev pub outbox_style : List ℕ
outbox_style = codes "class=\"outbox\" stroke=\"#0072b2\" stroke-width=\"2\" stroke-dasharray=\"2 3\""

abbrev pub fall_style : List ℕ
fall_style = codes "class=\"fall\" stroke=\"#b34700\" stroke-width=\"2\""

-- Where a line is drawn: its side and its row, how many rows there are, and how many bars of its side it lies in and how many
-- items have arrived at its side, by the lines before it.
abbrev pub place_of : ℕ → List Line → Side → Place
place_of count before side = record {
  side = side;
  row = length before;
  count = count;
  depth = count_of begins_bar side before - count_of ends_bar side before;
  brought = count_of brings_item side before;
}

-- the bottom of the side of a place
abbrev pub bottom_at : HistoryRows → Place → ℕ
bottom_at rows place = bottom (rows_of rows place.side) place.count

-- an arrow from a place
abbrev pub arrow_at : Arrow → Place → Option ℕ → List ℕ
arrow_at kind place to = arrow_text kind place.side place.row to place.count

-- the bar of a handler or of a wait, from its place to the row at which it ends
abbrev pub bar_at : HistoryRows → Place → List ℕ → Option ℕ → List ℕ
bar_at rows place style to = bar style (bar_place place.side place.depth) (height place.row) (size place.row (unwrap_or to (bottom_at rows place)))

-- a line down from the row of a place to another row
abbrev pub down : List ℕ → Place → ℕ → ℕ → List ℕ
down style place x to = stroke style x (height place.row) x (height to)

-- an item that waits, from its place to the row at which it is taken
abbrev pub item_at : HistoryRows → Place → Option ℕ → List ℕ
item_at rows place to = down item_style place (item_place place.side place.brought) (unwrap_or to (bottom_at rows place))

-- a lazy send, which waits in the outbox and leaves with a later packet, if it does
abbrev pub lazy_at : HistoryRows → Place → ℤ → Option ℕ → List ℕ
lazy_at rows place n None = down outbox_style place (outbox_place place.side) (bottom_at rows place)
lazy_at rows place n (Some left) =
    down outbox_style place (outbox_place place.side) left ++ arrow_text Async place.side left (rows.arrivals n) place.count

-- an async send, lazy or not
abbrev pub send_at : HistoryRows → Place → ℤ → Option (Option ℕ) → List ℕ
send_at rows place n None = arrow_at Async place (rows.arrivals n)
send_at rows place n (Some left) = lazy_at rows place n left

-- a call: the bar of its wait, and its arrow
abbrev pub call_at : HistoryRows → Place → ℤ → List ℕ
call_at rows place n = bar_at rows place wait_style (rows.reply_departures n) ++ arrow_at Sync place (rows.arrivals n)

-- whether the row of a place is the first at which an end of the channel is sent or arrives at its side
abbrev pub is_closing : HistoryRows → Place → Bool
is_closing rows place = option_map_or (λ row. row == place.row) (rows_of rows place.side).closing false

-- the arrow of a goodbye, or of a death, which is sent only if no end of the channel was sent or arrived before
abbrev pub farewell_at : HistoryRows → Place → List ℕ
farewell_at rows place = if is_closing rows place then arrow_at Farewell place (rows_of rows (other place.side)).farewell else []

-- a cross on the lifeline, where an actor falls
abbrev pub cross : Place → List ℕ
cross place =
    stroke fall_style (lane place.side - 6) (64 + 20 * place.row) (lane place.side + 6) (76 + 20 * place.row)
    ++ stroke fall_style (lane place.side - 6) (76 + 20 * place.row) (lane place.side + 6) (64 + 20 * place.row)

-- What is drawn of a line at its place: arrows, bars, what waits, and falls.
abbrev pub marks : HistoryRows → Place → What → List ℕ
marks rows place (what.Send n route message values) = send_at rows place n (rows.leaves n)
marks rows place (what.Call n transaction route message values) = call_at rows place n
marks rows place (what.Resolve n values) = arrow_at Reply place (rows.reply_arrivals n)
marks rows place (what.Reject n) = arrow_at Reply place (rows.reply_arrivals n)
marks rows place (what.AnswerOk n values) = arrow_at Reply place (rows.reply_arrivals n)
marks rows place (what.AnswerFault n reason) = arrow_at Reply place (rows.reply_arrivals n)
marks rows place (what.DeliverRequest n) = item_at rows place (rows.departures n)
marks rows place (what.DeliverReply n) = item_at rows place (rows.reply_departures n)
marks rows place (what.Take n route message values) = bar_at rows place dispatch_style (rows.returns n)
marks rows place what.Close = farewell_at rows place
marks rows place what.Die = farewell_at rows place
marks rows place (what.Fall id destroy) = cross place
marks rows place _ = []
