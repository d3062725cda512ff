-- Where the things happen in a history that arrows, bars and waiting items join. A row is the index of a line.
use Rattle.std.specs.Prelude.{ℕ, ℤ, ◌+◌, Bool, true, false, ◌&&◌, not, if◌then◌else◌, List, [], ◌∷◌, Option, Some, None, is_some, unwrap_or}
use Rattle.std.specs.List.{list_any, count_by}
use Rattle.std.specs.Option.{option_map_or}
use Rattle.std.specs.Ordering.{int_eq}
use Rattle.ipdl_base.specs.Lines.{same_side}
use Rattle.ipdl_base.specs.Sound.{message_of}
use Rattle.ipdl_base.specs.declared.kinds.Side.{Side}
use Rattle.ipdl_base.specs.declared.kinds.Side.TheVariants as side
use Rattle.ipdl_base.specs.declared.line.Line.{Line}
use Rattle.ipdl_base.specs.declared.line.What.{What}
use Rattle.ipdl_base.specs.declared.line.What.TheVariants as what
use Rattle.ipdl_base.specs.declared.schema.Schema.{Schema}
use Rattle.charts.specs.declared.rows.SideRows.{SideRows}

-- the request that arrives
abbrev pub arrival : What → Option ℤ
arrival (what.DeliverRequest n) = Some n
arrival _ = None

-- the request whose reply arrives
abbrev pub reply_arrival : What → Option ℤ
reply_arrival (what.DeliverReply n) = Some n
reply_arrival _ = None

-- the request that no longer waits: it is taken, dropped or replaced
abbrev pub departure : What → Option ℤ
departure (what.Take n route message values) = Some n
departure (what.Drop n route message id) = Some n
departure (what.Replaced n) = Some n
departure _ = None

-- the request whose reply no longer waits: its promise takes it, or its call continues
abbrev pub reply_departure : What → Option ℤ
reply_departure (what.TakeReply n) = Some n
reply_departure (what.ResumeOk n values) = Some n
reply_departure (what.ResumeFault n reason) = Some n
reply_departure _ = None

-- the request whose handler returns
abbrev pub handler_return : What → Option ℤ
handler_return (what.Return n) = Some n
handler_return _ = None

-- whether a line gives this number
abbrev pub is_number : ℤ → Option ℤ → Bool
is_number n given = option_map_or (λ m. int_eq m n) given false

-- the first row that gives a number, of lines from a row on
abbrev pub row_from : ℕ → (What → Option ℤ) → List Line → ℤ → Option ℕ
row_from row number [] n = None
row_from row number (line ∷ rest) n = if is_number n (number line.what) then Some row else row_from (row + 1) number rest n

-- whether the other end's farewell arrives
abbrev pub is_farewell : What → Bool
is_farewell what.DeliverGoodbye = true
is_farewell what.DeliverBroken = true
is_farewell _ = false

-- Lazy sends

-- whether a message may wait in the outbox
abbrev pub is_lazy : Schema → ℕ → Bool
is_lazy schema number = option_map_or (λ message. message.lazy) (message_of schema number) false

-- the request that goes into the outbox
abbrev pub lazy_send : Schema → What → Option ℤ
lazy_send schema (what.Send n route message values) = if is_lazy schema message then Some n else None
lazy_send schema _ = None

-- whether what waits in the outbox leaves at a line: a packet goes that does not wait, or the outbox is flushed
abbrev pub empties_outbox : Schema → What → Bool
empties_outbox schema (what.Send n route message values) = not (is_lazy schema message)
empties_outbox schema (what.Call n transaction route message values) = true
empties_outbox schema (what.Resolve n values) = true
empties_outbox schema (what.Reject n) = true
empties_outbox schema (what.AnswerOk n values) = true
empties_outbox schema (what.AnswerFault n reason) = true
empties_outbox schema (what.Flush count) = true
empties_outbox schema what.Close = true
empties_outbox schema what.Die = true
empties_outbox schema _ = false

-- the first row from which a test holds of a line of a side
abbrev pub side_row_from : ℕ → Side → (What → Bool) → List Line → Option ℕ
side_row_from row side test [] = None
side_row_from row side test (line ∷ rest) = if same_side line.side side && test line.what then Some row else side_row_from (row + 1) side test rest

-- The row at which what waits in the outbox of a side leaves, if it does: the other end's farewell drops it.
abbrev pub outbox_row_from : ℕ → Schema → Side → List Line → Option ℕ
outbox_row_from row schema side [] = None
outbox_row_from row schema side (line ∷ rest) =
    if same_side line.side side && is_farewell line.what then None else
    (if same_side line.side side && empties_outbox schema line.what then Some row else outbox_row_from (row + 1) schema side rest)

-- the row at which a lazy send leaves, if it does; nothing of a request that is not sent lazily
abbrev pub leave_from : ℕ → Schema → List Line → ℤ → Option (Option ℕ)
leave_from row schema [] n = None
leave_from row schema (line ∷ rest) n =
    if is_number n (lazy_send schema line.what) then Some (outbox_row_from (row + 1) schema line.side rest) else leave_from (row + 1) schema rest n

-- Sides

-- whether an end closes or dies
abbrev pub is_end : What → Bool
is_end what.Close = true
is_end what.Die = true
is_end what.ShutNormal = true
is_end what.ShutAbnormal = true
is_end _ = false

-- whether an end of the channel is sent or arrives at a side: nothing is sent after it
abbrev pub ends_channel : What → Bool
ends_channel what.Close = true
ends_channel what.Die = true
ends_channel what.DeliverGoodbye = true
ends_channel what.DeliverBroken = true
ends_channel _ = false

-- the last row of a side, of lines from a row on
abbrev pub last_row_from : ℕ → Side → List Line → Option ℕ
last_row_from row side [] = None
last_row_from row side (line ∷ rest) =
    if is_some (last_row_from (row + 1) side rest) then last_row_from (row + 1) side rest else
    (if same_side line.side side then Some row else None)

-- whether a side ends
abbrev pub has_ended : Side → List Line → Bool
has_ended side lines = list_any (λ line. same_side line.side side && is_end line.what) lines

-- Bars and items

-- whether a bar begins: a request is handled, or a call waits
abbrev pub begins_bar : What → Bool
begins_bar (what.Take n route message values) = true
begins_bar (what.Call n transaction route message values) = true
begins_bar _ = false

-- whether a bar ends: a handler returns, or a call continues
abbrev pub ends_bar : What → Bool
ends_bar (what.Return n) = true
ends_bar (what.ResumeOk n values) = true
ends_bar (what.ResumeFault n reason) = true
ends_bar _ = false

-- whether an item arrives that waits
abbrev pub brings_item : What → Bool
brings_item (what.DeliverRequest n) = true
brings_item (what.DeliverReply n) = true
brings_item _ = false

-- how many lines of a side pass a test
abbrev pub count_of : (What → Bool) → Side → List Line → ℕ
count_of test side lines = count_by (λ line. same_side line.side side && test line.what) lines

-- Of a whole history

-- the last row of a side, whether the side ends, and the first rows at which the other end's farewell arrives, at which an end of the
-- channel is sent or arrives, and at which what waits in the outbox leaves, of lines from a row on
abbrev pub side_rows : Schema → ℕ → Side → List Line → SideRows
side_rows schema row side lines = record {
  last = last_row_from row side lines;
  ended = has_ended side lines;
  farewell = side_row_from row side is_farewell lines;
  closing = side_row_from row side ends_channel lines;
  leave = outbox_row_from row schema side lines;
}

-- The rows at which a request and a reply arrive and no longer wait, a handler returns and a lazy send leaves, by the number of the
-- request, and those of the two sides.
pub record HistoryRows : Type 0 where
  pub arrivals : ℤ → Option ℕ
  pub reply_arrivals : ℤ → Option ℕ
  pub departures : ℤ → Option ℕ
  pub reply_departures : ℤ → Option ℕ
  pub returns : ℤ → Option ℕ
  pub leaves : ℤ → Option (Option ℕ)
  pub parent : SideRows
  pub child : SideRows

-- the rows of lines from a row on
abbrev pub rows_from : Schema → ℕ → List Line → HistoryRows
rows_from schema row lines = record {
  arrivals = row_from row arrival lines;
  reply_arrivals = row_from row reply_arrival lines;
  departures = row_from row departure lines;
  reply_departures = row_from row reply_departure lines;
  returns = row_from row handler_return lines;
  leaves = leave_from row schema lines;
  parent = side_rows schema row side.Parent lines;
  child = side_rows schema row side.Child lines;
}

-- the rows of a side
abbrev pub rows_of : HistoryRows → Side → SideRows
rows_of rows side.Parent = rows.parent
rows_of rows side.Child = rows.child

-- the row to which a lifeline goes, of so many rows: the last of its side if the side ends, and the one after all otherwise
abbrev pub bottom : SideRows → ℕ → ℕ
bottom rows count = if rows.ended then unwrap_or rows.last count else count
