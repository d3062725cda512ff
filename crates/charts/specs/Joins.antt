-- At which lines the arrows, bars and waiting items of a picture end.
use Rattle.std.specs.Prelude.{◌≡◌, ◌⊎◌, ℕ, ◌+◌, ℤ, true, List, [], ◌++◌, Option, None}
use Rattle.ipdl_base.specs.Sides.{other}
use Rattle.ipdl_base.specs.declared.kinds.Side.{Side}
use Rattle.ipdl_base.specs.declared.line.Line.{Line}
use Rattle.ipdl_base.specs.declared.kinds.Reason.{Reason}
use Rattle.ipdl_base.specs.declared.line.What.TheVariants as what
use Rattle.ipdl_base.specs.declared.schema.Schema.{Schema}
use Rattle.ipdl_base.specs.declared.value.Values.{Values}
use Rattle.charts.specs.Firsts.{Finds, IsFirst}
use Rattle.charts.specs.Marks.{arrow_at, bar_at, bottom_at, dispatch_style, down, item_at, marks, outbox_place, outbox_style, wait_style}
use Rattle.charts.specs.Rows.{empties_outbox, is_lazy, rows_from}
use Rattle.charts.specs.Strokes.{arrow_text}
use Rattle.charts.specs.declared.marks.Place.{Place}
use Rattle.charts.specs.declared.strokes.Arrow.TheVariants.{Async, Farewell, Reply, Sync}

-- Lines

-- the request of a number arrives
abbrev pub Arrives : ℤ → Line → Type 0
Arrives n line = line.what ≡ what.DeliverRequest n

-- the reply to the request of a number arrives
abbrev pub ReplyArrives : ℤ → Line → Type 0
ReplyArrives n line = line.what ≡ what.DeliverReply n

-- the handler of the request of a number returns
abbrev pub Returns : ℤ → Line → Type 0
Returns n line = line.what ≡ what.Return n

-- the request of a number no longer waits
pub data Departs (n : ℤ) (line : Line) : Type 0 where
  taken : (route : ℤ) (message : ℕ) (values : Values) → line.what ≡ what.Take n route message values → Departs n line
  dropped : (route : ℤ) (message : ℕ) (id : ℤ) → line.what ≡ what.Drop n route message id → Departs n line
  replaced : line.what ≡ what.Replaced n → Departs n line

-- the reply to the request of a number no longer waits
pub data ReplyDeparts (n : ℤ) (line : Line) : Type 0 where
  reply_taken : line.what ≡ what.TakeReply n → ReplyDeparts n line
  resumed : (values : Values) → line.what ≡ what.ResumeOk n values → ReplyDeparts n line
  failed : (reason : Reason) → line.what ≡ what.ResumeFault n reason → ReplyDeparts n line

-- the request of a number is sent by a message that may wait in the outbox
pub record IsLazySend (schema : Schema) (n : ℤ) (line : Line) : Type 0 where
  pub route : ℤ
  pub message : ℕ
  pub values : Values
  pub sent : line.what ≡ what.Send n route message values
  pub lazy : is_lazy schema message ≡ true

-- the farewell of the other end arrives at a side: its goodbye, or the mark of its death
pub record HearsFarewell (side : Side) (line : Line) : Type 0 where
  pub of_side : line.side ≡ side
  pub farewell : (line.what ≡ what.DeliverGoodbye) ⊎ (line.what ≡ what.DeliverBroken)

-- the channel ends for a side: the side closes or dies, or the farewell of the other end arrives
pub data EndsChannel (side : Side) (line : Line) : Type 0 where
  closes : line.side ≡ side → line.what ≡ what.Close → EndsChannel side line
  dies : line.side ≡ side → line.what ≡ what.Die → EndsChannel side line
  hears : HearsFarewell side line → EndsChannel side line

-- the outbox of a side empties
pub record Empties (schema : Schema) (side : Side) (line : Line) : Type 0 where
  pub of_side : line.side ≡ side
  pub empties : empties_outbox schema line.what ≡ true

-- nothing waits in the outbox of a side any longer: it empties, or the farewell of the other end drops it
abbrev pub Clears : Schema → Side → Line → Type 0
Clears schema side line = Empties schema side line ⊎ HearsFarewell side line

-- Marks

-- How an async send is drawn: by an arrow from its row to that of its delivery; or, if it waits in the outbox, by a line down to the
-- first row after it at which the outbox of its side empties, and from there by the arrow; or, if the farewell of the other end
-- drops the outbox before it empties, or if neither happens, by a line down to the bottom.
pub data DrawsSend (schema : Schema) (lines : List Line) (place : Place) (n : ℤ) (text : List ℕ) : Type 0 where
  at_once : (to : Option ℕ) → Finds (IsLazySend schema n) lines 0 None → Finds (Arrives n) lines 0 to → text ≡ arrow_at Async place to → DrawsSend schema lines place n text
  later : (sent left : ℕ) (to : Option ℕ) (send : IsFirst (IsLazySend schema n) lines 0 sent) (clear : IsFirst (Clears schema send.line.side) lines (sent + 1) left)
      → Empties schema send.line.side clear.line → Finds (Arrives n) lines 0 to
      → text ≡ down outbox_style place (outbox_place place.side) left ++ arrow_text Async place.side left to place.count → DrawsSend schema lines place n text
  lost : (sent drop : ℕ) (send : IsFirst (IsLazySend schema n) lines 0 sent) (clear : IsFirst (Clears schema send.line.side) lines (sent + 1) drop) → HearsFarewell send.line.side clear.line
      → text ≡ down outbox_style place (outbox_place place.side) (bottom_at (rows_from schema 0 lines) place) → DrawsSend schema lines place n text
  never : (sent : ℕ) (send : IsFirst (IsLazySend schema n) lines 0 sent) → Finds (Clears schema send.line.side) lines (sent + 1) None
      → text ≡ down outbox_style place (outbox_place place.side) (bottom_at (rows_from schema 0 lines) place) → DrawsSend schema lines place n text

-- a call is drawn by the bar of its wait, down to where it continues, and by an arrow to the row of its delivery
pub record DrawsCall (schema : Schema) (lines : List Line) (place : Place) (n : ℤ) (text : List ℕ) : Type 0 where
  pub back : Option ℕ
  pub to : Option ℕ
  pub continues : Finds (ReplyDeparts n) lines 0 back
  pub arrives : Finds (Arrives n) lines 0 to
  pub drawn : text ≡ bar_at (rows_from schema 0 lines) place wait_style back ++ arrow_at Sync place to

-- a reply is drawn by an arrow to the row of its delivery
pub record DrawsReply (lines : List Line) (place : Place) (n : ℤ) (text : List ℕ) : Type 0 where
  pub to : Option ℕ
  pub arrives : Finds (ReplyArrives n) lines 0 to
  pub drawn : text ≡ arrow_at Reply place to

-- How the goodbye or the death of a side is drawn: at the first row at which the channel ends for the side, by an arrow to the row
-- at which the farewell arrives at the other side; at any other row, by nothing.
pub data DrawsFarewell (lines : List Line) (place : Place) (text : List ℕ) : Type 0 where
  said : (to : Option ℕ) → IsFirst (EndsChannel place.side) lines 0 place.row → Finds (HearsFarewell (other place.side)) lines 0 to → text ≡ arrow_at Farewell place to → DrawsFarewell lines place text
  unsaid : ¬ IsFirst (EndsChannel place.side) lines 0 place.row → text ≡ [] → DrawsFarewell lines place text

-- a handler is drawn by a bar, down to where it returns
pub record DrawsHandler (schema : Schema) (lines : List Line) (place : Place) (n : ℤ) (text : List ℕ) : Type 0 where
  pub to : Option ℕ
  pub returns : Finds (Returns n) lines 0 to
  pub drawn : text ≡ bar_at (rows_from schema 0 lines) place dispatch_style to

-- an item is drawn by a line down to where it no longer waits
pub record DrawsItem (Ends : Line → Type 0) (schema : Schema) (lines : List Line) (place : Place) (text : List ℕ) : Type 0 where
  pub to : Option ℕ
  pub ends : Finds Ends lines 0 to
  pub drawn : text ≡ item_at (rows_from schema 0 lines) place to

-- What is drawn of a line with a number, at any place, joins the lines of the history that have the same number, and what is drawn of
-- the first end of the channel at a side joins the farewell.
pub record JoinsPackets (schema : Schema) (lines : List Line) (place : Place) (n : ℤ) : Type 0 where
  pub send : (route : ℤ) (message : ℕ) (values : Values) → DrawsSend schema lines place n (marks (rows_from schema 0 lines) place (what.Send n route message values))
  pub call : (transaction route : ℤ) (message : ℕ) (values : Values) → DrawsCall schema lines place n (marks (rows_from schema 0 lines) place (what.Call n transaction route message values))
  pub resolve : (values : Values) → DrawsReply lines place n (marks (rows_from schema 0 lines) place (what.Resolve n values))
  pub reject : DrawsReply lines place n (marks (rows_from schema 0 lines) place (what.Reject n))
  pub answer_ok : (values : Values) → DrawsReply lines place n (marks (rows_from schema 0 lines) place (what.AnswerOk n values))
  pub answer_fault : (reason : Reason) → DrawsReply lines place n (marks (rows_from schema 0 lines) place (what.AnswerFault n reason))
  pub request : DrawsItem (Departs n) schema lines place (marks (rows_from schema 0 lines) place (what.DeliverRequest n))
  pub reply : DrawsItem (ReplyDeparts n) schema lines place (marks (rows_from schema 0 lines) place (what.DeliverReply n))
  pub handler : (route : ℤ) (message : ℕ) (values : Values) → DrawsHandler schema lines place n (marks (rows_from schema 0 lines) place (what.Take n route message values))
  pub close : DrawsFarewell lines place (marks (rows_from schema 0 lines) place what.Close)
  pub die : DrawsFarewell lines place (marks (rows_from schema 0 lines) place what.Die)
