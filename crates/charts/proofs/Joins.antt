-- What is drawn of a line joins the lines that have the same number.
use Rattle.std.proofs.Common.{◌≡◌, ℕ, ◌+◌, ℤ, ◌==◌, Bool, true, false, cond, List, [], Option, Some, None, refl, subst}
use Rattle.std.specs.Option.{option_map_or}
use Rattle.std.proofs.lemmas.Bool.{eqb-false, eqb-true}
use Rattle.ipdl_base.specs.Sides.{other}
use Rattle.ipdl_base.specs.declared.kinds.Side.{Side}
use Rattle.ipdl_base.specs.declared.kinds.Side.TheVariants as side
use Rattle.ipdl_base.specs.declared.line.Line.{Line}
use Rattle.ipdl_base.specs.declared.schema.Schema.{Schema}
use Rattle.charts.specs.Firsts.{Finds, IsFirst}
use Rattle.charts.specs.Joins.{Arrives, Departs, DrawsFarewell, said, unsaid, DrawsReply, DrawsSend, at_once, later, lost, never, EndsChannel, HearsFarewell, ReplyArrives, ReplyDeparts, Returns}
use Rattle.charts.specs.Laws.{ArrowsJoinPackets}
use Rattle.charts.specs.Marks.{arrow_at, farewell_at, send_at}
use Rattle.charts.specs.Rows.{arrival, departure, handler_return, leave_from, reply_arrival, reply_departure, row_from, rows_from, rows_of}
use Rattle.charts.specs.declared.marks.Place.{Place}
use Rattle.charts.specs.declared.strokes.Arrow.TheVariants.{Farewell, Reply}
use Rattle.charts.proofs.Joined.{FindsLeave, Waits, leaves, drops, stays, one_first, finds_end, finds_farewell, finds_leave, finds_number, tells_arrival, tells_departure, tells_reply, tells_reply_departure, tells_return}

module _ (schema : Schema) (lines : List Line) (place : Place) (n : ℤ) where
  arrives : Finds (Arrives n) lines 0 (row_from 0 arrival lines n)
  arrives = finds_number (Arrives n) arrival n (tells_arrival n) lines

  continues : Finds (ReplyDeparts n) lines 0 (row_from 0 reply_departure lines n)
  continues = finds_number (ReplyDeparts n) reply_departure n (tells_reply_departure n) lines

  sends : (leave : Option (Option ℕ)) → FindsLeave schema n lines 0 leave → DrawsSend schema lines place n (send_at (rows_from schema 0 lines) place n leave)
  sends None none = at_once (row_from 0 arrival lines n) none arrives refl
  sends (Some left) sent = by left sent.waits
    where
      by : (left : Option ℕ) → Waits schema sent.send.line.side lines (sent.sent + 1) left → DrawsSend schema lines place n (send_at (rows_from schema 0 lines) place n (Some left))
      by _ (leaves row clear empties) = later sent.sent row (row_from 0 arrival lines n) sent.send clear empties arrives refl
      by _ (drops row clear hears) = lost sent.sent row sent.send clear hears refl
      by _ (stays none) = never sent.sent sent.send none refl

  replies : DrawsReply lines place n (arrow_at Reply place (row_from 0 reply_arrival lines n))
  replies = record { to = row_from 0 reply_arrival lines n; arrives = finds_number (ReplyArrives n) reply_arrival n (tells_reply n) lines; drawn = refl }

  farewells : (end : Side) → Finds (HearsFarewell end) lines 0 (rows_of (rows_from schema 0 lines) end).farewell
  farewells side.Parent = finds_farewell side.Parent lines
  farewells side.Child = finds_farewell side.Child lines

  closings : (end : Side) → Finds (EndsChannel end) lines 0 (rows_of (rows_from schema 0 lines) end).closing
  closings side.Parent = finds_end side.Parent lines
  closings side.Child = finds_end side.Child lines

  ends : DrawsFarewell lines place (farewell_at (rows_from schema 0 lines) place)
  ends = by (rows_of (rows_from schema 0 lines) place.side).closing (closings place.side)
    where
      farewell : Option ℕ
      farewell = (rows_of (rows_from schema 0 lines) (other place.side)).farewell

      at : (row : ℕ) → IsFirst (EndsChannel place.side) lines 0 row → (same : Bool) → (row == place.row) ≡ same → DrawsFarewell lines place (cond same (arrow_at Farewell place farewell) [])
      at row f true e = said farewell (subst (IsFirst (EndsChannel place.side) lines 0) (eqb-true row place.row e) f) (farewells (other place.side)) refl
      at row f false e = unsaid (λ g. eqb-false row place.row e (one_first f g)) refl

      by : (closing : Option ℕ) → Finds (EndsChannel place.side) lines 0 closing
          → DrawsFarewell lines place (cond (option_map_or (λ row. row == place.row) closing false) (arrow_at Farewell place farewell) [])
      by None none = unsaid (λ f. none place.row f.line f.after f.found f.holds) refl
      by (Some row) f = at row f (row == place.row) refl

-- the law of arrows
pub arrows_join_packets : ArrowsJoinPackets
arrows_join_packets schema lines place n = record {
  send = λ route message values. sends schema lines place n (leave_from 0 schema lines n) (finds_leave schema lines n);
  call = λ transaction route message values. record { back = row_from 0 reply_departure lines n; to = row_from 0 arrival lines n; continues = continues schema lines place n; arrives = arrives schema lines place n; drawn = refl };
  resolve = λ values. replies schema lines place n;
  reject = replies schema lines place n;
  answer_ok = λ values. replies schema lines place n;
  answer_fault = λ reason. replies schema lines place n;
  request = record { to = row_from 0 departure lines n; ends = finds_number (Departs n) departure n (tells_departure n) lines; drawn = refl };
  reply = record { to = row_from 0 reply_departure lines n; ends = continues schema lines place n; drawn = refl };
  handler = λ route message values. record { to = row_from 0 handler_return lines n; returns = finds_number (Returns n) handler_return n (tells_return n) lines; drawn = refl };
  close = ends schema lines place n;
  die = ends schema lines place n;
}
