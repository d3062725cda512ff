use Rattle.std.proofs.Common.{◌∙◌, ◌+◌, ap}
use Rattle.std.specs.HashMap.{get}
use Rattle.std.specs.Ordering.{int_eq}
use Rattle.charts.specs.Rows.{arrival, departure, handler_return, reply_arrival, reply_departure}
use Rattle.charts.specs.declared.rows.SideRows.{SideRows}
use Rattle.charts.proofs.RowLemmas.{leave_known, leave_more, noted_more}
use Rattle.charts.proofs.rows.Rows.note.Goals as goal

pub returns : goal.returns
returns c rest knows =
    let schema = c.args.schema.now in
    let row = c.args.row in
    let line = c.args.line.now in
    let old = c.args.self.now in
    record {
      arrivals = noted_more arrival row line rest (get int_eq old.arrivals) (get int_eq c.note.new.map) c.arrival.result c.arrival.ensures c.in_ok-note.ensures knows.arrivals;
      reply_arrivals = noted_more reply_arrival row line rest (get int_eq old.reply_arrivals) (get int_eq c.note-2.new.map) c.reply_arrival.result c.reply_arrival.ensures c.in_ok-note-2.ensures knows.reply_arrivals;
      departures = noted_more departure row line rest (get int_eq old.departures) (get int_eq c.note-3.new.map) c.departure.result c.departure.ensures c.in_ok-note-3.ensures knows.departures;
      reply_departures = noted_more reply_departure row line rest (get int_eq old.reply_departures) (get int_eq c.note-4.new.map) c.reply_departure.result c.reply_departure.ensures c.in_ok-note-4.ensures knows.reply_departures;
      returns = noted_more handler_return row line rest (get int_eq old.returns) (get int_eq c.note-5.new.map) c.handler_return.result c.handler_return.ensures c.in_ok-note-5.ensures knows.returns;
      leaves = leave_more schema row line rest (get int_eq old.leaves) (get int_eq c.note_leave.new.map) c.lazy_send.result c.of_side-leave.result.leave c.lazy_send.ensures
          (ap (λ (r : SideRows). r.leave) c.of_side-leave.ensures ∙ leave_known schema (row + 1) rest old line.side knows) c.in_ok-note_leave.ensures knows.leaves;
      parent = c.with-self.ensures rest knows.parent;
      child = c.with-self-2.ensures rest knows.child;
    }
