-- A goodbye, or the mark, that arrives.
use Rattle.std.proofs.Common.{◌≡◌, ◌+◌, ◌-◌, ◌≤◌, true, List, [], ◌∷◌, ◌++◌, map, length, Option, Some, None, refl, ap, sym, ◌∙◌, append_assoc, arith}
use Rattle.std.specs.Option.{option_map_or}
use Rattle.std.proofs.lemmas.Bool.{false≢true}
use Rattle.ipdl_base.specs.declared.kinds.EndState.TheVariants.{Open, Draining}
use Rattle.ipdl_base.specs.declared.line.What.{What}
use Rattle.ipdl_base.specs.declared.line.What.TheVariants as what
use Rattle.ipdl_base.specs.declared.message.Body.{Body}
use Rattle.ipdl_base.specs.declared.message.Body.TheVariants.{Request, Reply, Fault, Goodbye}
use Rattle.ipdl_base.specs.declared.message.Message.{Message}
use Rattle.ipdl_base.specs.declared.schema.MessageRow.{MessageRow}
use Rattle.ipdl_base.specs.declared.schema.Schema.{Schema}
use Rattle.ipdl_base.specs.Plain.{plain_body, plain_message}
use Rattle.ipdl_base.specs.Sound.{message_of}
use Rattle.value_types.proofs.Boxes.{fits}
use Rattle.nesting_core.specs.declared.frame.StackFrame.{StackFrame}
use Rattle.nesting_core.specs.declared.frame.StackFrame.TheVariants.{Dispatch, Wait}
use Rattle.pending_queue.specs.declared.item.Item.{Item}
use Rattle.channel_model.specs.Deliveries.{arrives, body_delivered, deliver, ended, with_failed_wait}
use Rattle.channel_model.specs.Ends.{End, StackEntry}
use Rattle.channel_model.specs.Ends as model
use Rattle.channel_model.specs.Events as event
use Rattle.channel_model.specs.Fitting.{IsFittingDelivery}
use Rattle.channel_model.specs.Outputs.{Output, beginning, line, line_at, lines, on_end}
use Rattle.channel_model.specs.Parts.{drained_end, farewell_item, farewell_line}
use Rattle.channel_model.specs.Refusals.{body_refusal, packet_refusal}
use Rattle.channel_model.specs.States.{is_farewell, is_goodbye}
use Rattle.end_steps.specs.Arrivals.{HasEnded}
use Rattle.end_steps.specs.FailedWaits.{unanswered_in}
use Rattle.end_parts.specs.OutputView.{OutputView, with_line}
use Rattle.channel_core.specs.Delivered.{IsFarewell, farewell}
use Rattle.channel_core.specs.Inside.{IsInside}
use Rattle.channel_core.specs.Room.{own_lines, room, wait_lines, waits_in}
use Rattle.channel_core.specs.EndView.{EndView}
use Rattle.channel_core.specs.Tracks.{Tracks}
use Rattle.channel_core.proofs.ArrivalLemmas.{Delivers, delivery_steps}
use Rattle.channel_core.proofs.TrackLemmas.{tracks_line, tracks_lines}

-- waits that fail owe one line less each
waits_at : (frame : StackFrame) (entry : StackEntry) (rest : List StackEntry) → entry.frame ≡ frame → waits_in (map with_failed_wait rest) + length (unanswered_in rest) ≡ waits_in rest
    → waits_in (map with_failed_wait (record entry { frame = frame } ∷ rest)) + length (unanswered_in (record entry { frame = frame } ∷ rest)) ≡ wait_lines frame + waits_in rest
waits_at (Dispatch head) entry rest e below = omega (arith, below)
waits_at (Wait head None) entry rest e below = omega (arith, below)
waits_at (Wait head (Some a)) entry rest e below = omega (arith, below)

waits_failed : (stack : List StackEntry) → waits_in (map with_failed_wait stack) + length (unanswered_in stack) ≡ waits_in stack
waits_failed [] = refl
waits_failed (entry ∷ rest) = waits_at entry.frame entry rest refl (waits_failed rest)

-- there is room for the lines of those that fail, and one more
pub room_for_farewell : (schema : Schema) (e : End) (out : OutputView) → e.state ≡ Open → IsInside schema e out → 1 + length (unanswered_in e.stack) ≤ out.line_spare
unfolding room
room_for_farewell schema e out opens inside =
    let fewer : waits_in (map with_failed_wait e.stack) + length (unanswered_in e.stack) ≡ waits_in e.stack = waits_failed e.stack in
    let own : own_lines e.state ≡ 2 = ap own_lines opens in
    omega (arith, inside.owes, inside.spare, fewer, own)

farewell-delivered : (schema : Schema) (packet : model.Packet) (o : Output) → is_farewell (farewell_item packet) ≡ true → deliver schema packet o ≡ ended (farewell_item packet) (line (farewell_line packet) o)
farewell-delivered schema model.mark o is = refl
farewell-delivered schema (model.message m) o is = ap (λ (b : Body). body_delivered schema m b o) (by m.body is)
  where
    by : (body : Body) → is_goodbye body ≡ true → body ≡ Goodbye
    by (Request vs) e = cc
    by (Reply vs) e = cc
    by (Fault reason) e = cc
    by Goodbye e = refl

pub farewell_received : (v : EndView) (out : OutputView) (packet : model.Packet) (items : List Item) (stack : List StackEntry) (out' : OutputView) → IsInside v.schema v.end out → Tracks v (beginning v.end) out → v.end.state ≡ Open
    → is_farewell (farewell_item packet) ≡ true → items ≡ v.end.arrived ++ farewell_item packet ∷ [] → HasEnded v.end.side (farewell_line packet) v.end.stack out stack out'
    → Delivers v packet (record v.end { state = Draining; arrived = items; stack = stack; outbox = out'.outbox }) out'
unfolding room
farewell_received v out packet items stack out' inside t opens is arrived h =
    let e = v.end in
    let fails : List What = map what.Fails (unanswered_in e.stack) in
    let o1 : Output = line (farewell_line packet) (beginning e) in
    let o2 : Output = lines fails o1 in
    let o3 : Output = on_end (drained_end (farewell_item packet)) o2 in
    let said : OutputView = with_line out (line_at e.side (farewell_line packet)) in
    let failed : OutputView = record said { lines = said.lines ++ map (line_at e.side) fails } in
    let t1 : Tracks v o1 said = tracks_line v (beginning e) out said (farewell_line packet) t refl in
    let t2 : Tracks v o2 failed = tracks_lines v o1 said failed fails t1 refl in
    let fewer : waits_in stack + length (unanswered_in e.stack) ≡ waits_in e.stack = ap (λ (s : List StackEntry). waits_in s + length (unanswered_in e.stack)) h.failed ∙ waits_failed e.stack in
    let own : own_lines e.state ≡ 2 = ap own_lines opens in
    let owed : out'.lines_owed ≡ out.lines_owed - (1 + length (unanswered_in e.stack) + length out.outbox) = ap (λ (g : OutputView). g.lines_owed) h.says in
    let dropped : length out'.outbox ≡ 0 = ap (λ (g : OutputView). length g.outbox) h.says in
    let outbox : length out.outbox ≡ length e.outbox = ap length t.outbox in
    let t3 : Tracks v o3 out' = record {
      lines = ap (λ (g : OutputView). g.lines) h.says ∙ sym (append_assoc out.lines (line_at e.side (farewell_line packet) ∷ []) (map (line_at e.side) fails)) ∙ t2.lines;
      packets = ap (λ (g : OutputView). g.packets) h.says ∙ t2.packets;
      outbox = ap (λ (g : OutputView). g.outbox) h.says;
      frames = rw h.says refl;
      waiting = rw h.says tt;
      framed = t2.framed;
    } in
    record {
      made = record {
        output = o3;
        steps = delivery_steps v packet opens ∙ ap (λ (o : Output). Some o) (farewell-delivered v.schema packet (beginning e) is);
        tracks = t3;
        ends = ap (λ (xs : List Item). record e { state = Draining; arrived = xs; stack = stack; outbox = out'.outbox }) arrived
            ∙ ap (λ (s : List StackEntry). record (arrives (farewell_item packet) e) { state = Draining; stack = s; outbox = out'.outbox }) h.failed
            ∙ ap (λ (ms : List Message). record (drained_end (farewell_item packet) e) { outbox = ms }) t3.outbox;
      };
      has_room = record {
        owes = omega (arith, inside.owes, own, fewer, owed, dropped, outbox);
        spare = omega (arith, inside.spare, owed, h.spare);
        packets = λ b. absurd (false≢true b);
        farewell = λ b. absurd (false≢true b);
      };
    }

-- What is known of a goodbye, or of the mark

plain_goodbye : (body : Body) → is_goodbye body ≡ true → is_goodbye (plain_body body) ≡ true
plain_goodbye (Request vs) e = e
plain_goodbye (Reply vs) e = e
plain_goodbye (Fault reason) e = e
plain_goodbye Goodbye e = e

pub is_farewell_packet : (schema : Schema) (goodbye : Option Message) → IsFarewell schema goodbye → is_farewell (farewell_item (farewell goodbye)) ≡ true
is_farewell_packet schema None h = refl
is_farewell_packet schema (Some m) h = plain_goodbye m.body h.1

-- a goodbye is never refused
accepted : (schema : Schema) (e : End) (m : Message) (body : Body) → is_goodbye body ≡ true → (found : Option MessageRow) → option_map_or (body_refusal schema e m body) found None ≡ None
accepted schema e m (Request vs) is found = cc
accepted schema e m (Reply vs) is found = cc
accepted schema e m (Fault reason) is found = cc
accepted schema e m Goodbye is None = refl
accepted schema e m Goodbye is (Some row) = refl

pub not_refused : (schema : Schema) (e : End) (goodbye : Option Message) → IsFarewell schema goodbye → packet_refusal schema e (farewell goodbye) ≡ None
not_refused schema e None h = refl
not_refused schema e (Some m) h = accepted schema e (plain_message m) (plain_body m.body) (plain_goodbye m.body h.1) (message_of schema m.number)

pub fits_farewell : (v : EndView) (goodbye : Option Message) → IsFarewell v.schema goodbye → IsFittingDelivery v.schema v.end (farewell goodbye ∷ []) event.deliver
fits_farewell v None h = (tt, refl)
fits_farewell v (Some m) h = ((fits v.schema m).1 h.0, not_refused v.schema v.end (Some m) h)
