-- Replies that arrive.
use Rattle.std.proofs.Common.{◌≡◌, ◌+◌, ◌-◌, ◌<◌, ℤ, Bool, true, false, List, [], ◌∷◌, length, Option, Some, None, refl, ap, ◌∙◌, arith, if◌then◌else◌}
use Rattle.std.specs.Option.{option_map_or}
use Rattle.std.proofs.lemmas.Option.{same_Some}
use Rattle.ipdl_base.specs.declared.kinds.EndState.TheVariants.{Open}
use Rattle.ipdl_base.specs.declared.line.What.TheVariants as what
use Rattle.ipdl_base.specs.declared.message.Body.{Body}
use Rattle.ipdl_base.specs.declared.message.Body.TheVariants.{Request, Reply, Fault, Goodbye}
use Rattle.ipdl_base.specs.declared.message.Message.{Message}
use Rattle.ipdl_base.specs.declared.schema.MessageRow.{MessageRow}
use Rattle.ipdl_base.specs.declared.schema.Schema.{Schema}
use Rattle.ipdl_base.specs.Sound.{message_of}
use Rattle.nesting_core.specs.declared.frame.Answer.{Answer}
use Rattle.nesting_core.specs.declared.frame.Answer.TheVariants as answer
use Rattle.nesting_core.specs.declared.frame.StackFrame.{StackFrame}
use Rattle.nesting_core.specs.declared.frame.StackFrame.TheVariants.{Dispatch, Wait}
use Rattle.nesting_core.specs.Answers.{awaited, with_answer}
use Rattle.pending_queue.specs.declared.item.Item.{Item}
use Rattle.channel_model.specs.Deliveries.{answers_wait, arrives, body_delivered, deliver, item_of, reply_arrives, with_frames}
use Rattle.channel_model.specs.Ends.{End, StackEntry}
use Rattle.channel_model.specs.Ends as model
use Rattle.channel_model.specs.Numbers.{is_sync_row}
use Rattle.channel_model.specs.Outputs.{Output, beginning, body_of, line, line_at, on_end}
use Rattle.end_steps.specs.Arrivals.{reply_answer, HasAnswered, HasReceivedReply}
use Rattle.end_parts.specs.OutputView.{OutputView, with_line}
use Rattle.end_parts.specs.StackDetails.{frames_in}
use Rattle.end_parts.proofs.WaitLemmas.{with_same_frames}
use Rattle.channel_core.specs.Inside.{IsInside}
use Rattle.channel_core.specs.Room.{own_lines, room, wait_lines, waits_in}
use Rattle.channel_core.specs.EndView.{EndView}
use Rattle.channel_core.specs.Tracks.{Tracks}
use Rattle.channel_core.proofs.ArrivalLemmas.{Delivers, delivery_steps, tracks_roomy}
use Rattle.channel_core.proofs.TrackLemmas.{tracks_end, tracks_line, tracks_room}

-- the body of a reply, by its answer
pub body_given : (body : Body) (a : Answer) → reply_answer body ≡ Some a → body ≡ body_of a
body_given (Request vs) a e = cc
body_given (Reply vs) a e = ap body_of (same_Some (answer.Ok vs) a e)
body_given (Fault reason) a e = ap body_of (same_Some (answer.Fault reason) a e)
body_given Goodbye a e = cc

-- what a reply does to an end
abbrev replied : MessageRow → Message → Answer → Bool → End → End
replied row m a b e = if b then answers_wait a e else arrives (item_of row m) e

reply-delivered : (schema : Schema) (m : Message) (row : MessageRow) (a : Answer) (b : Bool) (o : Output) → m.body ≡ body_of a → message_of schema m.number ≡ Some row → is_sync_row row ≡ b
    → deliver schema (model.message m) o ≡ on_end (replied row m a b) (line (what.DeliverReply m.seq) o)
reply-delivered schema m row a b o body found sync =
    ap (λ (x : Body). body_delivered schema m x o) body ∙ by a ∙ ap (λ (c : Bool). on_end (replied row m a c) (line (what.DeliverReply m.seq) o)) sync
  where
    by : (given : Answer) → body_delivered schema m (body_of given) o ≡ reply_arrives m given row (line (what.DeliverReply m.seq) o)
    by (answer.Ok vs) = ap (λ (r : Option MessageRow). option_map_or (reply_arrives m (answer.Ok vs)) r (λ (o : Output). o) (line (what.DeliverReply m.seq) o)) found
    by (answer.Fault reason) = ap (λ (r : Option MessageRow). option_map_or (reply_arrives m (answer.Fault reason)) r (λ (o : Output). o) (line (what.DeliverReply m.seq) o)) found

-- The reply to a sync request

-- a wait that gets its answer owes one line less
waits_at : (a : Answer) (frame : StackFrame) (entry : StackEntry) (rest : List StackEntry) (seq : ℤ) → awaited (frame ∷ frames_in rest) ≡ Some seq
    → (awaited (frames_in rest) ≡ Some seq → waits_in (with_frames (with_answer a (frames_in rest)) rest) + 1 ≡ waits_in rest)
    → waits_in (with_frames (with_answer a (frame ∷ frames_in rest)) (entry ∷ rest)) + 1 ≡ wait_lines frame + waits_in rest
waits_at a (Dispatch head) entry rest seq e below = let b = below e in omega (arith, b)
waits_at a (Wait head None) entry rest seq e below = let b : waits_in (with_frames (frames_in rest) rest) ≡ waits_in rest = ap waits_in (with_same_frames rest) in omega (arith, b)
waits_at a (Wait head (Some earlier)) entry rest seq e below = let b = below e in omega (arith, b)

waits_answered : (a : Answer) (stack : List StackEntry) (seq : ℤ) → awaited (frames_in stack) ≡ Some seq → waits_in (with_frames (with_answer a (frames_in stack)) stack) + 1 ≡ waits_in stack
waits_answered a [] seq e = cc
waits_answered a (entry ∷ rest) seq e = waits_at a entry.frame entry rest seq e (waits_answered a rest seq)

-- an open end owes a line
pub room_for_answer : (schema : Schema) (e : End) (out : OutputView) → e.state ≡ Open → IsInside schema e out → 0 < out.line_spare
unfolding room
room_for_answer schema e out opens inside =
    let own : own_lines e.state ≡ 2 = ap own_lines opens in
    omega (arith, inside.owes, inside.spare, own)

pub answer_received : (v : EndView) (out : OutputView) (row : MessageRow) (m : Message) (stack : List StackEntry) (out' : OutputView) → IsInside v.schema v.end out → Tracks v (beginning v.end) out → v.end.state ≡ Open
    → message_of v.schema m.number ≡ Some row → is_sync_row row ≡ true → awaited (frames_in v.end.stack) ≡ Some m.seq → HasAnswered v.end.side m v.end.stack out stack out' → Delivers v (model.message m) (record v.end { stack = stack; outbox = out'.outbox }) out'
unfolding room
answer_received v out row m stack out' inside t opens found sync waited h =
    let e = v.end in
    let o1 : Output = line (what.DeliverReply m.seq) (beginning e) in
    let said : OutputView = with_line out (line_at e.side (what.DeliverReply m.seq)) in
    let t1 : Tracks v o1 out' = tracks_room v o1 said out' (tracks_line v (beginning e) out said (what.DeliverReply m.seq) t refl) (h.said ∙ rw h.said refl) in
    let t2 : Tracks v (on_end (answers_wait h.given) o1) out' = tracks_end v o1 out' (answers_wait h.given) t1 refl in
    let fewer : waits_in stack + 1 ≡ waits_in e.stack = ap (λ (s : List StackEntry). waits_in s + 1) h.answered ∙ waits_answered h.given e.stack m.seq waited in
    let owed : out'.lines_owed ≡ out.lines_owed - 1 = ap (λ (g : OutputView). g.lines_owed) h.said in
    let spare : out'.line_spare ≡ out.line_spare - 1 = ap (λ (g : OutputView). g.line_spare) h.said in
    let frames : length out'.frames ≡ length out.frames = ap (λ (g : OutputView). length g.frames) h.said in
    let packet_spare : out'.packet_spare ≡ out.packet_spare = ap (λ (g : OutputView). g.packet_spare) h.said in
    let outbox : length out'.outbox ≡ length e.outbox = ap length t2.outbox in
    record {
      made = record {
        output = on_end (answers_wait h.given) o1;
        steps = delivery_steps v (model.message m) opens ∙ ap (λ (o : Output). Some o) (reply-delivered v.schema m row h.given true (beginning e) (body_given m.body h.given h.gives) found sync);
        tracks = t2;
        ends = ap (λ (s : List StackEntry). record e { stack = s; outbox = out'.outbox }) h.answered ∙ ap (λ (ms : List Message). record (answers_wait h.given e) { outbox = ms }) t2.outbox;
      };
      has_room = record {
        owes = omega (arith, inside.owes, fewer, owed, outbox);
        spare = omega (arith, inside.spare, owed, spare);
        packets = λ b. let p = inside.packets b in omega (arith, p, frames, packet_spare);
        farewell = λ b. ap (λ (g : OutputView). g.goodbye) h.said ∙ inside.farewell b;
      };
    }

-- Any other reply
pub reply_received : (v : EndView) (out : OutputView) (row : MessageRow) (m : Message) (a : Answer) (items : List Item) (out' : OutputView) → IsInside v.schema v.end out → Tracks v (beginning v.end) out → v.end.state ≡ Open
    → m.body ≡ body_of a → message_of v.schema m.number ≡ Some row → is_sync_row row ≡ false → HasReceivedReply v.end.side row m v.end.arrived out items out' → Delivers v (model.message m) (record v.end { arrived = items; outbox = out'.outbox }) out'
unfolding room
reply_received v out row m a items out' inside t opens body found sync h =
    let e = v.end in
    let o1 : Output = line (what.DeliverReply m.seq) (beginning e) in
    let t1 : Tracks v o1 out' = tracks_line v (beginning e) h.roomy out' (what.DeliverReply m.seq) (tracks_roomy v (beginning e) out h.roomy t h.keeps) h.said in
    let t2 : Tracks v (on_end (arrives (item_of row m)) o1) out' = tracks_end v o1 out' (arrives (item_of row m)) t1 refl in
    let owed : out'.lines_owed ≡ out.lines_owed = ap (λ (g : OutputView). g.lines_owed) h.said ∙ ap (λ (g : OutputView). g.lines_owed) h.keeps.same in
    let spare : out'.line_spare ≡ h.roomy.line_spare - 1 = ap (λ (g : OutputView). g.line_spare) h.said in
    let frames : length out'.frames ≡ length out.frames = ap (λ (g : OutputView). length g.frames) h.said ∙ ap (λ (g : OutputView). length g.frames) h.keeps.same in
    let packet_spare : out'.packet_spare ≡ h.roomy.packet_spare = ap (λ (g : OutputView). g.packet_spare) h.said in
    let outbox : length out'.outbox ≡ length e.outbox = ap length t2.outbox in
    record {
      made = record {
        output = on_end (arrives (item_of row m)) o1;
        steps = delivery_steps v (model.message m) opens ∙ ap (λ (o : Output). Some o) (reply-delivered v.schema m row a false (beginning e) body found sync);
        tracks = t2;
        ends = ap (λ (xs : List Item). record e { arrived = xs; outbox = out'.outbox }) h.arrived ∙ ap (λ (ms : List Message). record (arrives (item_of row m) e) { outbox = ms }) t2.outbox;
      };
      has_room = record {
        owes = omega (arith, inside.owes, owed, outbox);
        spare = omega (arith, h.lines, owed, spare);
        packets = λ b. let p = inside.packets b in omega (arith, p, frames, packet_spare, h.keeps.packets);
        farewell = λ b. ap (λ (g : OutputView). g.goodbye) h.said ∙ ap (λ (g : OutputView). g.goodbye) h.keeps.same ∙ inside.farewell b;
      };
    }
