-- A request that arrives.
use Rattle.std.proofs.Common.{◌≡◌, ℕ, suc, ◌+◌, ◌<◌, ◌≤◌, Bool, true, false, cond, List, [], ◌∷◌, length, Option, Some, None, refl, ap, sym, subst, ◌∙◌, arith}
use Rattle.std.specs.List.{AllByRecursion}
use Rattle.std.specs.Option.{option_map_or}
use Rattle.ipdl_base.specs.declared.kinds.EndState.{EndState}
use Rattle.ipdl_base.specs.declared.kinds.EndState.TheVariants.{Open}
use Rattle.ipdl_base.specs.declared.kinds.Reason.TheVariants.{ResolverDestroyed}
use Rattle.ipdl_base.specs.declared.line.What.TheVariants as what
use Rattle.ipdl_base.specs.declared.message.Body.{Body}
use Rattle.ipdl_base.specs.declared.message.Body.TheVariants.{Request, Fault}
use Rattle.ipdl_base.specs.declared.message.Message.{Message}
use Rattle.ipdl_base.specs.declared.schema.MessageRow.{MessageRow}
use Rattle.ipdl_base.specs.declared.schema.Schema.{Schema}
use Rattle.ipdl_base.specs.declared.value.Values.{Values}
use Rattle.ipdl_base.specs.Sound.{IsSound, message_of}
use Rattle.nesting_core.specs.declared.frame.Answer.TheVariants as answer
use Rattle.pending_queue.specs.declared.item.Item.{Item}
use Rattle.pending_queue.specs.declared.item.Item.TheVariants as item
use Rattle.pending_queue.specs.Compression.{replaced}
use Rattle.value_types.specs.Fits.{Fits, IsRequestOf}
use Rattle.channel_model.specs.Deliveries.{body_delivered, counted, deliver, item_of, replacing, request_arrives}
use Rattle.channel_model.specs.Ends.{End}
use Rattle.channel_model.specs.Ends as model
use Rattle.channel_model.specs.Events as event
use Rattle.channel_model.specs.Fitting.{FitsItem, IsFittingDelivery}
use Rattle.channel_model.specs.Numbers.{counting, is_sync_row, makes_promise}
use Rattle.channel_model.specs.Outputs.{Output, AnsweredRequest, answered, beginning, is_open, line, line_at, on_end, put, reply_to, request_answered, when}
use Rattle.channel_model.specs.Steps.{provided, step}
use Rattle.channel_model.proofs.DeliveryParts.{answered-at}
use Rattle.channel_model.proofs.FittingEnds.{replaced-in}
use Rattle.channel_model.proofs.FittingParts.{Alike, alike, replaced-fits}
use Rattle.channel_model.proofs.FittingRequests.{request-of}
use Rattle.end_steps.specs.Arrivals.{HasReceivedRequest, IsReplacedFramed, KeepsRoom, MayAnswerReplaced, replaced_answer, replaced_request, with_outbox_paid, with_replaced}
use Rattle.end_steps.proofs.PlanLemmas.{number-small}
use Rattle.end_parts.specs.OutputView.{OutputView, with_line, with_packet}
use Rattle.channel_core.specs.Inside.{IsInside}
use Rattle.channel_core.specs.Room.{room}
use Rattle.channel_core.specs.EndView.{EndView, HasFrame, frame_packet}
use Rattle.channel_core.specs.Tracks.{Tracks}
use Rattle.channel_core.specs.Steps.{IsStepBy}
use Rattle.channel_core.proofs.MadeLemmas.{Made, HasRoom, seen_as, made_inside, made_step}
use Rattle.channel_core.proofs.TrackLemmas.{tracks_end, tracks_line, tracks_put, tracks_room}

-- The delivery of a packet at an open end is the step
pub delivery_steps : (v : EndView) (packet : model.Packet) → v.end.state ≡ Open → step v.schema v.end (packet ∷ []) event.deliver ≡ Some (deliver v.schema packet (beginning v.end))
delivery_steps v packet opens = ap (λ (s : EndState). provided (is_open s) (deliver v.schema packet) v.end) opens

-- room that is taken is not seen
pub tracks_roomy : (v : EndView) (o : Output) (out out' : OutputView) → Tracks v o out → KeepsRoom out out' → Tracks v o out'
tracks_roomy v o out out' t k = tracks_room v o out out' t (k.same ∙ rw k.same refl)

-- A request that makes way

-- what becomes of an output
pub record Replacing (v : EndView) (o : Output) (out out' : OutputView) (o' : Output) : Type 0 where
  pub tracks : Tracks v o' out'
  pub ends : o'.end ≡ record o.end { outbox = o'.end.outbox }
  pub lines : out.line_spare ≤ out'.line_spare + 2
  pub paid : out'.lines_owed ≤ out.lines_owed
  pub owed : length out'.outbox + out.lines_owed ≤ out'.lines_owed + length out.outbox
  pub packets : length out.frames + 1 + 1 ≤ out.packet_spare → suc (length out'.frames) ≤ out'.packet_spare
  pub farewell : out'.goodbye ≡ out.goodbye

same_output : (v : EndView) (o : Output) (out out' : OutputView) → Tracks v o out → out' ≡ out → Replacing v o out out' o
same_output v o out out' t e =
    subst (λ (g : OutputView). Replacing v o out g o) (sym e) (record { tracks = t; ends = refl; lines = omega arith; paid = omega arith; owed = omega arith; packets = λ h. omega (arith, h); farewell = refl })

-- the reply to it
abbrev fault_to : AnsweredRequest → Message
fault_to q = reply_to q (Fault ResolverDestroyed)

-- what is printed and sent, by whether it is answered
makes_way : (v : EndView) (o : Output) (out out' : OutputView) (q : AnsweredRequest) (b : Bool) → Tracks v o out → is_open o.end.state ≡ true → (b ≡ true → HasFrame v.schema (fault_to q))
    → out' ≡ with_replaced o.end.side (Some q) (cond b (Some (frame_packet v.schema (fault_to q))) None) out → Replacing v o out out' (when b (answered q (answer.Fault ResolverDestroyed)) (line (what.Replaced q.seq) o))
makes_way v o out out' q false t opens framed e =
    let said : OutputView = with_line out (line_at o.end.side (what.Replaced q.seq)) in
    subst (λ (g : OutputView). Replacing v o out g (line (what.Replaced q.seq) o)) (sym e)
    (record { tracks = tracks_line v o out said (what.Replaced q.seq) t refl; ends = refl; lines = omega arith; paid = omega arith; owed = omega arith; packets = λ h. omega (arith, h); farewell = refl })
makes_way v o out out' q true t opens framed e =
    let side = o.end.side in
    let o1 : Output = line (what.Replaced q.seq) o in
    let o2 : Output = line (what.AnswerFault q.seq ResolverDestroyed) o1 in
    let paid : OutputView = with_outbox_paid out in
    let said : OutputView = with_line paid (line_at side (what.Replaced q.seq)) in
    let told : OutputView = with_line said (line_at side (what.AnswerFault q.seq ResolverDestroyed)) in
    let sent : OutputView = with_packet told (frame_packet v.schema (fault_to q)) in
    let t1 : Tracks v o1 said = tracks_line v o paid said (what.Replaced q.seq) (tracks_room v o out paid t refl) refl in
    let t2 : Tracks v o2 told = tracks_line v o1 said told (what.AnswerFault q.seq ResolverDestroyed) t1 refl in
    let t3 : Tracks v (put (model.message (fault_to q)) o2) sent = tracks_put v o2 told sent (model.message (fault_to q)) (framed refl) t2 refl in
    subst (λ (o' : Output). Replacing v o out out' o') (sym (answered-at q (answer.Fault ResolverDestroyed) true o1 opens))
    (subst (λ (g : OutputView). Replacing v o out g (put (model.message (fault_to q)) o2)) (sym e)
    (record { tracks = t3; ends = refl; lines = omega arith; paid = omega arith; owed = omega arith; packets = λ h. omega (arith, h); farewell = refl }))

pub replacing_made : (v : EndView) (o : Output) (out out' : OutputView) (row : MessageRow) (old : Option Item) → Tracks v o out → is_open o.end.state ≡ true → IsReplacedFramed v.schema row (replaced_request old)
    → out' ≡ with_replaced o.end.side (replaced_request old) (replaced_answer v.schema row (replaced_request old)) out → Replacing v o out out' (replacing row old o)
replacing_made v o out out' row None t opens framed e = same_output v o out out' t e
replacing_made v o out out' row (Some item.Broken) t opens framed e = same_output v o out out' t e
replacing_made v o out out' row (Some (item.Message old sync level)) t opens framed e = makes_way v o out out' (request_answered old) (makes_promise row) t opens (λ b. record { frame = framed b; plain = refl }) e

-- A request

-- an end after it
abbrev pub received_end : End → MessageRow → List Item → OutputView → End
received_end e row items out = record e { arrived = items; outbox = out.outbox; delivered = e.delivered + 1; constructors_delivered = counting row.kind e.constructors_delivered }

-- what a delivery comes to, with the room that is left
pub record Delivers (v : EndView) (packet : model.Packet) (e : End) (out : OutputView) : Type 0 where
  pub made : Made v (packet ∷ []) event.deliver e out
  pub has_room : HasRoom v.schema e out

pub delivers_step : (v : EndView) (packet : model.Packet) (e : End) (out : OutputView) → Delivers v packet e out → IsStepBy v (packet ∷ []) event.deliver (seen_as v e out)
delivers_step v packet e out d = made_step v (packet ∷ []) event.deliver e out d.made

pub delivers_inside : (v : EndView) (packet : model.Packet) (e : End) (out out' : OutputView) → Delivers v packet e out' → IsInside v.schema v.end out → e.sent ≤ 268435456 → IsFittingDelivery v.schema v.end (packet ∷ []) event.deliver → IsInside v.schema e out'
delivers_inside v packet e out out' d inside few fits = made_inside v (packet ∷ []) event.deliver e out out' d.made inside few fits d.has_room

request-delivered : (schema : Schema) (m : Message) (row : MessageRow) (vs : Values) (o : Output) → m.body ≡ Request vs → message_of schema m.number ≡ Some row
    → deliver schema (model.message m) o ≡ request_arrives m row (line (what.DeliverRequest m.seq) o)
request-delivered schema m row vs o body found =
    ap (λ (b : Body). body_delivered schema m b o) body ∙ ap (λ (r : Option MessageRow). option_map_or (request_arrives m) r (λ (o : Output). o) (line (what.DeliverRequest m.seq) o)) found

pub request_received : (v : EndView) (out : OutputView) (row : MessageRow) (m : Message) (vs : Values) (items : List Item) (out' : OutputView) → IsInside v.schema v.end out → Tracks v (beginning v.end) out → v.end.state ≡ Open
    → m.body ≡ Request vs → message_of v.schema m.number ≡ Some row → HasReceivedRequest v.schema v.end.side row m v.end.arrived out items out' → Delivers v (model.message m) (received_end v.end row items out') out'
unfolding room
request_received v out row m vs items out' inside t opens body found h =
    let e = v.end in
    let new : Item = item_of row m in
    let old : Option Item = replaced row.compress new e.arrived in
    let o1 : Output = line (what.DeliverRequest m.seq) (beginning e) in
    let o2 : Output = on_end (counted row new) o1 in
    let said : OutputView = with_line h.roomy (line_at e.side (what.DeliverRequest m.seq)) in
    let t1 : Tracks v o1 said = tracks_line v (beginning e) h.roomy said (what.DeliverRequest m.seq) (tracks_roomy v (beginning e) out h.roomy t h.keeps) refl in
    let t2 : Tracks v o2 said = tracks_end v o1 said (counted row new) t1 refl in
    let is_open_now : is_open e.state ≡ true = ap is_open opens in
    let r : Replacing v o2 said out' (replacing row old o2) = replacing_made v o2 said out' row old t2 is_open_now (subst (IsReplacedFramed v.schema row) h.makes_way h.framed)
    (h.said ∙ ap (λ (q : Option AnsweredRequest). with_replaced e.side q (replaced_answer v.schema row q) said) h.makes_way) in
    let same_owed : h.roomy.lines_owed ≡ out.lines_owed = ap (λ (g : OutputView). g.lines_owed) h.keeps.same in
    let same_frames : length h.roomy.frames ≡ length out.frames = ap (λ (g : OutputView). length g.frames) h.keeps.same in
    let same_outbox : length h.roomy.outbox ≡ length e.outbox = ap (λ (g : OutputView). length g.outbox) h.keeps.same ∙ ap length t.outbox in
    record {
      made = record {
        output = replacing row old o2;
        steps = delivery_steps v (model.message m) opens ∙ ap (λ (o : Output). Some o) (request-delivered v.schema m row vs (beginning e) body found);
        tracks = r.tracks;
        ends = ap (λ (xs : List Item). received_end e row xs out') h.arrived ∙ ap (λ (ms : List Message). record (counted row new e) { outbox = ms }) r.tracks.outbox ∙ sym r.ends;
      };
      has_room = record {
        owes = omega (arith, inside.owes, r.owed, same_owed, same_outbox);
        spare = omega (arith, r.paid, r.lines, h.lines, same_owed);
        packets = λ b. r.packets (omega (arith, h.packets, same_frames));
        farewell = λ b. r.farewell ∙ ap (λ (g : OutputView). g.goodbye) h.keeps.same ∙ inside.farewell b;
      };
    }

-- The answer to one that makes way

-- it fits
pub may_answer : (schema : Schema) → IsSound schema → (e : End) (row : MessageRow) (m : Message) (vs : Values) → AllByRecursion (FitsItem schema) e.arrived → Fits schema m → m.body ≡ Request vs → message_of schema m.number ≡ Some row
    → MayAnswerReplaced schema row (replaced_request (replaced row.compress (item_of row m) e.arrived))
may_answer schema sound e row m vs arrived fits body found = by (replaced row.compress (item_of row m) e.arrived) refl
  where
    by : (old : Option Item) → replaced row.compress (item_of row m) e.arrived ≡ old → MayAnswerReplaced schema row (replaced_request old)
    by None is = tt
    by (Some item.Broken) is = tt
    by (Some (item.Message old sync level)) is =
        let in_place = replaced-in (FitsItem schema) row.compress (item_of row m) e.arrived (item.Message old sync level) arrived is in
        let a : Alike schema sound m old = alike schema sound m old (is_sync_row row) sync row.level level in_place.1 in
        let r : IsRequestOf schema row m vs = request-of schema row m vs fits body found in
        λ promise. (subst (λ (n : ℕ). n < 4294967295) (sym a.number) (number-small schema sound row m vs r), replaced-fits schema sound e m old sync level row in_place found promise)
