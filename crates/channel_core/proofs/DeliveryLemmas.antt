-- What a delivery answers, and what it may rest on.
use Rattle.std.proofs.Common.{◌≡◌, ℕ, T, inl, inr, ◌+◌, ◌*◌, ◌<◌, ◌≤◌, ℤ, pos, ◌≤ℤ◌, Bool, true, false, ◌&&◌, ◌==◌, cond, List, [], ◌∷◌, ◌++◌, Option, Some, None, IsSome, Result, Ok, Err, OnOk, OnErr, if◌then◌else◌, refl, ap, sym, subst, ◌∙◌, arith}
use Rattle.std.specs.List.{find}
use Rattle.std.specs.Option.{option_map, option_map_or}
use Rattle.std.specs.Ordering.{int_eq}
use Rattle.std.specs.Result.{is_ok}
use Rattle.std.specs.declared.alloc.AllocError.{AllocError}
use Rattle.std.proofs.lemmas.Bool.Decides.{Decides-int_eq, leb_tells}
use Rattle.ipdl_base.specs.declared.kinds.EndState.TheVariants.{Open, Draining}
use Rattle.ipdl_base.specs.declared.kinds.Side.{Side}
use Rattle.ipdl_base.specs.declared.kinds.Side.TheVariants.{Parent, Child}
use Rattle.ipdl_base.specs.declared.line.What.{What}
use Rattle.ipdl_base.specs.declared.message.Body.{Body}
use Rattle.ipdl_base.specs.declared.message.Body.TheVariants.{Request, Reply, Fault, Goodbye}
use Rattle.ipdl_base.specs.declared.message.Message.{Message}
use Rattle.ipdl_base.specs.declared.schema.Kind.{Kind}
use Rattle.ipdl_base.specs.declared.schema.Kind.TheVariants.{Normal, Constructor, Delete}
use Rattle.ipdl_base.specs.declared.schema.MessageRow.{MessageRow}
use Rattle.ipdl_base.specs.declared.value.Values.{Values}
use Rattle.ipdl_base.specs.Plain.{plain_body, plain_message, plain_values}
use Rattle.ipdl_base.specs.Sound.{IsSound}
use Rattle.nesting_core.specs.declared.frame.Answer.{Answer}
use Rattle.nesting_core.specs.declared.frame.StackFrame.{StackFrame}
use Rattle.nesting_core.specs.declared.frame.Head.{Head}
use Rattle.nesting_core.specs.Answers.{awaited}
use Rattle.nesting_core.specs.Frames.{head_of, is_unanswered}
use Rattle.pending_queue.specs.declared.item.Item.{Item}
use Rattle.pending_queue.specs.Compression.{is_request}
use Rattle.value_types.specs.Fits.{IsMadeBy}
use Rattle.value_types.proofs.Boxes.{fits}
use Rattle.channel_model.specs.Ends.{End, StackEntry}
use Rattle.channel_model.specs.Ends as model
use Rattle.channel_model.specs.Events as event
use Rattle.channel_model.specs.Fitting.{IsFittingDelivery}
use Rattle.ipdl_base.specs.Sides.{other}
use Rattle.channel_model.specs.Numbers.{counting, id_of, is_constructor, is_sync_row}
use Rattle.channel_model.specs.Outputs.{beginning}
use Rattle.channel_model.specs.Parts.{farewell_item, farewell_line}
use Rattle.channel_model.specs.Refusals.{expected_id, is_replied_to, packet_refusal}
use Rattle.channel_model.proofs.FittingParts.{waited}
use Rattle.channel_model.proofs.FittingRequests.{request-of}
use Rattle.channel_model.proofs.KnownSteps.{next-id}
use Rattle.channel_model.proofs.Tests.{and-left}
use Rattle.end_parts.specs.declared.packet.Packet.{Packet}
use Rattle.end_steps.specs.Arrivals.{reply_answer, HasAnswered, HasEnded, HasReceivedReply, HasReceivedRequest}
use Rattle.end_parts.specs.OutputView.{OutputView}
use Rattle.end_parts.specs.PacketReading.{carried, faulty, packet_read}
use Rattle.end_parts.specs.StackDetails.{frames_in}
use Rattle.channel_core.specs.declared.answers.DeliverAnswer.{DeliverAnswer}
use Rattle.channel_core.specs.declared.answers.DeliverAnswer.TheVariants as answer
use Rattle.channel_core.specs.Delivered.{answer_to, delivery_answer, refusal_answer, CarriedGives, DeliverGives, IsFarewell, MayArrive, farewell}
use Rattle.channel_core.specs.declared.end.End.TheInside.{Inside}
use Rattle.channel_core.specs.Inside.{IsInside}
use Rattle.channel_core.specs.EndView.{EndView}
use Rattle.channel_core.specs.Steps.{IsStepBy}
use Rattle.channel_core.specs.Tracks.{Tracks}
use Rattle.channel_core.proofs.ArrivalLemmas.{Delivers, delivers_inside, delivers_step, received_end, request_received}
use Rattle.channel_core.proofs.ArrivedReplyLemmas.{answer_received, body_given, reply_received}
use Rattle.channel_core.proofs.EndViews.{end_in, seen_in}
use Rattle.channel_core.proofs.FarewellLemmas.{farewell_received, fits_farewell, is_farewell_packet}
use Rattle.channel_core.proofs.MadeLemmas.{seen_as}
use Rattle.channel_core.proofs.TrackLemmas.{tracks_begin}

-- Answers

-- what a packet gives is what its content gives
pub delivers : (before : EndView) (packet : Packet) (carries : model.Packet) (a : DeliverAnswer) (after : EndView) → packet_read before.schema packet ≡ carried carries → CarriedGives before carries a after → DeliverGives before packet a after
unfolding delivery_answer
delivers before packet carries answer.NoMemory after is h = h
delivers before packet carries answer.Done after is h = (ap (answer_to before) is ∙ ap refusal_answer h.0, record { carries = carries; is_read = is; is_step = h.1 })
delivers before packet carries (answer.Bad offset rule) after is h = (ap (answer_to before) is ∙ h.0, h.1)
delivers before packet carries (answer.Stray seq) after is h = (ap (answer_to before) is ∙ h.0, h.1)
delivers before packet carries (answer.WrongActor id number) after is h = (ap (answer_to before) is ∙ h.0, h.1)

-- a delivery that wants nothing but memory gives its step
pub done_gives : (before after : EndView) (carries : model.Packet) (r : Result (Unit {0}) AllocError) (a : DeliverAnswer) → packet_refusal before.schema before.end carries ≡ None
    → OnOk r (IsStepBy before (carries ∷ []) event.deliver after) → OnErr r (after ≡ before) → a ≡ (if is_ok r then answer.Done else answer.NoMemory) → CarriedGives before carries a after
done_gives before after carries (Ok done) a none steps same is = subst (λ (b : DeliverAnswer). CarriedGives before carries b after) (sym is) (none, steps)
done_gives before after carries (Err fault) a none steps same is = subst (λ (b : DeliverAnswer). CarriedGives before carries b after) (sym is) same

-- bytes that are no packet are refused
pub refuses : (before : EndView) (packet : Packet) (offset rule : ℕ) → packet_read before.schema packet ≡ faulty offset rule → DeliverGives before packet (answer.Bad offset rule) before
unfolding delivery_answer
refuses before packet offset rule is = (ap (answer_to before) is, refl)

-- What may arrive

-- a request has values
pub request_in : (body : Body) → is_request body ≡ true → (vs : Values) × (body ≡ Request vs)
request_in (Request vs) e = (vs, refl)
request_in (Reply vs) e = cc
request_in (Fault reason) e = cc
request_in Goodbye e = cc

pub plain_request : (m : Message) (vs : Values) → m.body ≡ Request vs → (plain_message m).body ≡ Request (plain_values vs)
plain_request m vs is = ap plain_body is

-- the answer of a reply, with its boxes at one place
pub plain_reply_answer : (body : Body) → IsSome (reply_answer body) → (a : Answer) × (reply_answer (plain_body body) ≡ Some a)
plain_reply_answer (Request vs) h = cc
plain_reply_answer (Reply vs) h = (_, refl)
plain_reply_answer (Fault reason) h = (_, refl)
plain_reply_answer Goodbye h = cc

-- what is delivered fits and is not refused
pub fits_delivery : (v : EndView) (row : MessageRow) (m : Message) → MayArrive v row m → IsFittingDelivery v.schema v.end (model.message (plain_message m) ∷ []) event.deliver
fits_delivery v row m may = ((fits v.schema m).1 may.fits, may.accepted)

-- Counts

nat_order : (a b : ℕ) → pos a ≤ℤ pos b → a ≤ b
nat_order a b h = elim (leb_tells a b) [
  | inl k ↦ k.1
  | inr k ↦ absurd (subst T k.0 h.le)
]

few_ids : (side : Side) (k : ℕ) → id_of side k ≤ℤ pos 2147483647 → k ≤ 536870911
few_ids Parent k h = omega (arith, nat_order (4 * k + 2) 2147483647 h)
few_ids Child k h = omega (arith, nat_order (4 * k) 2147483647 h)

made_id : (kind : Kind) (id : ℤ) → IsMadeBy kind id → is_constructor kind ≡ true → id ≤ℤ pos 2147483647
made_id Normal id h e = cc
made_id (Constructor p) id h e = h.1
made_id Delete id h e = cc

-- a count of constructors has room where one more is delivered
pub few_constructors : (v : EndView) (row : MessageRow) (m : Message) → MayArrive v row m → is_request m.body ≡ true → is_constructor row.kind ≡ true → v.end.constructors_delivered < 4294967295
few_constructors v row m may request constructor =
    let r = request_in m.body request in
    let made : m.made ≡ expected_id v.end = next-id v.schema 0 v.end (plain_message m) row (plain_values r.0) (plain_request m r.0 r.1) may.found may.accepted constructor in
    let bound : m.made ≤ℤ pos 2147483647 = made_id row.kind m.made (request-of v.schema row m r.0 may.fits r.1 may.found).made constructor in
    let few : v.end.constructors_delivered + 1 ≤ 536870911 = few_ids (other v.end.side) (v.end.constructors_delivered + 1) (subst (λ (z : ℤ). z ≤ℤ pos 2147483647) made bound) in
    omega arith

-- The wait of a reply

-- whether an entry waits for a reply
abbrev waits_for : Message → StackEntry → Bool
waits_for m entry = is_replied_to m (head_of entry.frame).seq entry.number entry.route

waited_at : (m : Message) (b : Bool) (entry : StackEntry) (there : Option StackEntry) (here : Option StackFrame) → option_map_or (waits_for m) (cond b (Some entry) there) false ≡ true
    → (option_map_or (waits_for m) there false ≡ true → option_map (λ (h : Head). h.seq) (option_map head_of here) ≡ Some m.seq)
    → option_map (λ (h : Head). h.seq) (option_map head_of (cond b (Some entry.frame) here)) ≡ Some m.seq
waited_at m true entry there here e below =
    let seq : ℤ = (head_of entry.frame).seq in
    ap (λ (z : ℤ). Some z) (sym ((Decides-int_eq m.seq seq).0 (and-left (int_eq m.seq seq) ((m.number == entry.number + 1) && int_eq m.route entry.route) e)))
waited_at m false entry there here e below = below e

waited_in : (m : Message) (stack : List StackEntry) → option_map_or (waits_for m) (find (λ (entry : StackEntry). is_unanswered entry.frame) stack) false ≡ true → awaited (frames_in stack) ≡ Some m.seq
waited_in m [] e = cc
waited_in m (entry ∷ rest) e = waited_at m (is_unanswered entry.frame) entry (find (λ (entry : StackEntry). is_unanswered entry.frame) rest) (find is_unanswered (frames_in rest)) e (waited_in m rest)

-- the innermost wait without an answer is that of a reply to a sync request which is not refused
pub is_awaited : (v : EndView) (row : MessageRow) (m : Message) → IsSound v.schema → MayArrive v row m → IsSome (reply_answer m.body) → is_sync_row row ≡ true → awaited (frames_in v.end.stack) ≡ Some m.seq
is_awaited v row m sound may reply sync =
    let a = plain_reply_answer m.body reply in
    waited_in (plain_message m) v.end.stack (waited v.schema sound v.end (plain_message m) row a.0 (body_given (plain_body m.body) a.0 a.1) may.found sync may.accepted)

-- What the code makes of deliveries

-- all that a delivery owes: the end after it is as every end is, and it is the step
pub record Gives (a : Inside) (s : EndView) (packet : model.Packet) (e : End) (out : OutputView) : Type 0 where
  pub inside : IsInside a.schema.now e out
  pub steps : IsStepBy s (packet ∷ []) event.deliver (seen_as (seen_in a) e out)

module _ (a : Inside) (s : EndView) (is : seen_in a ≡ s) (inside : IsInside a.schema.now (end_in a) a.out) (opens : s.end.state ≡ Open) where
  is_open_end : (seen_in a).end.state ≡ Open
  is_open_end = subst (λ (x : EndView). x.end.state ≡ Open) (sym is) opens

  from_fields : Tracks (seen_in a) (beginning (end_in a)) a.out
  from_fields = tracks_begin (seen_in a) a.out refl refl refl inside

  gives : (packet : model.Packet) (e : End) (out : OutputView) → e.sent ≤ 268435456 → IsFittingDelivery (seen_in a).schema (seen_in a).end (packet ∷ []) event.deliver → Delivers (seen_in a) packet e out → Gives a s packet e out
  gives packet e out few fits d = record {
    inside = delivers_inside (seen_in a) packet e a.out out d inside few fits;
    steps = subst (λ (x : EndView). IsStepBy x (packet ∷ []) event.deliver (seen_as (seen_in a) e out)) is (delivers_step (seen_in a) packet e out d);
  }

  module _ (row : MessageRow) (m : Message) (may : MayArrive s row m) where
    pub may_here : MayArrive (seen_in a) row m
    may_here = subst (λ (x : EndView). MayArrive x row m) (sym is) may

    pub request_gives : is_request m.body ≡ true → (items : List Item) (out : OutputView) (count : ℕ) → HasReceivedRequest a.schema.now a.side row (plain_message m) (end_in a).arrived a.out items out → count ≡ counting row.kind a.constructors_delivered
        → Gives a s (model.message (plain_message m)) (record (received_end (end_in a) row items out) { constructors_delivered = count }) out
    request_gives request items out count h counts =
        let vs = request_in m.body request in
        let d : Delivers (seen_in a) (model.message (plain_message m)) (received_end (end_in a) row items out) out =
        request_received (seen_in a) a.out row (plain_message m) (plain_values vs.0) items out inside from_fields is_open_end (plain_request m vs.0 vs.1) may_here.found h in
        subst (λ (n : ℕ). Gives a s (model.message (plain_message m)) (record (received_end (end_in a) row items out) { constructors_delivered = n }) out) (sym counts)
        (gives (model.message (plain_message m)) (received_end (end_in a) row items out) out inside.kept.few (fits_delivery (seen_in a) row m may_here) d)

    pub answer_gives : IsSome (reply_answer m.body) → is_sync_row row ≡ true → (stack : List StackEntry) (out : OutputView) → HasAnswered a.side (plain_message m) (end_in a).stack a.out stack out
        → Gives a s (model.message (plain_message m)) (record (end_in a) { stack = stack; outbox = out.outbox }) out
    answer_gives reply sync stack out h =
        gives (model.message (plain_message m)) (record (end_in a) { stack = stack; outbox = out.outbox }) out inside.kept.few (fits_delivery (seen_in a) row m may_here)
        (answer_received (seen_in a) a.out row (plain_message m) stack out inside from_fields is_open_end may_here.found sync (is_awaited (seen_in a) row m inside.sound may_here reply sync) h)

    pub reply_gives : IsSome (reply_answer m.body) → is_sync_row row ≡ false → (items : List Item) (out : OutputView) → HasReceivedReply a.side row (plain_message m) (end_in a).arrived a.out items out
        → Gives a s (model.message (plain_message m)) (record (end_in a) { arrived = items; outbox = out.outbox }) out
    reply_gives reply sync items out h =
        let given = plain_reply_answer m.body reply in
        gives (model.message (plain_message m)) (record (end_in a) { arrived = items; outbox = out.outbox }) out inside.kept.few (fits_delivery (seen_in a) row m may_here)
        (reply_received (seen_in a) a.out row (plain_message m) given.0 items out inside from_fields is_open_end (body_given (plain_body m.body) given.0 given.1) may_here.found sync h)

  pub farewell_gives : (goodbye : Option Message) → IsFarewell s.schema goodbye → (said : What) (arrived : Item) → said ≡ farewell_line (farewell goodbye) → arrived ≡ farewell_item (farewell goodbye)
      → (items : List Item) (stack : List StackEntry) (out : OutputView) → items ≡ (end_in a).arrived ++ arrived ∷ [] → HasEnded a.side said (end_in a).stack a.out stack out
      → Gives a s (farewell goodbye) (record (end_in a) { state = Draining; arrived = items; stack = stack; outbox = out.outbox }) out
  farewell_gives goodbye h said arrived line item items stack out arrives ended =
      let here : IsFarewell a.schema.now goodbye = subst (λ (x : EndView). IsFarewell x.schema goodbye) (sym is) h in
      gives (farewell goodbye) (record (end_in a) { state = Draining; arrived = items; stack = stack; outbox = out.outbox }) out inside.kept.few (fits_farewell (seen_in a) goodbye here)
      (farewell_received (seen_in a) a.out (farewell goodbye) items stack out inside from_fields is_open_end (is_farewell_packet a.schema.now goodbye here) (arrives ∙ ap (λ (x : Item). (end_in a).arrived ++ x ∷ []) item)
      (subst (λ (w : What). HasEnded a.side w (end_in a).stack a.out stack out) line ended))
