-- Each part of a step keeps that actors can be built and requests can be sent.
use Rattle.std.proofs.Common.{◌≡◌, ◌==◌, inl, inr, ℕ, ◌+◌, ◌<◌, ◌≤◌, ℤ, pos, Bool, true, false, not, ◌&&◌, ◌||◌, cond, if◌then◌else◌, int_eq, nat_lt, List, [], ◌∷◌, drop, map, Option, Some, None, is_none, is_some, refl, sym, ap, subst, ◌∙◌, arith}
use Rattle.std.specs.List.{AllByRecursion, list_any}
use Rattle.std.specs.Option.{option_map_or}
use Rattle.std.proofs.lemmas.Bool.{eqb-true}
use Rattle.std.proofs.lemmas.Bool.Decides.{Decides-int_eq, Decides-ltb}
use Rattle.std.proofs.lemmas.Option.{same_Some}
use Rattle.actor_tree.specs.declared.actor.Actor.{Actor}
use Rattle.actor_tree.specs.Tree.{lives, actor_of}
use Rattle.ipdl_base.specs.declared.kinds.Level.{Level}
use Rattle.ipdl_base.specs.declared.kinds.Level.TheVariants.{Not}
use Rattle.ipdl_base.specs.declared.kinds.Reason.TheVariants.{ActorDestroyed, ResolverDestroyed}
use Rattle.ipdl_base.specs.declared.kinds.SendRefusal.{SendRefusal}
use Rattle.ipdl_base.specs.declared.kinds.SendRefusal.TheVariants as refusal
use Rattle.ipdl_base.specs.declared.kinds.Side.{Side}
use Rattle.ipdl_base.specs.declared.line.What.{What}
use Rattle.ipdl_base.specs.declared.message.Body.{Body}
use Rattle.ipdl_base.specs.declared.message.Body.TheVariants.{Request, Reply, Fault, Goodbye}
use Rattle.ipdl_base.specs.declared.message.Message.{Message}
use Rattle.ipdl_base.specs.declared.schema.Kind.TheVariants.{Constructor}
use Rattle.ipdl_base.specs.declared.schema.MessageRow.{MessageRow}
use Rattle.ipdl_base.specs.declared.schema.Schema.{Schema}
use Rattle.ipdl_base.specs.declared.value.Values.{Values}
use Rattle.ipdl_base.specs.Sound.{message_of}
use Rattle.value_types.specs.declared.layout.TheConstants.{NEW}
use Rattle.value_types.specs.Sizes.{values_size, made_size, payload_size, body_size, request_size}
use Rattle.nesting_core.specs.declared.frame.Answer.{Answer}
use Rattle.nesting_core.specs.declared.frame.Answer.TheVariants as answer
use Rattle.nesting_core.specs.declared.frame.StackFrame.{StackFrame}
use Rattle.nesting_core.specs.declared.frame.StackFrame.TheVariants.{Dispatch, Wait}
use Rattle.nesting_core.specs.Answers.{with_answer}
use Rattle.nesting_core.specs.Frames.{head_of}
use Rattle.nesting_core.specs.Top.{top_of}
use Rattle.pending_queue.specs.declared.item.Item.{Item}
use Rattle.pending_queue.specs.declared.item.Item.TheVariants as item
use Rattle.pending_queue.specs.Compression.{staying}
use Rattle.pending_queue.specs.DeferralContext.{is_free, without_first}
use Rattle.channel_model.specs.Acts.{goodbye}
use Rattle.channel_model.specs.Answers as answering
use Rattle.channel_model.specs.Deliveries as delivery
use Rattle.channel_model.specs.Ends.{End, Packet, message, mark, StackEntry}
use Rattle.channel_model.specs.Events.{Answering, handled, kept}
use Rattle.ipdl_base.specs.Sides.{other, top_id, sends}
use Rattle.channel_model.specs.Numbers.{protocol_of, is_sync_row, request_row, is_constructor}
use Rattle.channel_model.specs.Outputs.{is_open, AnsweredRequest, request_answered, resolver_answered, reply_to}
use Rattle.channel_model.specs.Parts
use Rattle.channel_model.specs.Parts.{FirstPart, LaterPart, LaterParts, OwnParts, DeliveryPart, after_outbox, reply_packet, reply_packets, end_after, left_end, outbox_after, request_packets, sent_end}
use Rattle.channel_model.specs.Phases.{Phase, manager_of, quiet}
use Rattle.channel_model.specs.Sends as send
use Rattle.channel_model.specs.States.{is_goodbye, is_farewell}
use Rattle.channel_model.specs.Takes as take
use Rattle.channel_model.specs.ValueActors.{ActorValue, actors_in_parts, lives_as, is_dead, has_dead}
use Rattle.channel_model.proofs.Known.{all-append, all-filter}
use Rattle.channel_model.proofs.SendParts.{passed-first, request-number}
use Rattle.channel_model.proofs.Sublists.{all-sublist, without_first-sublist, staying-sublist}
use Rattle.channel_model.proofs.FittingEnds.{all-drop}
use Rattle.channel_model.proofs.Tests.{and-left, and-right}
use Rattle.channel_model.proofs.TypesDecided.{decides_types}
use Rattle.channel_model.specs.Typed.{have_types}
use Rattle.channel_laws.proofs.ListedItems.{all-messages}
use Rattle.channel_laws.proofs.Rows.{request-message}
use Rattle.channel_laws.proofs.Track.{all-found}
use Rattle.wait_report.specs.Sendable.{IsBuildable, constructed, IsSendable, fits}
use Rattle.wait_laws.specs.SendableWorlds.{IsSentBy, BodyIsSendable, MessageIsSendable, PacketIsSendable, BodyArrives, ItemIsSendable, FrameGoes, EntryIsSendable, ActorIsBuildable, IsSendableEnd}
use Rattle.wait_laws.proofs.LeastValues.{MayStand, MayAllStand, values-fit}

-- Refusals

past-stack : (refused : Option SendRefusal) (rest : Option SendRefusal) → (if is_some refused then refused else rest) ≡ None → rest ≡ None
past-stack None rest e = e
past-stack (Some cause) rest e = cc

-- values that are not refused are not too large, and contain no dead actor
not-refused : (large dead : Bool) → send.value_refusal large dead ≡ None → (large ≡ false) × (dead ≡ false)
not-refused true dead e = cc
not-refused false true e = cc
not-refused false false e = (refl, refl)

module _ (schema : Schema) (top : ℕ) (side : Side) where
  -- Actors

  found-buildable : (actors : List Actor) (id : ℤ) (protocol : ℕ) → AllByRecursion (ActorIsBuildable schema top) actors → lives_as actors protocol id ≡ true → IsBuildable schema top protocol
  found-buildable actors id protocol h e = by (actor_of id actors) refl e
    where
      by : (found : Option Actor) → actor_of id actors ≡ found → option_map_or (λ (a : Actor). a.protocol == protocol) found false ≡ true → IsBuildable schema top protocol
      by None is e = cc
      by (Some a) is e = subst (IsBuildable schema top) (eqb-true a.protocol protocol e) (all-found (ActorIsBuildable schema top) (λ (x : Actor). int_eq x.id id) actors a h is)

  none-dead : (actors : List Actor) → AllByRecursion (ActorIsBuildable schema top) actors → (few : List ActorValue) → list_any (λ (a : ActorValue). not (int_eq a.id (pos 0)) && is_dead actors a) few ≡ false → MayAllStand schema top few
  none-dead actors h [] e = tt
  none-dead actors h (a ∷ few) e = by (int_eq a.id (pos 0)) (lives_as actors a.protocol a.id) (list_any (λ (x : ActorValue). not (int_eq x.id (pos 0)) && is_dead actors x) few) refl refl e (none-dead actors h few)
    where
      by : (b c d : Bool) → int_eq a.id (pos 0) ≡ b → lives_as actors a.protocol a.id ≡ c → (not b && not c) || d ≡ false → (d ≡ false → MayAllStand schema top few) → MayStand schema top a × MayAllStand schema top few
      by true c d null alive e rec = (inl ((Decides-int_eq a.id (pos 0)).0 null), rec e)
      by false true d null alive e rec = (inr (found-buildable actors a.id a.protocol h alive), rec e)
      by false false d null alive e rec = cc

  -- Requests that are sent

  record Passed (e : End) (row : MessageRow) (route : ℤ) (vs : Values) : Type 0 where
    carried : row.carried ≡ true
    way : sends side row.direction ≡ true
    typed : have_types schema row.params vs ≡ true
    alive : lives_as e.actors (protocol_of row.number) route ≡ true
    small : send.is_too_large schema (send.request_of e row route vs) ≡ false
    living : has_dead schema e.actors row.params vs ≡ false

  passed : (e : End) (row : MessageRow) (route : ℤ) (vs : Values) (name : Option (List ℕ)) → e.side ≡ side → Parts.IsSent schema e row route vs name → Passed e row route vs
  passed e row route vs name is sent =
      let way : Bool = sends e.side row.direction in
      let typed : Bool = have_types schema row.params vs in
      let named : Bool = is_none name || is_constructor row.kind in
      let after : row.carried && (way && (typed && named)) ≡ true = and-right (send.may_act e) (row.carried && (way && (typed && named))) sent.may in
      let rest : way && (typed && named) ≡ true = and-right row.carried (way && (typed && named)) after in
      let opens = passed-first (is_open e.state) refusal.Closed (if not (lives_as e.actors (protocol_of row.number) route) then Some refusal.DeadActor else (if is_some (send.stack_refusal e row) then send.stack_refusal e row else send.send_value_refusal schema e row route vs)) sent.accepted in
      let alive = passed-first (lives_as e.actors (protocol_of row.number) route) refusal.DeadActor (if is_some (send.stack_refusal e row) then send.stack_refusal e row else send.send_value_refusal schema e row route vs) opens.1 in
      let ok = not-refused (send.is_too_large schema (send.request_of e row route vs)) (has_dead schema e.actors row.params vs) (past-stack (send.stack_refusal e row) (send.send_value_refusal schema e row route vs) alive.1) in
      record {
        carried = and-left row.carried (way && (typed && named)) after;
        way = ap (λ (s : Side). sends s row.direction) (sym is) ∙ and-left way (typed && named) rest;
        typed = and-left typed named (and-right way (typed && named) rest);
        alive = alive.0;
        small = ok.0;
        living = ok.1;
      }

  -- a message that is not too large takes at most the bytes that a frame may have
  no-more : (n m : ℕ) → nat_lt m n ≡ false → n ≤ m
  no-more n m e =
      let short : ¬ (m < n) = λ less. let both : true ≡ false = sym ((Decides-ltb m n).1 less) ∙ e in cc in
      omega (arith, short)

  sendable-sent : (e : End) (row : MessageRow) (route : ℤ) (vs : Values) (name : Option (List ℕ)) → IsSendableEnd schema top side e → Parts.IsSent schema e row route vs name → IsSendable schema top row
  sendable-sent e row route vs name k sent =
      let p = passed e row route vs name k.side_is sent in
      let found : message_of schema row.number ≡ Some row = (request-number schema row.number row sent.found).1 in
      let size : payload_size NEW schema (send.request_of e row route vs) ≡ request_size NEW schema vs row = ap (λ (o : Option MessageRow). body_size NEW schema o (Request vs)) found in
      let few : made_size row.kind + values_size NEW schema row.params vs ≤ 4096 = subst (λ (n : ℕ). n ≤ 4096) size (no-more (payload_size NEW schema (send.request_of e row route vs)) NEW.most_payload p.small) in
      fits (values_size NEW schema row.params vs) found p.carried (found-buildable e.actors route (protocol_of row.number) k.actors p.alive)
      (values-fit schema top row.params vs ((decides_types.values schema row.params vs).0 p.typed) (none-dead e.actors k.actors (actors_in_parts schema row.params vs) p.living)) few

  sent-by : (e : End) (row : MessageRow) (route : ℤ) (vs : Values) (name : Option (List ℕ)) → IsSendableEnd schema top side e → Parts.IsSent schema e row route vs name → IsSentBy schema top side row.number
  sent-by e row route vs name k sent = record { row = row; found = sent.found; sendable = sendable-sent e row route vs name k sent; way = (passed e row route vs name k.side_is sent).way }

  -- Replies and outboxes

  reply-free : (q : AnsweredRequest) (a : Answer) → PacketIsSendable schema top side (reply_packet q a)
  reply-free q (answer.Ok vs) = tt
  reply-free q (answer.Fault reason) = tt

  outbox-free : (e : End) → IsSendableEnd schema top side e → AllByRecursion (PacketIsSendable schema top side) (map message e.outbox)
  outbox-free e k = all-messages (PacketIsSendable schema top side) (MessageIsSendable schema top side) e.outbox (λ m h. h) k.outbox

  following-free : (e : End) (p : Packet) → IsSendableEnd schema top side e → PacketIsSendable schema top side p → AllByRecursion (PacketIsSendable schema top side) (after_outbox e p)
  following-free e p k h = all-append (PacketIsSendable schema top side) (map message e.outbox) (p ∷ []) (outbox-free e k) (h, tt)

  replies-free : (b : Bool) (e : End) (q : AnsweredRequest) (a : Answer) → IsSendableEnd schema top side e → AllByRecursion (PacketIsSendable schema top side) (reply_packets b e q a)
  replies-free true e q a k = following-free e (reply_packet q a) k (reply-free q a)
  replies-free false e q a k = tt

  end-following : (b : Bool) (e : End) → IsSendableEnd schema top side e → IsSendableEnd schema top side (end_after b e)
  end-following true e k = record { side_is = k.side_is; actors = k.actors; entries = k.entries; arrived = k.arrived; outbox = tt }
  end-following false e k = k

  -- Stacks

  released-one : (b : Bool) (x : StackEntry) → EntryIsSendable schema top side x → EntryIsSendable schema top side (cond b (record x { resolves = false }) x)
  released-one true x h = record { row = h.row; found = h.found; sendable = h.sendable; level = h.level; goes = h.goes }
  released-one false x h = h

  released-all : (seq : ℤ) (es : List StackEntry) → AllByRecursion (EntryIsSendable schema top side) es → AllByRecursion (EntryIsSendable schema top side) (answering.released seq es)
  released-all seq [] h = tt
  released-all seq (x ∷ xs) h = (released-one (answering.has_resolver seq x) x h.0, released-all seq xs h.1)

  -- an entry whose frame is another of the same head and kind
  abbrev IsLike : StackFrame → StackFrame → Type 0
  IsLike f g = ((head_of g).level ≡ (head_of f).level) × ((row : MessageRow) → FrameGoes side row f → FrameGoes side row g)

  entry-like : (x : StackEntry) (g : StackFrame) → IsLike x.frame g → EntryIsSendable schema top side x → EntryIsSendable schema top side (record x { frame = g })
  entry-like x g like h = record { row = h.row; found = h.found; sendable = h.sendable; level = like.0 ∙ h.level; goes = like.1 h.row h.goes }

  failed-like : (f : StackFrame) → IsLike f (delivery.failed f)
  failed-like (Dispatch head) = (refl, λ row h. h)
  failed-like (Wait head None) = (refl, λ row h. h)
  failed-like (Wait head (Some a)) = (refl, λ row h. h)

  failed-all : (es : List StackEntry) → AllByRecursion (EntryIsSendable schema top side) es → AllByRecursion (EntryIsSendable schema top side) (map delivery.with_failed_wait es)
  failed-all [] h = tt
  failed-all (x ∷ xs) h = (entry-like x (delivery.failed x.frame) (failed-like x.frame) h.0, failed-all xs h.1)

  same-all : (es : List StackEntry) → AllByRecursion (EntryIsSendable schema top side) es → AllByRecursion (EntryIsSendable schema top side) (delivery.with_frames (map (λ (x : StackEntry). x.frame) es) es)
  same-all [] h = tt
  same-all (x ∷ xs) h = (h.0, same-all xs h.1)

  answered-all : (a : Answer) (es : List StackEntry) → AllByRecursion (EntryIsSendable schema top side) es → AllByRecursion (EntryIsSendable schema top side) (delivery.with_frames (with_answer a (map (λ (x : StackEntry). x.frame) es)) es)
  answered-all a [] h = tt
  answered-all a (x ∷ xs) h = by x.frame refl (answered-all a xs h.1)
    where
      frames : List StackFrame
      frames = map (λ (x : StackEntry). x.frame) xs

      by : (f : StackFrame) → x.frame ≡ f → AllByRecursion (EntryIsSendable schema top side) (delivery.with_frames (with_answer a frames) xs) → AllByRecursion (EntryIsSendable schema top side) (delivery.with_frames (with_answer a (f ∷ frames)) (x ∷ xs))
      by (Dispatch head) is rec = (subst (λ (g : StackFrame). EntryIsSendable schema top side (record x { frame = g })) is h.0, rec)
      by (Wait head None) is rec = (entry-like x (Wait head (Some a)) (subst (λ (g : StackFrame). IsLike g (Wait head (Some a))) (sym is) (refl, λ row k. k)) h.0, same-all xs h.1)
      by (Wait head (Some b)) is rec = (subst (λ (g : StackFrame). EntryIsSendable schema top side (record x { frame = g })) is h.0, rec)

  -- Items

  pub taken-item : (e : End) (x : Item) → IsSendableEnd schema top side e → take.taken_next e ≡ Some x → ItemIsSendable schema top (other side) x
  taken-item e x k next = by (take.takes_in_state e.state && take.takes_under (top_of (send.frames_of e))) next
    where
      by : (b : Bool) → cond b (take.first_free e) None ≡ Some x → ItemIsSendable schema top (other side) x
      by true is = all-found (ItemIsSendable schema top (other side)) (is_free (take.deferral_context_of e)) e.arrived x k.arrived is
      by false is = cc

  taken-request : (e : End) (m : Message) (sync : Bool) (level : Level) (vs : Values) → IsSendableEnd schema top side e → take.taken_next e ≡ Some (item.Message m sync level) → m.body ≡ Request vs → IsSentBy schema top (other side) m.number
  taken-request e m sync level vs k next body = subst (BodyIsSendable schema top (other side) m.number) body (taken-item e (item.Message m sync level) k next).0

  left-all : (e : End) → IsSendableEnd schema top side e → IsSendableEnd schema top side (left_end e)
  left-all e k = record {
    side_is = k.side_is;
    actors = k.actors;
    entries = k.entries;
    arrived = all-sublist (ItemIsSendable schema top (other side)) (without_first (is_free (take.deferral_context_of e)) e.arrived) e.arrived (without_first-sublist (is_free (take.deferral_context_of e)) e.arrived) k.arrived;
    outbox = k.outbox;
  }

  -- an item of a row has the sync and level of the row
  of-row : (m : Message) (row : MessageRow) (body : Body) → message_of schema m.number ≡ Some row → BodyArrives schema m (is_sync_row row) row.level body
  of-row m row (Request vs) found = λ r is. let same : row ≡ r = same_Some row r (sym found ∙ is) in (ap is_sync_row same, ap (λ (x : MessageRow). x.level) same)
  of-row m row (Reply vs) found = tt
  of-row m row (Fault reason) found = tt
  of-row m row Goodbye found = tt

  arriving : (m : Message) (row : MessageRow) → message_of schema m.number ≡ Some row → MessageIsSendable schema top (other side) m → ItemIsSendable schema top (other side) (delivery.item_of row m)
  arriving m row found h = (h, of-row m row m.body found)

  counted-all : (e : End) (row : MessageRow) (m : Message) → message_of schema m.number ≡ Some row → MessageIsSendable schema top (other side) m → IsSendableEnd schema top side e → IsSendableEnd schema top side (delivery.counted row (delivery.item_of row m) e)
  counted-all e row m found new k = record {
    side_is = k.side_is;
    actors = k.actors;
    entries = k.entries;
    arrived = all-append (ItemIsSendable schema top (other side)) (staying row.compress (delivery.item_of row m) e.arrived) (delivery.item_of row m ∷ [])
        (all-sublist (ItemIsSendable schema top (other side)) (staying row.compress (delivery.item_of row m) e.arrived) e.arrived (staying-sublist row.compress (delivery.item_of row m) e.arrived) k.arrived)
        (arriving m row found new, tt);
    outbox = k.outbox;
  }

  farewell-free : (packet : Packet) → is_farewell (Parts.farewell_item packet) ≡ true → ItemIsSendable schema top (other side) (Parts.farewell_item packet)
  farewell-free (message m) is = by m.body is
    where
      by : (body : Body) → is_goodbye body ≡ true → BodyIsSendable schema top (other side) m.number body × BodyArrives schema m false Not body
      by (Request vs) e = cc
      by (Reply vs) e = (tt, tt)
      by (Fault reason) e = (tt, tt)
      by Goodbye e = (tt, tt)
  farewell-free mark is = tt

  without-all : (by : Answering) (e : End) → IsSendableEnd schema top side e → IsSendableEnd schema top side (record (answering.without_resolver by e) { outbox = [] })
  without-all (handled seq) e k = record { side_is = k.side_is; actors = k.actors; entries = released-all seq e.stack k.entries; arrived = k.arrived; outbox = tt }
  without-all (kept name number) e k = record { side_is = k.side_is; actors = k.actors; entries = k.entries; arrived = k.arrived; outbox = tt }

  -- Every part

  -- After a part the end and its packets are sendable, and what it may still build can be built.
  pub record Stays (f : End) (ps : List Packet) (q : Phase) : Type 0 where
    pub keeps : IsSendableEnd schema top side f
    pub packets : AllByRecursion (PacketIsSendable schema top side) ps
    pub fresh : (protocol : ℕ) → q.kind ≡ Constructor protocol → IsBuildable schema top protocol

  none-new : (protocol : ℕ) → quiet.kind ≡ Constructor protocol → IsBuildable schema top protocol
  none-new protocol e = cc

  quiet-stays : (f : End) (ps : List Packet) → IsSendableEnd schema top side f → AllByRecursion (PacketIsSendable schema top side) ps → Stays f ps quiet
  quiet-stays f ps k h = record { keeps = k; packets = h; fresh = none-new }

  answer-free : (q : AnsweredRequest) (vs : Option Values) → PacketIsSendable schema top side (message (reply_to q (answering.answer_body vs)))
  answer-free q None = tt
  answer-free q (Some vs) = tt

  first-stays : {p : Phase} {e f : End} {ws : List What} {ps : List Packet} (part : FirstPart schema e ws ps f p) → IsSendableEnd schema top side e → Stays f ps p
  first-stays {e} (Parts.refuses w is) k = quiet-stays e [] k tt
  first-stays (Parts.renames w is) k = record { keeps = k; packets = tt; fresh = λ protocol e. cc }
  first-stays {e} (Parts.flushes o) k = quiet-stays (record e { outbox = [] }) (map message e.outbox) (record { side_is = k.side_is; actors = k.actors; entries = k.entries; arrived = k.arrived; outbox = tt }) (outbox-free e k)
  first-stays {e} (Parts.sends row route vs name sent) k = record {
    keeps = record { side_is = k.side_is; actors = k.actors; entries = stack-all (is_sync_row row) refl; arrived = k.arrived; outbox = outbox-all row.lazy };
    packets = packets-all row.lazy;
    fresh = λ protocol kind. constructed row (sendable-sent e row route vs name k sent) kind;
  }
    where
      m : Message
      m = send.request_of e row route vs

      one : IsSentBy schema top side row.number
      one = sent-by e row route vs name k sent

      waiting : is_sync_row row ≡ true → EntryIsSendable schema top side (send.wait_for row (send.request_of e row route vs))
      waiting sync = record { row = row; found = sent.found; sendable = sendable-sent e row route vs name k sent; level = refl; goes = ((passed e row route vs name k.side_is sent).way, sync) }

      stack-all : (b : Bool) → is_sync_row row ≡ b → AllByRecursion (EntryIsSendable schema top side) (cond b (send.wait_for row (send.request_of e row route vs) ∷ e.stack) e.stack)
      stack-all true is = (waiting is, k.entries)
      stack-all false is = k.entries

      outbox-all : (lazy : Bool) → AllByRecursion (MessageIsSendable schema top side) (outbox_after lazy (send.request_of e row route vs) e.outbox)
      outbox-all true = all-append (MessageIsSendable schema top side) e.outbox (send.request_of e row route vs ∷ []) k.outbox (one, tt)
      outbox-all false = tt

      packets-all : (lazy : Bool) → AllByRecursion (PacketIsSendable schema top side) (request_packets lazy e (send.request_of e row route vs))
      packets-all true = tt
      packets-all false = following-free e (message (send.request_of e row route vs)) k one
  first-stays {e} (Parts.answers by vs r row found may accepted used) k =
      quiet-stays (record (answering.without_resolver by e) { outbox = [] }) (after_outbox e (message (reply_to (resolver_answered r) (answering.answer_body vs)))) (without-all by e k)
      (following-free e (message (reply_to (resolver_answered r) (answering.answer_body vs))) k (answer-free (resolver_answered r) vs))
  first-stays {e} (Parts.closes o waits) k = record {
    keeps = record { side_is = k.side_is; actors = k.actors; entries = k.entries; arrived = tt; outbox = tt };
    packets = following-free e (message goodbye) k tt;
    fresh = λ protocol e. cc;
  }
  first-stays {e} (Parts.dies o) k = record { keeps = record { side_is = k.side_is; actors = k.actors; entries = tt; arrived = tt; outbox = tt }; packets = following-free e mark k tt; fresh = none-new }
  first-stays {e} (Parts.dies_silent o alive) k = record { keeps = record { side_is = k.side_is; actors = k.actors; entries = tt; arrived = tt; outbox = k.outbox }; packets = tt; fresh = none-new }
  first-stays {e} (Parts.takes m sync level row vs next body found stays) k =
      let one : IsSentBy schema top (other side) m.number = taken-request e m sync level vs k next body in
      let same : one.row ≡ row = same_Some one.row row (sym (request-message schema m.number one.row one.found) ∙ found) in
      let left : IsSendableEnd schema top side (left_end e) = left-all e k in
      let sendable : IsSendable schema top row = subst (IsSendable schema top) same one.sendable in
      let dispatch : EntryIsSendable schema top side (take.dispatch_of row m) = record { row = row; found = subst (λ (x : MessageRow). request_row schema m.number ≡ Some x) same one.found; sendable = sendable; level = refl; goes = subst (λ (x : MessageRow). sends (other side) x.direction ≡ true) same one.way } in
      record {
        keeps = record { side_is = k.side_is; actors = k.actors; entries = (dispatch, k.entries); arrived = left.arrived; outbox = k.outbox };
        packets = tt;
        fresh = λ protocol kind. constructed row sendable kind;
      }
  first-stays {e} (Parts.drops m sync level row vs id replies next body found gone is) k =
      quiet-stays (end_after replies (left_end e)) (reply_packets replies e (request_answered m) (answer.Fault ActorDestroyed)) (end-following replies (left_end e) (left-all e k)) (replies-free replies e (request_answered m) (answer.Fault ActorDestroyed) k)
  first-stays {e} (Parts.drops_unknown m sync level vs next body found) k = quiet-stays (left_end e) [] (left-all e k) tt
  first-stays {e} (Parts.takes_reply m sync level a next body settles) k = quiet-stays (left_end e) [] (left-all e k) tt
  first-stays {e} (Parts.settles m sync level row a next body found is) k =
      let left : IsSendableEnd schema top side (left_end e) = left-all e k in
      record { keeps = record { side_is = left.side_is; actors = left.actors; entries = left.entries; arrived = left.arrived; outbox = left.outbox }; packets = tt; fresh = none-new }
  first-stays {e} (Parts.shuts last next is) k = record { keeps = record { side_is = k.side_is; actors = k.actors; entries = k.entries; arrived = tt; outbox = k.outbox }; packets = tt; fresh = λ protocol e. cc }
  first-stays {e} (Parts.returns entry row vs told lost is t l) k =
      let popped : IsSendableEnd schema top side (record e { stack = drop 1 e.stack }) = record { side_is = k.side_is; actors = k.actors; entries = all-drop (EntryIsSendable schema top side) e.stack k.entries; arrived = k.arrived; outbox = k.outbox } in
      record {
        keeps = end-following lost (end_after told (record e { stack = drop 1 e.stack })) (end-following told (record e { stack = drop 1 e.stack }) popped);
        packets = all-append (PacketIsSendable schema top side) (reply_packets told e _ _) (reply_packets lost (end_after told e) _ _) (replies-free told e _ _ k) (replies-free lost (end_after told e) _ _ (end-following told e k));
        fresh = λ protocol e. cc;
      }
  first-stays {e} (Parts.resumes wait row on_top found) k = quiet-stays (record e { stack = drop 1 e.stack }) [] (record { side_is = k.side_is; actors = k.actors; entries = all-drop (EntryIsSendable schema top side) e.stack k.entries; arrived = k.arrived; outbox = k.outbox }) tt

  later-stays : {p q : Phase} {e f : End} {ws : List What} {ps : List Packet} → LaterPart p e ws ps f q → ((protocol : ℕ) → p.kind ≡ Constructor protocol → IsBuildable schema top protocol) → IsSendableEnd schema top side e → Stays f ps q
  later-stays {e} (Parts.unnames name may silent) n k = record { keeps = record { side_is = k.side_is; actors = k.actors; entries = k.entries; arrived = k.arrived; outbox = k.outbox }; packets = tt; fresh = n }
  later-stays {e} (Parts.lets_go name r may is o) n k = record {
    keeps = record { side_is = k.side_is; actors = k.actors; entries = k.entries; arrived = k.arrived; outbox = tt };
    packets = following-free e (reply_packet (resolver_answered r) (answer.Fault ResolverDestroyed)) k tt;
    fresh = n;
  }
  later-stays {e} (Parts.names more a) n k = record { keeps = record { side_is = k.side_is; actors = k.actors; entries = k.entries; arrived = k.arrived; outbox = k.outbox }; packets = tt; fresh = n }
  later-stays {e} (Parts.releases seq closed) n k = record { keeps = record { side_is = k.side_is; actors = k.actors; entries = released-all seq e.stack k.entries; arrived = k.arrived; outbox = k.outbox }; packets = tt; fresh = n }
  later-stays {e} (Parts.keeps seq name r is goes) n k = record { keeps = record { side_is = k.side_is; actors = k.actors; entries = released-all seq e.stack k.entries; arrived = k.arrived; outbox = k.outbox }; packets = tt; fresh = n }
  later-stays {p} {e} (Parts.builds id protocol rest fresh built) n k = record {
    keeps = record {
      side_is = k.side_is;
      actors = all-append (ActorIsBuildable schema top) e.actors (record { id = id; protocol = protocol; manager = manager_of p.start } ∷ []) k.actors (n protocol built.made, tt);
      entries = k.entries;
      arrived = k.arrived;
      outbox = k.outbox;
    };
    packets = tt;
    fresh = n;
  }
  later-stays {e} (Parts.deletes id cause) n k = record { keeps = record { side_is = k.side_is; actors = all-filter (ActorIsBuildable schema top) (λ a. not (lives a.id (Parts.falling id e))) e.actors k.actors; entries = k.entries; arrived = k.arrived; outbox = k.outbox }; packets = tt; fresh = n }
  later-stays {e} (Parts.falls why cause) n k = record { keeps = record { side_is = k.side_is; actors = all-filter (ActorIsBuildable schema top) (λ a. not (lives a.id (Parts.falling top_id e))) e.actors k.actors; entries = k.entries; arrived = k.arrived; outbox = k.outbox }; packets = tt; fresh = n }

  laters-stay : {p q : Phase} {e f : End} {ws : List What} {ps : List Packet} → LaterParts p e ws ps f q → ((protocol : ℕ) → p.kind ≡ Constructor protocol → IsBuildable schema top protocol) → IsSendableEnd schema top side e → Stays f ps q
  laters-stay Parts.done n k = record { keeps = k; packets = tt; fresh = n }
  laters-stay (Parts.then {ps} {qs} part rest) n k =
      let a = later-stays part n k in
      let b = laters-stay rest a.fresh a.keeps in
      record { keeps = b.keeps; packets = all-append (PacketIsSendable schema top side) ps qs a.packets b.packets; fresh = b.fresh }

  -- an end's own step
  pub own-stays : {q : Phase} {e f : End} {ws : List What} {ps : List Packet} → OwnParts schema e ws ps f q → IsSendableEnd schema top side e → Stays f ps q
  own-stays (Parts.begun {ps} {qs} part rest ended) k =
      let a = first-stays part k in
      let b = laters-stay rest a.fresh a.keeps in
      record { keeps = b.keeps; packets = all-append (PacketIsSendable schema top side) ps qs a.packets b.packets; fresh = b.fresh }

  -- a delivery
  pub delivery-stays : {packet : Packet} {q : Phase} {e f : End} {ws : List What} {ps : List Packet} → DeliveryPart schema packet e ws ps f q → PacketIsSendable schema top (other side) packet → IsSendableEnd schema top side e → Stays f ps q
  delivery-stays {e} (Parts.gets_request m row vs body found none) h k = quiet-stays (delivery.counted row (delivery.item_of row m) e) [] (counted-all e row m found h k) tt
  delivery-stays {e} (Parts.replaces m row vs old sync level replies body found rep is) h k =
      quiet-stays (end_after replies (delivery.counted row (delivery.item_of row m) e)) (reply_packets replies e (request_answered old) (answer.Fault ResolverDestroyed)) (end-following replies (delivery.counted row (delivery.item_of row m) e) (counted-all e row m found h k))
      (replies-free replies e (request_answered old) (answer.Fault ResolverDestroyed) k)
  delivery-stays {e} (Parts.gets_answer m row a body found sync) h k = quiet-stays (delivery.answers_wait a e) [] (record { side_is = k.side_is; actors = k.actors; entries = answered-all a e.stack k.entries; arrived = k.arrived; outbox = k.outbox }) tt
  delivery-stays {e} (Parts.gets_reply m row a body found sync) h k =
      quiet-stays (delivery.arrives (delivery.item_of row m) e) [] (record { side_is = k.side_is; actors = k.actors; entries = k.entries; arrived = all-append (ItemIsSendable schema top (other side)) e.arrived (delivery.item_of row m ∷ []) k.arrived (arriving m row found h, tt); outbox = k.outbox }) tt
  delivery-stays {e} (Parts.drains packet is) h k = record {
    keeps = record { side_is = k.side_is; actors = k.actors; entries = failed-all e.stack k.entries; arrived = all-append (ItemIsSendable schema top (other side)) e.arrived (Parts.farewell_item packet ∷ []) k.arrived (farewell-free packet is, tt); outbox = tt };
    packets = tt;
    fresh = λ protocol e. cc;
  }
  delivery-stays {e} (Parts.passes_by m other found) h k = quiet-stays e [] k tt
