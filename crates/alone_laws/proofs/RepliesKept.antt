-- Each part of a step keeps what an end keeps of the replies that were delivered to it.
use Rattle.std.proofs.Common.{◌≡◌, ◌≢◌, ◌⊎◌, inl, inr, ℕ, ◌+◌, ℤ, Bool, true, false, ◌&&◌, cond, int_eq, is_some, List, [], ◌∷◌, ◌++◌, drop, map, Option, Some, None, refl, sym, ap, subst, ◌∙◌}
use Rattle.std.specs.List.{AllByRecursion, cons_option}
use Rattle.std.proofs.lemmas.Bool.{false≢true, true≢false}
use Rattle.std.proofs.lemmas.Bool.Decides.{Decides-int_eq}
use Rattle.std.proofs.lemmas.List.{append-nil}
use Rattle.actor_tree.specs.Tree.{lives}
use Rattle.ipdl_base.specs.declared.kinds.EndState.{EndState}
use Rattle.ipdl_base.specs.declared.kinds.Level.{Level}
use Rattle.ipdl_base.specs.declared.kinds.Reason.TheVariants.{ActorDestroyed, ChannelClosed, ResolverDestroyed}
use Rattle.ipdl_base.specs.declared.kinds.Side.{Side}
use Rattle.ipdl_base.specs.declared.line.What.{What}
use Rattle.ipdl_base.specs.declared.message.Body.{Body}
use Rattle.ipdl_base.specs.declared.message.Body.TheVariants.{Request, Reply, Fault, Goodbye}
use Rattle.ipdl_base.specs.declared.message.Message.{Message}
use Rattle.ipdl_base.specs.declared.schema.MessageRow.{MessageRow}
use Rattle.ipdl_base.specs.declared.schema.Schema.{Schema}
use Rattle.ipdl_base.specs.declared.value.Values.{Values}
use Rattle.ipdl_base.specs.Sound.{message_of}
use Rattle.nesting_core.specs.declared.frame.Answer.{Answer}
use Rattle.nesting_core.specs.declared.frame.Answer.TheVariants as answer
use Rattle.nesting_core.specs.Answers.{awaited}
use Rattle.pending_queue.specs.declared.item.Item.{Item}
use Rattle.pending_queue.specs.declared.item.Item.TheVariants as item
use Rattle.pending_queue.specs.Compression.{is_request, replaced, staying}
use Rattle.pending_queue.specs.DeferralContext.{is_free}
use Rattle.promise_table.specs.declared.promise.Outcome.{Outcome}
use Rattle.channel_model.specs.Answers as answering
use Rattle.channel_model.specs.Deliveries as delivery
use Rattle.channel_model.specs.Ends.{End, Packet, message, mark, StackEntry, PromiseEntry}
use Rattle.channel_model.specs.Events.{Answering, handled, kept}
use Rattle.ipdl_base.specs.Sides.{top_id}
use Rattle.channel_model.specs.Numbers.{is_sync_row, makes_promise}
use Rattle.channel_model.specs.Outputs.{body_of}
use Rattle.channel_model.specs.Parts as parts
use Rattle.channel_model.specs.Parts.{FirstPart, LaterPart, LaterParts, OwnParts, DeliveryPart, IsNoMessage, end_after, farewell_item, left_end, reply_outcome}
use Rattle.channel_model.specs.Phases.{Phase}
use Rattle.channel_model.specs.Requests.{IsSeqOf}
use Rattle.channel_model.specs.Sends as send
use Rattle.channel_model.specs.States.{is_farewell, is_goodbye}
use Rattle.channel_model.specs.Takes as take
use Rattle.channel_model.proofs.Known.{all-append, all-map}
use Rattle.channel_model.proofs.Sublists.{all-sublist, staying-sublist, without_first-sublist}
use Rattle.history_reading.specs.Numbers.{has}
use Rattle.channel_laws.specs.Notes.{Note, In, here, there}
use Rattle.channel_laws.specs.Origins.{BodyOrigin, ItemOrigin, HasOrigins, HasRow, IsRequested}
use Rattle.channel_laws.proofs.ArrivalParts.{taken-first, staying-all}
use Rattle.channel_laws.proofs.Leaving.{TakenFrom}
use Rattle.channel_laws.proofs.Origins.{taken-origin}
use Rattle.channel_laws.proofs.Replacing.{replaced-taken, none-replaced, alike-request, is_request_item}
use Rattle.alone_laws.specs.KeptReplies.{item_answer, answers_in, PendingAreThere, BodyIsKnown, PacketIsKnown, ItemIsKnown, wait_number, WaitsReceive, FrameReceives, KeepsReplies}
use Rattle.alone_laws.specs.Received.{answer_in, answer_to, answers_to}
use Rattle.alone_laws.proofs.ReplyLists.{answer-of, answer-apart, answer-same, answers-none, answers-last, answers-other, items-last, items-taken, none-yet, none-arrived, packets-more, items-more, awaited-last, awaited-rejected, awaited-settled}
use Rattle.alone_laws.proofs.WaitLists.{waits-none, waits-failed, waits-dropped, waits-handled, waits-released, waits-ended, waits-more, waits-answered, waits-sent, waits-called, AreRequested, all-requested-more, requested-dropped, requested-released, requested-failed, requested-answered}

-- Ends that differ only in what does not affect replies

following-same : (b : Bool) (e : End) (packets : List Packet) (failed : List ℤ) (sent : List Note) → KeepsReplies e packets failed sent → KeepsReplies (end_after b e) packets failed sent
following-same true e packets failed sent k = record { pending = k.pending; known = k.known; arrived = k.arrived; waits = k.waits; requested = k.requested }
following-same false e packets failed sent k = k

without-same : (by : Answering) (e : End) (packets : List Packet) (failed : List ℤ) (sent : List Note) → KeepsReplies e packets failed sent → KeepsReplies (record (answering.without_resolver by e) { outbox = [] }) packets failed sent
without-same (handled seq) e packets failed sent k = record { pending = k.pending; known = k.known; arrived = k.arrived; waits = waits-released e.side e.sent packets failed seq e.stack k.waits; requested = requested-released sent seq e.stack k.requested }
without-same (kept name number) e packets failed sent k = record { pending = k.pending; known = k.known; arrived = k.arrived; waits = k.waits; requested = k.requested }

-- nothing has arrived, and nothing more is taken
emptied : (e f : End) (packets : List Packet) (failed : List ℤ) (sent : List Note) → f.side ≡ e.side → f.sent ≡ e.sent → f.arrived ≡ [] → take.takes_in_state f.state ≡ false → WaitsReceive f.side f.sent packets failed f.stack → AreRequested sent f.stack → KeepsReplies e packets failed sent → KeepsReplies f packets failed sent
emptied e f packets failed sent side count none closed waits requested k = record {
  pending = λ n awaited takes. absurd (true≢false (sym takes ∙ closed));
  known = subst (λ (s : Side). AllByRecursion (PacketIsKnown s f.sent) packets) (sym side) (subst (λ (c : ℕ). AllByRecursion (PacketIsKnown e.side c) packets) (sym count) k.known);
  arrived = subst (AllByRecursion (ItemIsKnown f.side f.sent)) (sym none) tt;
  waits = waits;
  requested = requested;
}

-- Items

request-none : (n : ℤ) (m : Message) (sync : Bool) (level : Level) (vs : Values) → m.body ≡ Request vs → item_answer n (item.Message m sync level) ≡ None
request-none n m sync level vs body = answers-none n m (ap answer_in body)

is-request-none : (n : ℤ) (x : Item) → is_request_item x ≡ true → item_answer n x ≡ None
is-request-none n (item.Message m sync level) is = answers-none n m (by m.body is)
  where
    by : (b : Body) → is_request b ≡ true → answer_in b ≡ None
    by (Request vs) is = refl
    by (Reply vs) is = cc
    by (Fault why) is = cc
    by Goodbye is = cc
is-request-none n item.Broken is = cc

farewell-none : (n : ℤ) (packet : Packet) → is_farewell (farewell_item packet) ≡ true → answer_to n packet ≡ None
farewell-none n (message m) is = answers-none n m (by m.body is)
  where
    by : (b : Body) → is_goodbye b ≡ true → answer_in b ≡ None
    by (Request vs) is = cc
    by (Reply vs) is = cc
    by (Fault why) is = cc
    by Goodbye is = refl
farewell-none n mark is = refl

item-farewell : (n : ℤ) (packet : Packet) → item_answer n (farewell_item packet) ≡ answer_to n packet
item-farewell n (message m) = refl
item-farewell n mark = refl

packet-farewell : (side : Side) (count : ℕ) (packet : Packet) → is_farewell (farewell_item packet) ≡ true → PacketIsKnown side count packet × ItemIsKnown side count (farewell_item packet)
packet-farewell side count (message m) is = by m.body is
  where
    by : (b : Body) → is_goodbye b ≡ true → BodyIsKnown side count m.seq b × BodyIsKnown side count m.seq b
    by (Request vs) is = cc
    by (Reply vs) is = cc
    by (Fault why) is = cc
    by Goodbye is = (tt, tt)
packet-farewell side count mark is = (tt, tt)

-- what is left when an item is taken that does not answer a pending request
left-replies : (e : End) (packets : List Packet) (failed : List ℤ) (sent : List Note) (x : Item) → take.taken_next e ≡ Some x → ((n : ℤ) → take.is_awaited n e.promises ≡ true → item_answer n x ≡ None) → KeepsReplies e packets failed sent → KeepsReplies (left_end e) packets failed sent
left-replies e packets failed sent x next none k =
    let t : TakenFrom e.arrived (left_end e).arrived x = (taken-first e x next).taken in
    record {
      pending = λ n awaited takes. items-taken n e.arrived (left_end e).arrived x t (none n awaited) ∙ k.pending n awaited takes;
      known = k.known;
      arrived = all-sublist (ItemIsKnown e.side e.sent) (left_end e).arrived e.arrived (without_first-sublist (is_free (take.deferral_context_of e)) e.arrived) k.arrived;
      waits = k.waits;
      requested = k.requested;
    }

-- a reply of a message that comes too late does not answer a pending request
late-none : (schema : Schema) (theirs : List Note) (e : End) (m : Message) (sync : Bool) (level : Level) (a : Answer) → m.body ≡ body_of a → parts.is_settling schema e m ≡ false → BodyOrigin schema theirs m m.body → (n : ℤ) → take.is_awaited n e.promises ≡ true → item_answer n (item.Message m sync level) ≡ None
late-none schema theirs e m sync level a body late origin n awaited = by (int_eq m.seq n) refl
  where
    has_row : (a : Answer) → BodyOrigin schema theirs m (body_of a) → HasRow schema m.number
    has_row (answer.Ok vs) o = o
    has_row (answer.Fault why) o = o

    row : HasRow schema m.number
    row = has_row a (subst (BodyOrigin schema theirs m) body origin)

    by : (b : Bool) → int_eq m.seq n ≡ b → item_answer n (item.Message m sync level) ≡ None
    by true is =
        let same : m.seq ≡ n = (Decides-int_eq m.seq n).0 is in
        absurd (true≢false (sym (ap (λ (o : Option MessageRow). is_some o && take.is_awaited m.seq e.promises) row.1 ∙ (ap (λ (k : ℤ). take.is_awaited k e.promises) same ∙ awaited)) ∙ late))
    by false is = answer-apart n m (λ same. false≢true (sym is ∙ (Decides-int_eq m.seq n).1 same))

-- Requests that are sent

sent-pending : (e : End) (packets : List Packet) (new : PromiseEntry) → new.promise.seq ≡ send.next_seq e → AllByRecursion (PacketIsKnown e.side e.sent) packets → AllByRecursion (ItemIsKnown e.side e.sent) e.arrived → PendingAreThere e.promises e.state e.arrived packets
    → (b : Bool) → PendingAreThere (cond b (e.promises ++ new ∷ []) e.promises) e.state e.arrived packets
sent-pending e packets new is known arrived k false = k
sent-pending e packets new is known arrived k true = λ n awaited takes.
    elim (awaited-last n e.promises new awaited) [
      | inl before ↦ k n before takes
      | inr same ↦ none-arrived e.side e.sent n e.arrived arrived (sym same ∙ is) ∙ sym (none-yet e.side e.sent n packets known (sym same ∙ is))
    ]

sent-waits : (e : End) (packets : List Packet) (failed : List ℤ) (row : MessageRow) (m : Message) → m.seq ≡ send.next_seq e → AllByRecursion (PacketIsKnown e.side e.sent) packets → WaitsReceive e.side e.sent packets failed e.stack
    → (b : Bool) → WaitsReceive e.side (e.sent + 1) packets failed (cond b (send.wait_for row m ∷ e.stack) e.stack)
sent-waits e packets failed row m is known k true = waits-called e.side e.sent packets failed (send.wait_for row m) e.stack m.seq refl (none-yet e.side e.sent m.seq packets known is) is k
sent-waits e packets failed row m is known k false = waits-sent e.side e.sent packets failed e.stack k

sent-requested : (sent : List Note) (row : MessageRow) (m : Message) (es : List StackEntry) → IsRequested sent m.seq m.route m.number → AreRequested sent es → (b : Bool) → AreRequested sent (cond b (send.wait_for row m ∷ es) es)
sent-requested sent row m es new h true = (new, h)
sent-requested sent row m es new h false = h

sent-replies : (e : End) (packets : List Packet) (failed : List ℤ) (sent : List Note) (row : MessageRow) (m : Message) → m.seq ≡ send.next_seq e → IsRequested sent m.seq m.route m.number → KeepsReplies e packets failed sent → KeepsReplies (parts.sent_end row m e) packets failed sent
sent-replies e packets failed sent row m is new k = record {
  pending = sent-pending e packets (parts.promise_for m) is k.known k.arrived k.pending (makes_promise row);
  known = packets-more e.side e.sent packets k.known;
  arrived = items-more e.side e.sent e.arrived k.arrived;
  waits = sent-waits e packets failed row m is k.known k.waits (is_sync_row row);
  requested = sent-requested sent row m e.stack new k.requested (is_sync_row row);
}

-- Parts of a step of the end's own

module _ (schema : Schema) (theirs : List Note) (packets : List Packet) (failed : List ℤ) (sent : List Note) where
  -- a request that these lines send is noted
  abbrev pub SendIsNoted : List What → Type 0
  SendIsNoted ws = (row : MessageRow) (m : Message) (vs : Values) → ws ≡ send.send_line row m vs ∷ [] → IsRequested sent m.seq m.route m.number

  pub first-replies : {e f : End} {ws : List What} {ps : List Packet} {q : Phase} → FirstPart schema e ws ps f q → HasOrigins schema theirs e → SendIsNoted ws → KeepsReplies e packets failed sent → KeepsReplies f packets failed sent
  first-replies (parts.refuses w is) o t k = k
  first-replies (parts.renames w is) o t k = k
  first-replies (parts.flushes open_end) o t k = record { pending = k.pending; known = k.known; arrived = k.arrived; waits = k.waits; requested = k.requested }
  first-replies {e} (parts.sends row route vs name is_sent) o t k = sent-replies e packets failed sent row (send.request_of e row route vs) refl (t row (send.request_of e row route vs) vs refl) k
  first-replies {e} (parts.answers by vs r row found may ok used) o t k = without-same by e packets failed sent k
  first-replies {e} {f} (parts.closes open_end waits) o t k = emptied e f packets failed sent refl refl refl refl k.waits k.requested k
  first-replies {e} {f} (parts.dies open_end) o t k = emptied e f packets failed sent refl refl refl refl (waits-none e.side e.sent packets failed) tt k
  first-replies {e} {f} (parts.dies_silent closed alive) o t k = emptied e f packets failed sent refl refl refl refl (waits-none e.side e.sent packets failed) tt k
  first-replies {e} (parts.takes m sync level row vs next body found stays) o t k =
      let l : KeepsReplies (left_end e) packets failed sent = left-replies e packets failed sent (item.Message m sync level) next (λ n awaited. request-none n m sync level vs body) k in
      record { pending = l.pending; known = l.known; arrived = l.arrived; waits = waits-handled e.side e.sent packets failed (take.dispatch_of row m) e.stack refl tt l.waits; requested = (tt, l.requested) }
  first-replies {e} (parts.drops m sync level row vs id replies next body found gone is) o t k =
      following-same replies (left_end e) packets failed sent (left-replies e packets failed sent (item.Message m sync level) next (λ n awaited. request-none n m sync level vs body) k)
  first-replies {e} (parts.drops_unknown m sync level vs next body none) o t k = left-replies e packets failed sent (item.Message m sync level) next (λ n awaited. request-none n m sync level vs body) k
  first-replies {e} (parts.takes_reply m sync level a next body late) o t k =
      left-replies e packets failed sent (item.Message m sync level) next (late-none schema theirs e m sync level a body late (taken-origin schema theirs e (item.Message m sync level) o next)) k
  first-replies {e} (parts.settles m sync level row a next body found is) o t k =
      let left : TakenFrom e.arrived (left_end e).arrived (item.Message m sync level) = (taken-first e (item.Message m sync level) next).taken in
      record {
        pending = λ n awaited takes.
            let s = awaited-settled n m.seq (reply_outcome schema e row a) e.promises awaited in
            items-taken n e.arrived (left_end e).arrived (item.Message m sync level) left (answer-apart n m s.1) ∙ k.pending n s.0 takes;
        known = k.known;
        arrived = all-sublist (ItemIsKnown e.side e.sent) (left_end e).arrived e.arrived (without_first-sublist (is_free (take.deferral_context_of e)) e.arrived) k.arrived;
        waits = k.waits;
        requested = k.requested;
      }
  first-replies {e} {f} (parts.shuts last next is) o t k = emptied e f packets failed sent refl refl refl refl k.waits k.requested k
  first-replies {e} (parts.returns entry row vs told lost may y z) o t k =
      following-same lost (end_after told (record e { stack = drop 1 e.stack })) packets failed sent
      (following-same told (record e { stack = drop 1 e.stack }) packets failed sent
      (record { pending = k.pending; known = k.known; arrived = k.arrived; waits = waits-dropped e.side e.sent packets failed e.stack k.waits; requested = requested-dropped sent e.stack k.requested }))
  first-replies {e} (parts.resumes wait row on_top found) o t k = record { pending = k.pending; known = k.known; arrived = k.arrived; waits = waits-dropped e.side e.sent packets failed e.stack k.waits; requested = requested-dropped sent e.stack k.requested }

  pub later-replies : {p q : Phase} {e f : End} {ws : List What} {ps : List Packet} → LaterPart p e ws ps f q → KeepsReplies e packets failed sent → KeepsReplies f packets failed sent
  later-replies (parts.unnames name may silent) k = record { pending = k.pending; known = k.known; arrived = k.arrived; waits = k.waits; requested = k.requested }
  later-replies (parts.lets_go name r may held o) k = record { pending = k.pending; known = k.known; arrived = k.arrived; waits = k.waits; requested = k.requested }
  later-replies (parts.names more holds) k = record { pending = k.pending; known = k.known; arrived = k.arrived; waits = k.waits; requested = k.requested }
  later-replies {e = e} (parts.releases seq closed) k = record { pending = k.pending; known = k.known; arrived = k.arrived; waits = waits-released e.side e.sent packets failed seq e.stack k.waits; requested = requested-released sent seq e.stack k.requested }
  later-replies {e = e} (parts.keeps seq name r is o) k = record { pending = k.pending; known = k.known; arrived = k.arrived; waits = waits-released e.side e.sent packets failed seq e.stack k.waits; requested = requested-released sent seq e.stack k.requested }
  later-replies (parts.builds id protocol rest fresh alive) k = record { pending = k.pending; known = k.known; arrived = k.arrived; waits = k.waits; requested = k.requested }
  later-replies {e = e} (parts.deletes id is) k = record {
    pending = λ n awaited takes. k.pending n (awaited-rejected n (λ p. lives p.actor (parts.falling id e)) ActorDestroyed e.promises awaited) takes;
    known = k.known;
    arrived = k.arrived;
    waits = k.waits;
    requested = k.requested;
  }
  later-replies {e = e} (parts.falls why is) k = record {
    pending = λ n awaited takes.
        k.pending n (awaited-rejected n (λ p. true) ChannelClosed e.promises (awaited-rejected n (λ p. lives p.actor (parts.falling top_id (parts.abandoned_end e))) ActorDestroyed (parts.abandoned_end e).promises awaited)) takes;
    known = k.known;
    arrived = k.arrived;
    waits = k.waits;
    requested = k.requested;
  }

  pub laters-replies : {p q : Phase} {e f : End} {ws : List What} {ps : List Packet} → LaterParts p e ws ps f q → KeepsReplies e packets failed sent → KeepsReplies f packets failed sent
  laters-replies parts.done k = k
  laters-replies (parts.then part rest) k = laters-replies rest (later-replies part k)

-- A delivery

pub more-failed : (e : End) (packets : List Packet) (failed next : List ℤ) (sent : List Note) → ((n : ℤ) → has failed n ≡ true → has next n ≡ true) → KeepsReplies e packets failed sent → KeepsReplies e packets next sent
more-failed e packets failed next sent stays k = record { pending = k.pending; known = k.known; arrived = k.arrived; waits = waits-failed e.side e.sent packets failed next e.stack stays k.waits; requested = k.requested }

pub more-noted : (e : End) (packets : List Packet) (failed : List ℤ) (sent more : List Note) → KeepsReplies e packets failed sent → KeepsReplies e packets failed (sent ++ more)
more-noted e packets failed sent more k = record { pending = k.pending; known = k.known; arrived = k.arrived; waits = k.waits; requested = all-requested-more sent more e.stack k.requested }

-- What is known of a reply that is delivered: a reply to a sync request answers the innermost wait, and any other
-- reply answers neither a wait nor a request that is still to come.
pub record ReplyIsDue (e : End) (m : Message) (row : MessageRow) : Type 0 where
  pub known : IsSeqOf e.side e.sent m.seq
  pub awaits : is_sync_row row ≡ true → awaited (send.frames_of e) ≡ Some m.seq
  pub promised : is_sync_row row ≡ true → (n : ℤ) → take.is_awaited n e.promises ≡ true → m.seq ≢ n
  pub waits : is_sync_row row ≡ false → AllByRecursion (λ entry. (n : ℤ) → wait_number entry.frame ≡ n ∷ [] → m.seq ≢ n) e.stack

abbrev pub PacketIsDue : Schema → End → Packet → Type 0
PacketIsDue schema e mark = Unit {0}
PacketIsDue schema e (message m) = (row : MessageRow) (a : Answer) → m.body ≡ body_of a → message_of schema m.number ≡ Some row → ReplyIsDue e m row

known-reply : (side : Side) (count : ℕ) (m : Message) (a : Answer) → m.body ≡ body_of a → IsSeqOf side count m.seq → BodyIsKnown side count m.seq m.body
known-reply side count m (answer.Ok vs) body known = subst (BodyIsKnown side count m.seq) (sym body) known
known-reply side count m (answer.Fault why) body known = subst (BodyIsKnown side count m.seq) (sym body) known

known-request : (side : Side) (count : ℕ) (m : Message) (vs : Values) → m.body ≡ Request vs → BodyIsKnown side count m.seq m.body
known-request side count m vs body = subst (BodyIsKnown side count m.seq) (sym body) tt

answers-itself : (n : ℤ) (packets : List Packet) (p : Packet) (items : List Item) (x : Item) → item_answer n x ≡ answer_to n p → answers_in n items ≡ answers_to n packets → answers_in n (items ++ x ∷ []) ≡ answers_to n (packets ++ p ∷ [])
answers-itself n packets p items x same before =
    items-last n items x ∙ (ap (λ (xs : List Answer). xs ++ cons_option (item_answer n x) []) before ∙ (ap (λ (o : Option Answer). answers_to n packets ++ cons_option o []) same ∙ sym (answers-last n packets p)))

all-none : (e : End) (p : Packet) → ((n : ℤ) → answer_to n p ≡ None) → AllByRecursion (λ (entry : StackEntry). (n : ℤ) → wait_number entry.frame ≡ n ∷ [] → answer_to n p ≡ None) e.stack
all-none e p none = each e.stack
  where
    each : (es : List StackEntry) → AllByRecursion (λ (entry : StackEntry). (n : ℤ) → wait_number entry.frame ≡ n ∷ [] → answer_to n p ≡ None) es
    each [] = tt
    each (x ∷ es) = ((λ n is. none n), each es)

-- items that stay after a request have the same answers
staying-answers : (n : ℤ) (row : MessageRow) (new : Item) (items : List Item) (old : Option Item) → replaced row.compress new items ≡ old → answers_in n (staying row.compress new items) ≡ answers_in n items
staying-answers n row new items None is = ap (answers_in n) (none-replaced row.compress new items is)
staying-answers n row new items (Some old) is =
    let r = replaced-taken row.compress new items old is in
    items-taken n items (staying row.compress new items) old r.taken (is-request-none n old (alike-request new old r.alike))

counted-replies : (e : End) (packets : List Packet) (failed : List ℤ) (sent : List Note) (row : MessageRow) (m : Message) (vs : Values) → m.body ≡ Request vs → KeepsReplies e packets failed sent → KeepsReplies (delivery.counted row (delivery.item_of row m) e) (packets ++ message m ∷ []) failed sent
counted-replies e packets failed sent row m vs body k =
    let new : Item = delivery.item_of row m in
    let none : (n : ℤ) → answer_to n (message m) ≡ None = λ n. answers-none n m (ap answer_in body) in
    record {
      pending = λ n awaited takes.
          answers-itself n packets (message m) (staying row.compress new e.arrived) new refl (staying-answers n row new e.arrived (replaced row.compress new e.arrived) refl ∙ k.pending n awaited takes);
      known = all-append (PacketIsKnown e.side e.sent) packets (message m ∷ []) k.known (known-request e.side e.sent m vs body, tt);
      arrived = all-append (ItemIsKnown e.side e.sent) (staying row.compress new e.arrived) (new ∷ []) (all-sublist (ItemIsKnown e.side e.sent) (staying row.compress new e.arrived) e.arrived (staying-sublist row.compress new e.arrived) k.arrived) (known-request e.side e.sent m vs body, tt);
      waits = waits-more e.side e.sent packets (message m) failed e.stack (all-none e (message m) none) k.waits;
      requested = k.requested;
    }

-- what a delivery keeps, where these calls have failed after it
pub delivery-replies : (schema : Schema) (packets : List Packet) (failed next : List ℤ) (sent : List Note) {packet : Packet} {e f : End} {ws : List What} {ps : List Packet} {q : Phase} → DeliveryPart schema packet e ws ps f q → take.takes_in_state e.state ≡ true
    → ((n : ℤ) → has failed n ≡ true → has next n ≡ true) → ((n : ℤ) → In n (delivery.unanswered e) → is_farewell (farewell_item packet) ≡ true → has next n ≡ true)
    → PacketIsDue schema e packet → ((m : Message) → packet ≡ message m → is_farewell (farewell_item packet) ≡ false → message_of schema m.number ≡ None → ⊥)
    → KeepsReplies e packets failed sent → KeepsReplies f (packets ++ packet ∷ []) next sent
delivery-replies schema packets failed next sent {e = e} (parts.gets_request m row vs body found none) open_end stays fails due known k =
    more-failed (delivery.counted row (delivery.item_of row m) e) (packets ++ message m ∷ []) failed next sent stays (counted-replies e packets failed sent row m vs body k)
delivery-replies schema packets failed next sent {e = e} (parts.replaces m row vs old sync level replies body found is told) open_end stays fails due known k =
    following-same replies (delivery.counted row (delivery.item_of row m) e) (packets ++ message m ∷ []) next sent
    (more-failed (delivery.counted row (delivery.item_of row m) e) (packets ++ message m ∷ []) failed next sent stays (counted-replies e packets failed sent row m vs body k))
delivery-replies schema packets failed next sent {e = e} (parts.gets_answer m row a body found is) open_end stays fails due known k =
    let d : ReplyIsDue e m row = due row a body found in
    more-failed (delivery.answers_wait a e) (packets ++ message m ∷ []) failed next sent stays (record {
      pending = λ n awaited takes. k.pending n awaited takes ∙ sym (answers-other n packets (message m) (answer-apart n m (d.promised is n awaited)));
      known = all-append (PacketIsKnown e.side e.sent) packets (message m ∷ []) k.known (known-reply e.side e.sent m a body d.known, tt);
      arrived = k.arrived;
      waits = waits-answered packets (message m) failed a m.seq (answer-same m.seq m a refl body) (λ n apart. answer-apart n m apart) e.side e.sent e.stack (d.awaits is) k.waits;
      requested = requested-answered sent a e.stack k.requested;
    })
delivery-replies schema packets failed next sent {e = e} (parts.gets_reply m row a body found is) open_end stays fails due known k =
    let d : ReplyIsDue e m row = due row a body found in
    let new : Item = delivery.item_of row m in
    more-failed (delivery.arrives new e) (packets ++ message m ∷ []) failed next sent stays (record {
      pending = λ n awaited takes. answers-itself n packets (message m) e.arrived new refl (k.pending n awaited takes);
      known = all-append (PacketIsKnown e.side e.sent) packets (message m ∷ []) k.known (known-reply e.side e.sent m a body d.known, tt);
      arrived = all-append (ItemIsKnown e.side e.sent) e.arrived (new ∷ []) k.arrived (known-reply e.side e.sent m a body d.known, tt);
      waits = waits-more e.side e.sent packets (message m) failed e.stack
          (all-map (λ (entry : StackEntry). (n : ℤ) → wait_number entry.frame ≡ n ∷ [] → m.seq ≢ n) (λ (entry : StackEntry). (n : ℤ) → wait_number entry.frame ≡ n ∷ [] → answer_to n (message m) ≡ None) e.stack (λ entry h n number. answer-apart n m (h n number)) (d.waits is)) k.waits;
      requested = k.requested;
    })
delivery-replies schema packets failed next sent {packet} {e = e} (parts.drains _ is) open_end stays fails due known k =
    let both = packet-farewell e.side e.sent packet is in
    record {
      pending = λ n awaited takes. answers-itself n packets packet e.arrived (farewell_item packet) (item-farewell n packet) (k.pending n awaited open_end);
      known = all-append (PacketIsKnown e.side e.sent) packets (packet ∷ []) k.known (both.0, tt);
      arrived = all-append (ItemIsKnown e.side e.sent) e.arrived (farewell_item packet ∷ []) k.arrived (both.1, tt);
      waits = waits-ended e.side e.sent (packets ++ packet ∷ []) failed next e.stack stays (λ n i. fails n i is) (waits-more e.side e.sent packets packet failed e.stack (all-none e packet (λ n. farewell-none n packet is)) k.waits);
      requested = requested-failed sent e.stack k.requested;
    }
delivery-replies schema packets failed next sent {e = e} (parts.passes_by m ordinary none) open_end stays fails due known k = absurd (known m refl ordinary none)
