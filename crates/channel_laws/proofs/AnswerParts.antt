-- In each part of a step a request is answered at most once.
use Rattle.std.proofs.Common.{◌≡◌, ℕ, ◌+◌, ◌≤◌, ℤ, Bool, true, false, not, ◌&&◌, ◌||◌, cond, if◌then◌else◌, int_eq, List, [], ◌∷◌, ◌++◌, drop, filter, map, Option, Some, None, refl, sym, ap, subst, append_assoc, ◌∙◌, arith}
use Rattle.std.specs.List.{AllByRecursion, flat_map}
use Rattle.std.proofs.lemmas.List.{map-append, append-nil}
use Rattle.std.proofs.lemmas.Option.{same_Some}
use Rattle.actor_tree.specs.declared.actor.Actor.{Actor}
use Rattle.ipdl_base.specs.declared.kinds.Destroy.{Destroy}
use Rattle.ipdl_base.specs.declared.kinds.Level.{Level}
use Rattle.ipdl_base.specs.declared.kinds.Reason.{Reason}
use Rattle.ipdl_base.specs.declared.kinds.Reason.TheVariants.{ActorDestroyed, ChannelClosed, ResolverDestroyed}
use Rattle.ipdl_base.specs.declared.kinds.Side.{Side}
use Rattle.ipdl_base.specs.declared.line.What.{What}
use Rattle.ipdl_base.specs.declared.line.What.TheVariants as what
use Rattle.ipdl_base.specs.declared.message.Body.{Body}
use Rattle.ipdl_base.specs.declared.message.Body.TheVariants.{Request, Reply, Fault, Goodbye}
use Rattle.ipdl_base.specs.declared.message.Message.{Message}
use Rattle.ipdl_base.specs.declared.schema.MessageRow.{MessageRow}
use Rattle.ipdl_base.specs.declared.schema.Schema.{Schema}
use Rattle.ipdl_base.specs.declared.value.Values.{Values}
use Rattle.nesting_core.specs.declared.frame.Answer.{Answer}
use Rattle.nesting_core.specs.declared.frame.Answer.TheVariants as answer
use Rattle.nesting_core.specs.declared.frame.StackFrame.{StackFrame}
use Rattle.nesting_core.specs.declared.frame.StackFrame.TheVariants.{Dispatch, Wait}
use Rattle.nesting_core.specs.Frames.{head_of, is_dispatch}
use Rattle.pending_queue.specs.declared.item.Item.{Item}
use Rattle.pending_queue.specs.declared.item.Item.TheVariants as item
use Rattle.pending_queue.specs.Compression.{replaced, staying}
use Rattle.promise_table.specs.declared.promise.Outcome.{Outcome}
use Rattle.promise_table.specs.declared.promise.Outcome.TheVariants.{Resolved, Rejected}
use Rattle.promise_table.specs.declared.promise.Promise.{Promise}
use Rattle.promise_table.specs.Promises.{is_pending_of}
use Rattle.channel_model.specs.Answers as answering
use Rattle.channel_model.specs.Deliveries as delivery
use Rattle.channel_model.specs.Ends.{End, Packet, message, mark, StackEntry, PromiseEntry, resolver}
use Rattle.channel_model.specs.Events.{Answering, handled, kept}
use Rattle.channel_model.specs.Falls as fall
use Rattle.channel_model.specs.Names.{has_name, held_by_name, is_actor}
use Rattle.ipdl_base.specs.Sides.{other, top_id}
use Rattle.channel_model.specs.Numbers.{is_sync_row, makes_promise}
use Rattle.channel_model.specs.Outputs.{AnsweredRequest, request_answered, resolver_answered, is_open}
use Rattle.channel_model.specs.Parts
use Rattle.channel_model.specs.Parts.{FirstPart, LaterPart, DeliveryPart, IsRefusal, IsRenaming, end_after, reply_lines, fall_lines, falling, farewell_item, farewell_line, shut_line, left_end, reply_outcome}
use Rattle.channel_model.specs.Phases.{Phase}
use Rattle.channel_model.specs.Refusals.{expected_seq}
use Rattle.channel_model.specs.Returns as return
use Rattle.channel_model.specs.Sends as send
use Rattle.channel_model.specs.Takes as take
use Rattle.channel_model.specs.ValueActors.{received}
use Rattle.channel_model.proofs.Known.{all-append}
use Rattle.history_reading.specs.declared.parts.PacketKind.{PacketKind}
use Rattle.history_reading.specs.declared.parts.PacketKind.TheVariants as kind
use Rattle.history_reading.specs.EndReading.{EndReading, is_sync_request}
use Rattle.history_reading.specs.Numbers.{same_packet}
use Rattle.history_reading.specs.Reading as reads
use Rattle.history_reading.specs.Reading.{after_what}
use Rattle.history_reading.specs.SentPacket as told
use Rattle.history_reading.specs.SentPacket.{SentPacket, packet_kind}
use Rattle.channel_laws.specs.AnswersOnce.{owes_answer, names_resolver, answers, AnswersOneWay, IsAnsweredOnce, sent_kinds, AnswersOnce}
use Rattle.channel_laws.specs.Arrivals.{item_kind, IsDue}
use Rattle.channel_laws.specs.Counts.{one_if, how_many, is_packet}
use Rattle.channel_laws.specs.Tested.{after_whats}
use Rattle.channel_laws.proofs.Answering.{drop-fewer, drop-keeps, answered-owed, failed-owed, released-keeps, answered-keeps, failed-keeps, released-fewer, used-owed, filter-fewer, used-named, actors-named, used-held}
use Rattle.channel_laws.proofs.ArrivalParts.{taken-first, request-due, staying-all, request-shown, farewell-other}
use Rattle.channel_laws.proofs.Arriving.{request-kind, reply-kind, leaves-count}
use Rattle.channel_laws.proofs.Counting.{many-append, many-last, next-once, fewer-once}
use Rattle.channel_laws.proofs.EffectLines.{IsEffectLine, AreEffectLines, built, answers_ok, answers_fault, fails, resolved, rejected, fell, reply-effects, fall-effects, closing-effects, fail-effects, settle-effect}
use Rattle.channel_laws.proofs.Leaving.{TakenFrom, taken-before}
use Rattle.channel_laws.proofs.Origins.{promise-async}
use Rattle.channel_laws.proofs.PromiseParts.{message-row}
use Rattle.channel_laws.proofs.Replacing.{replaced-taken, alike-request}

-- Lines

-- the replies that a line sends
abbrev replied_by : What → List PacketKind
replied_by (what.AnswerOk n vs) = kind.Reply n ∷ []
replied_by (what.AnswerFault n reason) = kind.Reply n ∷ []
replied_by _ = []

abbrev replied_by_lines : List What → List PacketKind
replied_by_lines ws = flat_map replied_by ws

sent-last : (own : EndReading) (p : SentPacket) → map packet_kind (own.sent ++ p ∷ []) ≡ sent_kinds own ++ packet_kind p ∷ []
sent-last own p = map-append packet_kind own.sent (p ∷ [])

one-replied : (schema : Schema) (place : ℕ) (w : What) (own : EndReading) → IsEffectLine w → sent_kinds (after_what schema place w own) ≡ sent_kinds own ++ replied_by w
one-replied schema place w own (built id protocol) = sym (append-nil (sent_kinds own))
one-replied schema place w own (answers_ok n vs) = sent-last own (told.said n (told.ok vs))
one-replied schema place w own (answers_fault n reason) = sent-last own (told.said n (told.fault reason))
one-replied schema place w own (fails n) = sym (append-nil (sent_kinds own))
one-replied schema place w own (resolved n vs) = sym (append-nil (sent_kinds own))
one-replied schema place w own (rejected n reason) = sym (append-nil (sent_kinds own))
one-replied schema place w own (fell id why) = sym (append-nil (sent_kinds own))

lines-replied : (schema : Schema) (place : ℕ) (ws : List What) (own : EndReading) → AreEffectLines ws → sent_kinds (after_whats schema place ws own) ≡ sent_kinds own ++ replied_by_lines ws
lines-replied schema place [] own effects = sym (append-nil (sent_kinds own))
lines-replied schema place (w ∷ ws) own effects =
    lines-replied schema (place + 1) ws (after_what schema place w own) effects.1
    ∙ (ap (λ (ks : List PacketKind). ks ++ replied_by_lines ws) (one-replied schema place w own effects.0) ∙ append_assoc (sent_kinds own) (replied_by w) (replied_by_lines ws))

replied-append : (xs ys : List What) → replied_by_lines (xs ++ ys) ≡ replied_by_lines xs ++ replied_by_lines ys
replied-append [] ys = refl
replied-append (x ∷ xs) ys = ap (λ (l : List PacketKind). replied_by x ++ l) (replied-append xs ys) ∙ sym (append_assoc (replied_by x) (replied_by_lines xs) (replied_by_lines ys))

-- the kinds of an answer, if there is one
abbrev reply_kinds : Bool → ℤ → List PacketKind
reply_kinds b n = cond b (kind.Reply n ∷ []) []

replies-replied : (b : Bool) (q : AnsweredRequest) (a : Answer) → replied_by_lines (reply_lines b q a) ≡ reply_kinds b q.seq
replies-replied true q (answer.Ok vs) = refl
replies-replied true q (answer.Fault reason) = refl
replies-replied false q a = refl

-- lines that answer nothing
mapped-replied : {A : Type 0} (f : A → What) (xs : List A) → ((x : A) → replied_by (f x) ≡ []) → replied_by_lines (map f xs) ≡ []
mapped-replied f [] h = refl
mapped-replied f (x ∷ xs) h = ap (λ (l : List PacketKind). l ++ replied_by_lines (map f xs)) (h x) ∙ mapped-replied f xs h

rejections-replied : (test : Promise → Bool) (why : Reason) (promises : List PromiseEntry) → replied_by_lines (fall.rejections test why promises) ≡ []
rejections-replied test why promises = mapped-replied (λ (entry : PromiseEntry). what.Rejected entry.promise.seq why) (filter (fall.passes test) promises) (λ entry. refl)

falls-replied : (why : ℤ → Destroy) (promises : List PromiseEntry) (fs : List Actor) → replied_by_lines (flat_map (fall.fall_lines why promises) fs) ≡ []
falls-replied why promises [] = refl
falls-replied why promises (a ∷ fs) =
    replied-append (fall.fall_lines why promises a) (flat_map (fall.fall_lines why promises) fs)
    ∙ (ap (λ (l : List PacketKind). l ++ replied_by_lines (flat_map (fall.fall_lines why promises) fs)) (replied-append (fall.rejections (is_pending_of a.id) ActorDestroyed promises) (what.Fall a.id (why a.id) ∷ []) ∙ ap (λ (l : List PacketKind). l ++ []) (rejections-replied (is_pending_of a.id) ActorDestroyed promises))
    ∙ falls-replied why promises fs)

settle-replied : (n : ℤ) (outcome : Outcome) → replied_by_lines (take.settle_line n outcome ∷ []) ≡ []
settle-replied n (Resolved vs) = refl
settle-replied n (Rejected reason) = refl

-- the number of replies to the request of a number
abbrev replied : ℤ → List PacketKind → ℕ
replied n ks = how_many (is_packet (kind.Reply n)) ks

-- the number of requests among what has arrived
abbrev waiting : ℤ → List Item → ℕ
waiting n items = how_many (is_packet (kind.Request n)) (map item_kind items)

-- What sends no reply

abbrev NoReply : PacketKind → Type 0
NoReply p = (n : ℤ) → same_packet p (kind.Reply n) ≡ false

same-replied : (ks : List PacketKind) (p : PacketKind) → NoReply p → (n : ℤ) → replied n (ks ++ p ∷ []) ≤ replied n ks
same-replied ks p none n = let m = many-last (is_packet (kind.Reply n)) ks p in let z : one_if (same_packet p (kind.Reply n)) ≡ 0 = ap one_if (none n) in omega arith

-- The same requests or fewer

module _ (schema : Schema) where
  -- an end that may answer no more requests than another
  fewer : (e f : End) (ks more : List PacketKind) → IsAnsweredOnce schema e.side e.arrived e.stack e.names e.delivered ks → f.side ≡ e.side → f.delivered ≡ e.delivered → AllByRecursion (AnswersOneWay schema) f.stack
      → ((n : ℤ) → answers f.arrived f.stack f.names more n ≤ answers e.arrived e.stack e.names ks n) → IsAnsweredOnce schema f.side f.arrived f.stack f.names f.delivered more
  fewer e f ks more h side count entries less =
      subst (λ (s : Side). IsAnsweredOnce schema s f.arrived f.stack f.names f.delivered more) (sym side)
      (subst (λ (c : ℕ). IsAnsweredOnce schema e.side f.arrived f.stack f.names c more) (sym count)
      (record { numbered = fewer-once (other e.side) e.delivered (answers e.arrived e.stack e.names ks) (answers f.arrived f.stack f.names more) h.numbered less; entries = entries }))

  read-kept : (e : End) (own next : EndReading) → sent_kinds next ≡ sent_kinds own → AnswersOnce schema e own → AnswersOnce schema e next
  read-kept e own next same h = subst (IsAnsweredOnce schema e.side e.arrived e.stack e.names e.delivered) (sym same) h

  following-kept : (b : Bool) (e : End) (ks : List PacketKind) → IsAnsweredOnce schema e.side e.arrived e.stack e.names e.delivered ks → IsAnsweredOnce schema (end_after b e).side (end_after b e).arrived (end_after b e).stack (end_after b e).names (end_after b e).delivered ks
  following-kept true e ks h = h
  following-kept false e ks h = h

  -- effects that answer nothing leave the answers
  effects-kept : (place : ℕ) (ws : List What) (e : End) (own : EndReading) → AreEffectLines ws → replied_by_lines ws ≡ [] → AnswersOnce schema e own → AnswersOnce schema e (after_whats schema place ws own)
  effects-kept place ws e own effects none h =
      read-kept e own (after_whats schema place ws own) (lines-replied schema place ws own effects ∙ (ap (λ (ks : List PacketKind). sent_kinds own ++ ks) none ∙ append-nil (sent_kinds own))) h

  -- Events

  refusal-sent : (place : ℕ) (w : What) (own : EndReading) → IsRefusal schema w → sent_kinds (after_what schema place w own) ≡ sent_kinds own
  refusal-sent place (what.RefusedSend cause number) own is = refl
  refusal-sent place (what.RefusedClose cause) own is = refl
  refusal-sent place (what.RefusedResolve cause) own is = refl
  refusal-sent place (what.RefusedReject cause) own is = refl
  refusal-sent place _ own is = absurd is

  renaming-sent : (place : ℕ) (w : What) (own : EndReading) → IsRenaming w → sent_kinds (after_what schema place w own) ≡ sent_kinds own
  renaming-sent place (what.Keep n name) own is = refl
  renaming-sent place (what.Let name id) own is = refl
  renaming-sent place _ own is = absurd is

  request-sent : (place : ℕ) (b : Bool) (m : Message) (vs : Values) (own : EndReading) → sent_kinds (after_what schema place (if b then what.Call m.seq m.transaction m.route m.number vs else what.Send m.seq m.route m.number vs) own) ≡ sent_kinds own ++ kind.Request m.seq ∷ []
  request-sent place true m vs own = map-append packet_kind own.sent (_ ∷ [])
  request-sent place false m vs own = map-append packet_kind own.sent (_ ∷ [])

  answer-sent : (place : ℕ) (n : ℤ) (vs : Option Values) (own : EndReading) → sent_kinds (after_what schema place (answering.answering_line n vs) own) ≡ sent_kinds own ++ kind.Reply n ∷ []
  answer-sent place n None own = sent-last own (told.said n told.rejected)
  answer-sent place n (Some vs) own = sent-last own (told.said n (told.resolved vs))

  dying-sent : (place : ℕ) (own : EndReading) (n : ℤ) → replied n (sent_kinds (after_what schema place what.Die own)) ≤ replied n (sent_kinds own)
  dying-sent place own n = by own.ended
    where
      by : (b : Bool) → replied n (map packet_kind (if b then own.sent else own.sent ++ told.broken ∷ [])) ≤ replied n (sent_kinds own)
      by true = omega arith
      by false = let m = same-replied (sent_kinds own) kind.Broken (λ k. refl) n in let e = ap (replied n) (sent-last own told.broken) in omega arith

  reply-sent : (place : ℕ) (n : ℤ) (own : EndReading) → sent_kinds (after_what schema place (what.DeliverReply n) own) ≡ sent_kinds own
  reply-sent place n own = by (is_sync_request own n)
    where
      by : (b : Bool) → sent_kinds (if b then reads.answering n (reads.delivering (kind.Reply n) own) else reads.arriving (kind.Reply n) own) ≡ sent_kinds own
      by true = refl
      by false = refl

  resume-sent : (place : ℕ) (n : ℤ) (a : Answer) (own : EndReading) → sent_kinds (after_what schema place (return.resume_line n a) own) ≡ sent_kinds own
  resume-sent place n (answer.Ok vs) own = refl
  resume-sent place n (answer.Fault reason) own = refl

  shut-sent : (place : ℕ) (last : Item) (own : EndReading) → sent_kinds (after_what schema place (shut_line last) own) ≡ sent_kinds own
  shut-sent place (item.Message m sync level) own = refl
  shut-sent place item.Broken own = refl

  farewell-sent : (place : ℕ) (packet : Packet) (own : EndReading) → sent_kinds (after_what schema place (farewell_line packet) own) ≡ sent_kinds own
  farewell-sent place (message m) own = refl
  farewell-sent place mark own = refl

  unknown-sent : (place : ℕ) (n : ℤ) (body : Body) (own : EndReading) → sent_kinds (after_what schema place (Parts.unknown_line n body) own) ≡ sent_kinds own
  unknown-sent place n (Request vs) own = refl
  unknown-sent place n (Reply vs) own = reply-sent place n own
  unknown-sent place n (Fault reason) own = reply-sent place n own
  unknown-sent place n Goodbye own = refl

  -- Counts

  replied-more : (n : ℤ) (ks more next : List PacketKind) → next ≡ ks ++ more → replied n next ≡ replied n ks + replied n more
  replied-more n ks more next is = ap (replied n) is ∙ many-append (is_packet (kind.Reply n)) ks more

  replied-kinds : (n m : ℤ) (b : Bool) → replied n (reply_kinds b m) ≡ one_if (b && int_eq m n)
  replied-kinds n m true = omega arith
  replied-kinds n m false = refl

  and-less : (a b : Bool) → one_if (a && b) ≤ one_if b
  and-less true b = omega arith
  and-less false b = omega arith

  return-bools : (o s r same : Bool) → (r ≡ true → s ≡ false) → one_if ((o && s) && same) + one_if ((o && r) && same) ≤ one_if (true && ((r || s) && same))
  return-bools false s r same alone = omega arith
  return-bools true true true same alone = let f : true ≡ false = alone refl in cc
  return-bools true true false true alone = omega arith
  return-bools true true false false alone = omega arith
  return-bools true false true true alone = omega arith
  return-bools true false true false alone = omega arith
  return-bools true false false same alone = omega arith

  -- one request fewer is among what has arrived
  left-waiting : (e : End) (m : Message) (sync : Bool) (level : Level) (vs : Values) → take.taken_next e ≡ Some (item.Message m sync level) → m.body ≡ Request vs → (n : ℤ) → waiting n e.arrived ≡ one_if (int_eq m.seq n) + waiting n (left_end e).arrived
  left-waiting e m sync level vs next body n =
      let x : Item = item.Message m sync level in
      leaves-count (is_packet (kind.Request n)) e.arrived (left_end e).arrived x (taken-first e x next).taken
      ∙ ap (λ (p : PacketKind). one_if (same_packet p (kind.Request n)) + waiting n (left_end e).arrived) (request-kind m.seq vs m.body body)

  left-fewer : (e : End) (x : Item) → take.taken_next e ≡ Some x → (n : ℤ) → waiting n (left_end e).arrived ≤ waiting n e.arrived
  left-fewer e x next n = let c = leaves-count (is_packet (kind.Request n)) e.arrived (left_end e).arrived x (taken-first e x next).taken in omega arith

  -- a dispatch on top
  top-entry : (stack : List StackEntry) (entry : StackEntry) → return.dispatch_on_top stack ≡ Some entry → (below : List StackEntry) × (stack ≡ entry ∷ below) × (is_dispatch entry.frame ≡ true)
  top-entry [] entry e = cc
  top-entry (x ∷ xs) entry e = by x.frame refl e
    where
      by : (f : StackFrame) → x.frame ≡ f → elim f as (λ g. Option StackEntry) [ Dispatch head ↦ Some x | Wait head a ↦ None ] ≡ Some entry → (below : List StackEntry) × (x ∷ xs ≡ entry ∷ below) × (is_dispatch entry.frame ≡ true)
      by (Dispatch head) is e = let same : x ≡ entry = same_Some x entry e in (xs, ap (λ (y : StackEntry). y ∷ xs) same, ap (λ (y : StackEntry). is_dispatch y.frame) (sym same) ∙ ap is_dispatch is)
      by (Wait head a) is e = cc

  wait-entries : (b : Bool) (row : MessageRow) (m : Message) (stack : List StackEntry) → AllByRecursion (AnswersOneWay schema) stack → AllByRecursion (AnswersOneWay schema) (cond b (send.wait_for row m ∷ stack) stack)
  wait-entries true row m stack h = (record { is_sync = λ r dispatch found. cc; resolves = λ is. cc }, h)
  wait-entries false row m stack h = h

  wait-owed : (b : Bool) (row : MessageRow) (m : Message) (stack : List StackEntry) (n : ℤ) → how_many (owes_answer n) (cond b (send.wait_for row m ∷ stack) stack) ≤ how_many (owes_answer n) stack
  wait-owed true row m stack n = omega arith
  wait-owed false row m stack n = omega arith

  -- Parts

  pub first-answers-once : {e f : End} {ws : List What} {ps : List Packet} {q : Phase} (place : ℕ) (own : EndReading) → FirstPart schema e ws ps f q → AnswersOnce schema e own → AnswersOnce schema f (after_whats schema place ws own)
  first-answers-once {e} place own (Parts.refuses w is) h = read-kept e own (after_what schema place w own) (refusal-sent place w own is) h
  first-answers-once {e} place own (Parts.renames w is) h = read-kept e own (after_what schema place w own) (renaming-sent place w own is) h
  first-answers-once place own (Parts.flushes o) h = h
  first-answers-once {e} {f} place own (Parts.sends row route vs name sent) h =
      let m : Message = send.request_of e row route vs in
      let next : EndReading = after_what schema place (send.send_line row m vs) own in
      fewer e f (sent_kinds own) (sent_kinds next) h refl refl (wait-entries (is_sync_row row) row m e.stack h.entries)
      (λ n.
      let w = wait-owed (is_sync_row row) row m e.stack n in
      let k = ap (replied n) (request-sent place (is_sync_row row) m vs own) in
      let s = same-replied (sent_kinds own) (kind.Request m.seq) (λ j. refl) n in
      omega arith)
  first-answers-once {e} place own (Parts.answers by vs r row found may ok used) h = at by used
    where
      next : EndReading
      next = after_what schema place (answering.answering_line r.seq vs) own

      said : (n : ℤ) → replied n (sent_kinds (after_what schema place (answering.answering_line r.seq vs) own)) ≡ replied n (sent_kinds own) + one_if (int_eq r.seq n)
      said n = ap (replied n) (answer-sent place r.seq vs own) ∙ many-last (is_packet (kind.Reply n)) (sent_kinds own) (kind.Reply r.seq)

      at : (by : Answering) → answering.resolver_used e by ≡ Some r → AnswersOnce schema (record (answering.without_resolver by e) { outbox = [] }) (after_what schema place (answering.answering_line r.seq vs) own)
      at (handled seq) used =
          fewer e (record (answering.without_resolver (handled seq) e) { outbox = [] }) (sent_kinds own) (sent_kinds (after_what schema place (answering.answering_line r.seq vs) own)) h refl refl (released-keeps schema seq e.stack h.entries)
          (λ n. let k = said n in let u = used-owed schema n seq r e.stack h.entries used in omega arith)
      at (kept name number) used =
          fewer e (record (answering.without_resolver (kept name number) e) { outbox = [] }) (sent_kinds own) (sent_kinds (after_what schema place (answering.answering_line r.seq vs) own)) h refl refl h.entries
          (λ n. let k = said n in let u = used-named n name r e.names (used-held number r (held_by_name name e.names) used) in omega arith)
  first-answers-once {e} {f} place own (Parts.closes o waits) h =
      fewer e f (sent_kinds own) (sent_kinds (after_what schema place what.Close own)) h refl refl h.entries
      (λ n.
      let k = ap (replied n) (sent-last own told.goodbye) in
      let s = same-replied (sent_kinds own) kind.Goodbye (λ j. refl) n in
      let u = filter-fewer (names_resolver n) is_actor e.names in
      omega arith)
  first-answers-once {e} {f} place own (Parts.dies o) h =
      fewer e f (sent_kinds own) (sent_kinds (after_what schema place what.Die own)) h refl refl tt (λ n. let s = dying-sent place own n in omega arith)
  first-answers-once {e} {f} place own (Parts.dies_silent o alive) h =
      fewer e f (sent_kinds own) (sent_kinds (after_what schema place what.Die own)) h refl refl tt (λ n. let s = dying-sent place own n in omega arith)
  first-answers-once {e} {f} place own (Parts.takes m sync level row vs next body found stays) h =
      fewer e f (sent_kinds own) (sent_kinds own) h refl refl
      (record { is_sync = λ other_row dispatch other_found. ap is_sync_row (same_Some other_row row (sym (message-row schema m.number other_row other_found) ∙ found)); resolves = λ is. promise-async row is }, h.entries)
      (λ n.
      let c = left-waiting e m sync level vs next body n in
      let a = and-less (makes_promise row || is_sync_row row) (int_eq m.seq n) in
      omega arith)
  first-answers-once {e} place own (Parts.drops m sync level row vs id replies next body found gone is) h =
      let ws : List What = reply_lines replies (request_answered m) (answer.Fault ActorDestroyed) in
      let dropped : EndReading = after_what schema place (what.Drop m.seq m.route m.number id) own in
      let after : EndReading = after_whats schema (place + 1) ws dropped in
      following-kept replies (left_end e) (sent_kinds after)
      (fewer e (left_end e) (sent_kinds own) (sent_kinds after) h refl refl h.entries
      (λ n.
      let c = left-waiting e m sync level vs next body n in
      let k = replied-more n (sent_kinds own) (replied_by_lines ws) (sent_kinds after) (lines-replied schema (place + 1) ws dropped (reply-effects replies (request_answered m) (answer.Fault ActorDestroyed))) in
      let r = ap (replied n) (replies-replied replies (request_answered m) (answer.Fault ActorDestroyed)) in
      let b = replied-kinds n m.seq replies in
      let a = and-less replies (int_eq m.seq n) in
      omega arith))
  first-answers-once {e} {f} place own (Parts.drops_unknown m sync level vs next body found) h =
      fewer e f (sent_kinds own) (sent_kinds own) h refl refl h.entries (λ n. let c = left-fewer e (item.Message m sync level) next n in omega arith)
  first-answers-once {e} {f} place own (Parts.takes_reply m sync level a next body late) h =
      fewer e f (sent_kinds own) (sent_kinds own) h refl refl h.entries (λ n. let c = left-fewer e (item.Message m sync level) next n in omega arith)
  first-answers-once {e} {f} place own (Parts.settles m sync level row a next body found awaited) h =
      let outcome : Outcome = reply_outcome schema e row a in
      let taken : EndReading = after_what schema place (what.TakeReply m.seq) own in
      effects-kept (place + 1) (take.settle_line m.seq outcome ∷ []) f taken (settle-effect m.seq outcome, tt) (settle-replied m.seq outcome)
      (fewer e f (sent_kinds own) (sent_kinds own) h refl refl h.entries (λ n. let c = left-fewer e (item.Message m sync level) next n in omega arith))
  first-answers-once {e} {f} place own (Parts.shuts last next is) h =
      fewer e f (sent_kinds own) (sent_kinds (after_what schema place (shut_line last) own)) h refl refl h.entries
      (λ n.
      let k = ap (replied n) (shut-sent place last own) in
      let u = filter-fewer (names_resolver n) is_actor e.names in
      omega arith)
  first-answers-once {e} place own (Parts.returns entry row vs told_it lost may t l) h =
      let q : AnsweredRequest = return.dispatch_answered entry in
      let a : Answer = return.return_answer schema e row entry vs in
      let p : AnsweredRequest = resolver_answered (answering.resolver_in entry) in
      let ls : List What = reply_lines told_it q a in
      let ms : List What = reply_lines lost p (answer.Fault ResolverDestroyed) in
      let popped : End = record e { stack = drop 1 e.stack } in
      let returned : EndReading = after_what schema place (what.Return (head_of entry.frame).seq) own in
      let after : EndReading = after_whats schema (place + 1) (ls ++ ms) returned in
      let top = top-entry e.stack entry may.on_top in
      let ways : AllByRecursion (AnswersOneWay schema) (entry ∷ top.0) = subst (AllByRecursion (AnswersOneWay schema)) top.1 h.entries in
      let is_sync : is_sync_row row ≡ (head_of entry.frame).sync = ways.0.is_sync row top.2 may.found in
      following-kept lost (end_after told_it popped) (sent_kinds after)
      (following-kept told_it popped (sent_kinds after)
      (fewer e popped (sent_kinds own) (sent_kinds after) h refl refl (drop-keeps schema e.stack h.entries)
      (λ n.
      let seq : ℤ = (head_of entry.frame).seq in
      let before = ap (how_many (owes_answer n)) top.1 in
      let below = ap (λ (xs : List StackEntry). how_many (owes_answer n) (drop 1 xs)) top.1 in
      let owes = ap (λ (d : Bool). one_if (d && ((entry.resolves || (head_of entry.frame).sync) && int_eq seq n))) top.2 in
      let k = replied-more n (sent_kinds own) (replied_by_lines (ls ++ ms)) (sent_kinds after) (lines-replied schema (place + 1) (ls ++ ms) returned (all-append IsEffectLine ls ms (reply-effects told_it q a) (reply-effects lost p (answer.Fault ResolverDestroyed)))) in
      let both = replied-more n (replied_by_lines ls) (replied_by_lines ms) (replied_by_lines (ls ++ ms)) (replied-append ls ms) in
      let first = ap (replied n) (replies-replied told_it q a) in
      let second = ap (replied n) (replies-replied lost p (answer.Fault ResolverDestroyed)) in
      let b = replied-kinds n seq told_it ∙ ap (λ (x : Bool). one_if (x && int_eq seq n)) (t ∙ ap (λ (x : Bool). is_open e.state && x) is_sync) in
      let c = replied-kinds n seq lost ∙ ap (λ (x : Bool). one_if (x && int_eq seq n)) l in
      let d = return-bools (is_open e.state) (head_of entry.frame).sync entry.resolves (int_eq seq n) ways.0.resolves in
      omega arith)))
  first-answers-once {e} {f} place own (Parts.resumes wait row on_top found) h =
      fewer e f (sent_kinds own) (sent_kinds (after_what schema place (return.resume_line wait.seq (received schema e.actors row wait.given)) own)) h refl refl (drop-keeps schema e.stack h.entries)
      (λ n.
      let k = ap (replied n) (resume-sent place wait.seq (received schema e.actors row wait.given) own) in
      let d = drop-fewer n e.stack in
      omega arith)

  pub later-answers-once : {p q : Phase} {e f : End} {ws : List What} {ps : List Packet} (place : ℕ) (own : EndReading) → LaterPart p e ws ps f q → AnswersOnce schema e own → AnswersOnce schema f (after_whats schema place ws own)
  later-answers-once {e = e} {f = f} place own (Parts.unnames name may silent) h =
      fewer e f (sent_kinds own) (sent_kinds own) h refl refl h.entries (λ n. let u = filter-fewer (names_resolver n) (λ naming. not (has_name name naming)) e.names in omega arith)
  later-answers-once {e = e} {f = f} place own (Parts.lets_go name r may held o) h =
      fewer e f (sent_kinds own) (sent_kinds (after_what schema place (what.AnswerFault r.seq ResolverDestroyed) own)) h refl refl h.entries
      (λ n.
      let k = ap (replied n) (sent-last own (told.said r.seq (told.fault ResolverDestroyed))) ∙ many-last (is_packet (kind.Reply n)) (sent_kinds own) (kind.Reply r.seq) in
      let u = used-named n name r e.names held in
      omega arith)
  later-answers-once {e = e} {f = f} place own (Parts.names more holds) h =
      fewer e f (sent_kinds own) (sent_kinds own) h refl refl h.entries
      (λ n.
      let c = many-append (names_resolver n) e.names more in
      let z = actors-named n more holds in
      omega arith)
  later-answers-once {e = e} {f = f} place own (Parts.releases seq is) h =
      fewer e f (sent_kinds own) (sent_kinds own) h refl refl (released-keeps schema seq e.stack h.entries) (λ n. let c = released-fewer n seq e.stack in omega arith)
  later-answers-once {e = e} {f = f} place own (Parts.keeps seq name r is o) h =
      fewer e f (sent_kinds own) (sent_kinds own) h refl refl (released-keeps schema seq e.stack h.entries)
      (λ n.
      let c = used-owed schema n seq r e.stack h.entries is in
      let k = many-last (names_resolver n) e.names (record { name = name; holds = resolver r }) in
      omega arith)
  later-answers-once place own (Parts.builds id protocol rest fresh alive) h = h
  later-answers-once {e = e} place own (Parts.deletes id is) h = effects-kept place (fall_lines id (fall.why_deleted id) e) e own (fall-effects id (fall.why_deleted id) e) (falls-replied (fall.why_deleted id) e.promises (falling id e)) h
  later-answers-once {e = e} place own (Parts.falls why is) h =
      let ls : List What = Parts.abandoned_lines e in
      let ms : List What = fall_lines top_id (λ id. why) (Parts.abandoned_end e) in
      effects-kept place (ls ++ ms) e own (closing-effects why e)
      (replied-append ls ms ∙ (ap (λ (ks : List PacketKind). ks ++ replied_by_lines ms) (rejections-replied (λ x. true) ChannelClosed e.promises) ∙ falls-replied (λ id. why) (Parts.abandoned_end e).promises (falling top_id e))) h

  -- one more request has arrived, after those that were there
  one-arrived : (e : End) (m : Message) (row : MessageRow) (vs : Values) (ks : List PacketKind) → m.body ≡ Request vs → m.seq ≡ expected_seq e → IsAnsweredOnce schema e.side e.arrived e.stack e.names e.delivered ks → IsAnsweredOnce schema e.side (e.arrived ++ delivery.item_of row m ∷ []) e.stack e.names (e.delivered + 1) ks
  one-arrived e m row vs ks body is h =
      let new : Item = delivery.item_of row m in
      record {
        numbered = next-once (other e.side) e.delivered (answers e.arrived e.stack e.names ks) (answers (e.arrived ++ new ∷ []) e.stack e.names ks) m.seq h.numbered is
            (λ n.
            let c = ap (how_many (is_packet (kind.Request n))) (map-append item_kind e.arrived (new ∷ [])) ∙ many-last (is_packet (kind.Request n)) (map item_kind e.arrived) (item_kind new) in
            let k = ap (λ (p : PacketKind). one_if (same_packet p (kind.Request n))) (request-kind m.seq vs m.body body) in
            omega arith);
        entries = h.entries;
      }

  other-waiting : (n : ℤ) (items : List Item) (x : Item) → same_packet (item_kind x) (kind.Request n) ≡ false → waiting n (items ++ x ∷ []) ≡ waiting n items
  other-waiting n items x none =
      let c = ap (how_many (is_packet (kind.Request n))) (map-append item_kind items (x ∷ [])) ∙ many-last (is_packet (kind.Request n)) (map item_kind items) (item_kind x) in
      let z : one_if (same_packet (item_kind x) (kind.Request n)) ≡ 0 = ap one_if none in
      omega arith

  pub delivery-answers-once : {packet : Packet} {e f : End} {ws : List What} {ps : List Packet} {q : Phase} (place : ℕ) (own : EndReading) → DeliveryPart schema packet e ws ps f q → IsDue schema e own packet → AnswersOnce schema e own → AnswersOnce schema f (after_whats schema place ws own)
  delivery-answers-once {e = e} place own (Parts.gets_request m row vs body found none) due h =
      let new : Item = delivery.item_of row m in
      subst (λ (items : List Item). IsAnsweredOnce schema e.side (items ++ new ∷ []) e.stack e.names (e.delivered + 1) (sent_kinds own)) (sym (staying-all schema row new e.arrived (replaced row.compress new e.arrived) refl none))
      (one-arrived e m row vs (sent_kinds own) body (request-due schema e own m row vs body found due) h)
  delivery-answers-once {e = e} place own (Parts.replaces m row vs old sync level replies body found is told_it) due h =
      let new : Item = delivery.item_of row m in
      let x : Item = item.Message old sync level in
      let next : End = delivery.counted row new e in
      let ls : List What = reply_lines replies (request_answered old) (answer.Fault ResolverDestroyed) in
      let lost : EndReading = after_what schema (place + 1) (what.Replaced old.seq) (after_what schema place (what.DeliverRequest m.seq) own) in
      let after : EndReading = after_whats schema (place + 1 + 1) ls lost in
      let r = replaced-taken row.compress new e.arrived x is in
      let got : End = record e { arrived = e.arrived ++ new ∷ []; delivered = e.delivered + 1 } in
      let t : TakenFrom got.arrived next.arrived x = taken-before e.arrived (staying row.compress new e.arrived) (new ∷ []) x r.taken in
      following-kept replies next (sent_kinds after)
      (fewer got next (sent_kinds own) (sent_kinds after) (one-arrived e m row vs (sent_kinds own) body (request-due schema e own m row vs body found due) h) refl refl h.entries
      (λ n.
      let c = leaves-count (is_packet (kind.Request n)) got.arrived next.arrived x t in
      let s = ap (λ (p : PacketKind). one_if (same_packet p (kind.Request n))) (request-shown schema old.seq old.body (alike-request new x r.alike)) in
      let k = replied-more n (sent_kinds own) (replied_by_lines ls) (sent_kinds after) (lines-replied schema (place + 1 + 1) ls lost (reply-effects replies (request_answered old) (answer.Fault ResolverDestroyed))) in
      let b = ap (replied n) (replies-replied replies (request_answered old) (answer.Fault ResolverDestroyed)) in
      let d = replied-kinds n old.seq replies in
      let a = and-less replies (int_eq old.seq n) in
      omega arith))
  delivery-answers-once {e = e} {f = f} place own (Parts.gets_answer m row a body found is) due h =
      fewer e f (sent_kinds own) (sent_kinds (after_what schema place (what.DeliverReply m.seq) own)) h refl refl (answered-keeps schema a e.stack h.entries)
      (λ n. let k = ap (replied n) (reply-sent place m.seq own) in let c = answered-owed n a e.stack in omega arith)
  delivery-answers-once {e = e} {f = f} place own (Parts.gets_reply m row a body found is) due h =
      let new : Item = delivery.item_of row m in
      fewer e f (sent_kinds own) (sent_kinds (after_what schema place (what.DeliverReply m.seq) own)) h refl refl h.entries
      (λ n.
      let k = ap (replied n) (reply-sent place m.seq own) in
      let c = other-waiting n e.arrived new (ap (λ (p : PacketKind). same_packet p (kind.Request n)) (reply-kind m.seq a m.body body)) in
      omega arith)
  delivery-answers-once {e = e} {f = f} place own (Parts.drains packet is) due h =
      let farewell : EndReading = after_what schema place (farewell_line packet) own in
      effects-kept (place + 1) (map what.Fails (delivery.unanswered e)) f farewell (fail-effects (delivery.unanswered e)) (mapped-replied what.Fails (delivery.unanswered e) (λ n. refl))
      (fewer e f (sent_kinds own) (sent_kinds farewell) h refl refl (failed-keeps schema e.stack h.entries)
      (λ n.
      let k = ap (replied n) (farewell-sent place packet own) in
      let c = other-waiting n e.arrived (farewell_item packet) (farewell-other schema packet is n) in
      let d = failed-owed n e.stack in
      omega arith))
  delivery-answers-once {e = e} place own (Parts.passes_by m is found) due h = read-kept e own (after_what schema place (Parts.unknown_line m.seq m.body) own) (unknown-sent place m.seq m.body own) h
