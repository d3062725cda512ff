-- Each part of a step sends what its lines show.
use Rattle.std.proofs.Common.{◌≡◌, ◌==◌, ℕ, suc, ◌+◌, ℤ, pos, Bool, true, false, if◌then◌else◌, List, [], ◌∷◌, ◌++◌, drop, map, Option, Some, None, refl, sym, ap, subst, ◌∙◌, append_assoc, arith, inl, inr}
use Rattle.std.specs.List.{AllByRecursion}
use Rattle.std.specs.Option.{option_map_or}
use Rattle.std.proofs.lemmas.List.{map-append, append-nil}
use Rattle.std.proofs.lemmas.Option.{same_Some}
use Rattle.std.proofs.lemmas.Bool.{cases_Bool, eqb-true}
use Rattle.ipdl_base.specs.declared.line.What.{What}
use Rattle.ipdl_base.specs.declared.line.What.TheVariants as what
use Rattle.history_reading.specs.EndReading.{EndReading, is_sync_request}
use Rattle.history_reading.specs.Reading as reads
use Rattle.history_reading.specs.Reading.{after_what, request_after}
use Rattle.history_reading.specs.Rows as reading
use Rattle.history_reading.specs.declared.parts.PacketKind.TheVariants as seen
use Rattle.history_reading.specs.SentPacket as told
use Rattle.history_reading.specs.SentPacket.{SentPacket, ReplyContent, requests_of, request_in}
use Rattle.ipdl_base.specs.declared.kinds.Destroy.{Destroy}
use Rattle.ipdl_base.specs.declared.kinds.Reason.{Reason}
use Rattle.ipdl_base.specs.declared.kinds.Reason.TheVariants as reason
use Rattle.ipdl_base.specs.declared.kinds.SendRefusal.TheVariants as refusal
use Rattle.ipdl_base.specs.declared.kinds.Side.{Side}
use Rattle.ipdl_base.specs.declared.kinds.Side.TheVariants.{Parent}
use Rattle.ipdl_base.specs.declared.message.Body.{Body}
use Rattle.ipdl_base.specs.declared.message.Body.TheVariants.{Request, Reply, Fault, Goodbye}
use Rattle.ipdl_base.specs.declared.message.Message.{Message}
use Rattle.ipdl_base.specs.declared.schema.Kind.{Kind}
use Rattle.ipdl_base.specs.declared.schema.Kind.TheVariants.{Normal, Constructor, Delete}
use Rattle.ipdl_base.specs.declared.schema.MessageRow.{MessageRow}
use Rattle.ipdl_base.specs.declared.schema.Schema.{Schema}
use Rattle.ipdl_base.specs.declared.value.Values.{Values}
use Rattle.ipdl_base.specs.Sound.{message_of}
use Rattle.nesting_core.specs.declared.frame.Answer.{Answer}
use Rattle.nesting_core.specs.declared.frame.Answer.TheVariants as answer
use Rattle.nesting_core.specs.Frames.{head_of}
use Rattle.nesting_core.specs.Deferral.{transaction_of}
use Rattle.pending_queue.specs.declared.item.Item.{Item}
use Rattle.pending_queue.specs.declared.item.Item.TheVariants as item
use Rattle.promise_table.specs.declared.promise.Outcome.{Outcome}
use Rattle.promise_table.specs.declared.promise.Outcome.TheVariants.{Resolved, Rejected}
use Rattle.channel_model.specs.Acts.{goodbye}
use Rattle.channel_model.specs.Answers as answering
use Rattle.channel_model.specs.Deliveries as delivery
use Rattle.ipdl_base.specs.declared.kinds.EndState.{EndState}
use Rattle.ipdl_base.specs.declared.kinds.EndState.TheVariants.{Open, Draining, Closed, Dead}
use Rattle.channel_model.specs.Ends.{End, Packet, message, mark}
use Rattle.channel_model.specs.Events.{Answering, handled, kept}
use Rattle.channel_model.specs.Falls as fall
use Rattle.ipdl_base.specs.Sides.{top_id}
use Rattle.channel_model.specs.Numbers.{id_of, seq_of, is_constructor, counting, is_sync_row, request_row}
use Rattle.channel_model.specs.Outputs.{is_open, is_dead_end, AnsweredRequest, answer_line, request_answered, resolver_answered, reply_to}
use Rattle.channel_model.specs.Returns as return
use Rattle.channel_model.specs.Sends as send
use Rattle.channel_model.specs.Takes as take
use Rattle.channel_model.specs.ValueActors.{received}
use Rattle.channel_model.specs.Phases.{Phase}
use Rattle.channel_model.specs.Parts as parts
use Rattle.channel_model.specs.Parts.{FirstPart, LaterPart, DeliveryPart, IsRefusal, IsRenaming, after_outbox, reply_packet, reply_lines, reply_packets, end_after, fall_lines, farewell_line, outbox_after, request_packets}
use Rattle.channel_laws.specs.Tested.{after_whats}
use Rattle.channel_laws.specs.Outlines.{Ended, Outline, outline, HasOutline}
use Rattle.channel_laws.specs.Notes.{Note, says as note_says, asks as note_asks, told_note, told_notes, packet_note, notes, fault_content, values_content}
use Rattle.channel_laws.specs.Origins.{Origin, ResolverOrigin, HasOrigins}
use Rattle.channel_laws.specs.SentAccounts.{seqs, request_seq, HasSyncOfRow, SentAccount, EndAccount}
use Rattle.channel_laws.proofs.PartLines.{mapped-lines, FallsHave, falls-have, closing-has}
use Rattle.channel_laws.proofs.Outlines.{open-is}
use Rattle.channel_laws.proofs.Origins.{promise-async, old-origin, held-origin, used-origin, top-origin, taken-origin, request-origin, body-asks}
use Rattle.channel_laws.specs.Rows.{HasSoundRows}
use Rattle.channel_laws.proofs.Rows.{request-message}
use Rattle.channel_model.proofs.Tests.{and-left, and-right}
use Rattle.channel_model.proofs.SendParts.{passed-first}
use Rattle.channel_model.proofs.Known.{all-append}

-- Lists

requests-one : (x : SentPacket) (xs ys : List SentPacket) → requests_of (xs ++ ys) ≡ requests_of xs ++ requests_of ys → requests_of ((x ∷ xs) ++ ys) ≡ requests_of (x ∷ xs) ++ requests_of ys
requests-one (told.request r) xs ys e = ap (λ (rs : List told.Request). r ∷ rs) e
requests-one (told.said n w) xs ys e = e
requests-one told.goodbye xs ys e = e
requests-one told.broken xs ys e = e

pub requests-append : (xs ys : List SentPacket) → requests_of (xs ++ ys) ≡ requests_of xs ++ requests_of ys
requests-append [] ys = refl
requests-append (x ∷ xs) ys = requests-one x xs ys (requests-append xs ys)

notes-posted : (schema : Schema) (outbox : List Message) (p : Packet) → notes schema (map message outbox ++ p ∷ []) ≡ notes schema (map message outbox) ++ packet_note schema p ∷ []
notes-posted schema outbox p = map-append (packet_note schema) (map message outbox) (p ∷ [])

-- what is noted goes last
put-last : (es left out lost : List Note) (x : Note) → es ≡ left ++ (out ++ lost) → lost ≡ [] → es ++ x ∷ [] ≡ left ++ (out ++ x ∷ [])
put-last es left out lost x e none =
    ap (λ (l : List Note). l ++ x ∷ []) (e ∙ ap (λ (l : List Note). left ++ (out ++ l)) none ∙ ap (λ (l : List Note). left ++ l) (append-nil out)) ∙ append_assoc left out (x ∷ [])

-- a packet with its line, where the line is not of a request
tells : (schema : Schema) (side : Side) (outbox : List Message) (count : ℕ) (sent : List SentPacket) (left : List Note) (t : SentPacket) (p : Packet) → told_note side t ≡ packet_note schema p → request_in t ≡ None → SentAccount schema side true outbox count sent left
    → SentAccount schema side true [] count (sent ++ t ∷ []) (left ++ notes schema (map message outbox ++ p ∷ []))
tells schema side outbox count sent left t p is none k = record {
  lost = [];
  whole =
      map-append (told_note side) sent (t ∷ [])
      ∙ (put-last (told_notes side sent) left (notes schema (map message outbox)) k.lost (told_note side t) k.whole (k.kept refl)
      ∙ (ap (λ (x : Note). left ++ (notes schema (map message outbox) ++ x ∷ [])) is
      ∙ (ap (λ (l : List Note). left ++ l) (sym (notes-posted schema outbox p)) ∙ sym (append-nil (left ++ notes schema (map message outbox ++ p ∷ []))))));
  kept = λ o. refl;
  numbers = ap (map request_seq) (requests-append sent (t ∷ [])) ∙ (ap (λ (rs : List told.Request). map request_seq (requests_of sent ++ rs)) (none-in t none) ∙ (ap (map request_seq) (append-nil (requests_of sent)) ∙ k.numbers));
  syncs = subst (AllByRecursion (HasSyncOfRow schema)) (sym (requests-append sent (t ∷ []) ∙ (ap (λ (rs : List told.Request). requests_of sent ++ rs) (none-in t none) ∙ append-nil (requests_of sent)))) k.syncs;
}
  where
    none-in : (t : SentPacket) → request_in t ≡ None → requests_of (t ∷ []) ≡ []
    none-in (told.request r) e = cc
    none-in (told.said n w) e = refl
    none-in told.goodbye e = refl
    none-in told.broken e = refl

-- nothing is sent
same : {schema : Schema} {side : Side} {open_end : Bool} {outbox : List Message} {count : ℕ} {sent : List SentPacket} {left : List Note} → SentAccount schema side open_end outbox count sent left → SentAccount schema side open_end outbox count sent (left ++ [])
same {schema} {side} {open_end} {outbox} {count} {sent} {left} k = subst (SentAccount schema side open_end outbox count sent) (sym (append-nil left)) k

seqs-next : (side : Side) (n : ℕ) → seqs side (n + 1) ≡ seqs side n ++ seq_of side (n + 1) ∷ []
seqs-next side n =
    let e : n + 1 ≡ suc n = omega arith in
    ap (seqs side) e ∙ ap (λ (k : ℕ). seqs side n ++ seq_of side k ∷ []) (sym e)

-- a request
asks : (schema : Schema) (side : Side) (lazy : Bool) (e : End) (sent : List SentPacket) (left : List Note) (r : told.Request) (m : Message) → told_note side (told.request r) ≡ packet_note schema (message m) → r.seq ≡ seq_of side (e.sent + 1) → HasSyncOfRow schema r → SentAccount schema side true e.outbox e.sent sent left
    → SentAccount schema side true (outbox_after lazy m e.outbox) (e.sent + 1) (sent ++ told.request r ∷ []) (left ++ notes schema (request_packets lazy e m))
asks schema side true e sent left r m is seq fit k = record {
  lost = [];
  whole =
      map-append (told_note side) sent (told.request r ∷ [])
      ∙ (put-last (told_notes side sent) left (notes schema (map message e.outbox)) k.lost (told_note side (told.request r)) k.whole (k.kept refl)
      ∙ (ap (λ (x : Note). left ++ (notes schema (map message e.outbox) ++ x ∷ [])) is
      ∙ (ap (λ (l : List Note). left ++ l) (sym (notes-posted schema e.outbox (message m)) ∙ (ap (notes schema) (sym (map-append message e.outbox (m ∷ []))) ∙ sym (append-nil (notes schema (map message (e.outbox ++ m ∷ [])))))) ∙ ap (λ (l : List Note). l ++ (notes schema (map message (e.outbox ++ m ∷ [])) ++ [])) (sym (append-nil left)))));
  kept = λ o. refl;
  numbers = ap (map request_seq) (requests-append sent (told.request r ∷ [])) ∙ (map-append request_seq (requests_of sent) (r ∷ []) ∙ (ap (λ (l : List ℤ). l ++ r.seq ∷ []) k.numbers ∙ (ap (λ (n : ℤ). seqs side e.sent ++ n ∷ []) seq ∙ sym (seqs-next side e.sent))));
  syncs = subst (AllByRecursion (HasSyncOfRow schema)) (sym (requests-append sent (told.request r ∷ []))) (all-append (HasSyncOfRow schema) (requests_of sent) (r ∷ []) k.syncs (fit, tt));
}
asks schema side false e sent left r m is seq fit k = record {
  lost = [];
  whole =
      map-append (told_note side) sent (told.request r ∷ [])
      ∙ (put-last (told_notes side sent) left (notes schema (map message e.outbox)) k.lost (told_note side (told.request r)) k.whole (k.kept refl)
      ∙ (ap (λ (x : Note). left ++ (notes schema (map message e.outbox) ++ x ∷ [])) is
      ∙ (ap (λ (l : List Note). left ++ l) (sym (notes-posted schema e.outbox (message m))) ∙ sym (append-nil (left ++ notes schema (map message e.outbox ++ message m ∷ []))))));
  kept = λ o. refl;
  numbers = ap (map request_seq) (requests-append sent (told.request r ∷ [])) ∙ (map-append request_seq (requests_of sent) (r ∷ []) ∙ (ap (λ (l : List ℤ). l ++ r.seq ∷ []) k.numbers ∙ (ap (λ (n : ℤ). seqs side e.sent ++ n ∷ []) seq ∙ sym (seqs-next side e.sent))));
  syncs = subst (AllByRecursion (HasSyncOfRow schema)) (sym (requests-append sent (told.request r ∷ []))) (all-append (HasSyncOfRow schema) (requests_of sent) (r ∷ []) k.syncs (fit, tt));
}

-- Lines that leave what was sent unchanged

pub data LeavesSent : What → Type 0 where
  fails : (n : ℤ) → LeavesSent (what.Fails n)
  rejected : (n : ℤ) (r : Reason) → LeavesSent (what.Rejected n r)
  fell : (id : ℤ) (why : Destroy) → LeavesSent (what.Fall id why)

sent-one : (schema : Schema) (place : ℕ) (w : What) (h : EndReading) → LeavesSent w → (after_what schema place w h).sent ≡ h.sent
sent-one schema place w h (fails n) = refl
sent-one schema place w h (rejected n r) = refl
sent-one schema place w h (fell id why) = refl

pub sent-left : (schema : Schema) (place : ℕ) (ws : List What) (h : EndReading) → AllByRecursion LeavesSent ws → (after_whats schema place ws h).sent ≡ h.sent
sent-left schema place [] h l = refl
sent-left schema place (w ∷ ws) h l = sent-left schema (place + 1) ws (after_what schema place w h) l.1 ∙ sent-one schema place w h l.0

sent-falls : FallsHave LeavesSent
sent-falls = record { rejected = rejected; fell = fell }

-- Ids

not-zero : (n : ℕ) → (n + 1 == 0) ≡ false
not-zero n = elim (cases_Bool (n + 1 == 0)) [ inl t ↦ (let e : n + 1 ≡ 0 = eqb-true (n + 1) 0 t in absurd (omega (arith, e))) | inr f ↦ f ]

made-note : (b : Bool) (n : ℕ) (side : Side) → (if (if b then n + 1 else 0) == 0 then pos 0 else id_of side (if b then n + 1 else 0)) ≡ (if b then id_of side (n + 1) else pos 0)
made-note true n side = ap (λ (c : Bool). if c then pos 0 else id_of side (n + 1)) (not-zero n)
made-note false n side = refl

kind-constructs : (kind : Kind) → reading.constructs kind ≡ is_constructor kind
kind-constructs Normal = refl
kind-constructs (Constructor p) = refl
kind-constructs Delete = refl

constructs-row : (schema : Schema) (row : MessageRow) (number : ℕ) → message_of schema number ≡ Some row → reading.is_constructor schema number ≡ is_constructor row.kind
constructs-row schema row number found = ap (λ (r : Option MessageRow). option_map_or (λ (x : MessageRow). reading.constructs x.kind) r false) found ∙ kind-constructs row.kind

made-is : (schema : Schema) (row : MessageRow) (side : Side) (made count : ℕ) → message_of schema row.number ≡ Some row → made ≡ count
    → (if (if reading.is_constructor schema row.number then made + 1 else 0) == 0 then pos 0 else id_of side (if reading.is_constructor schema row.number then made + 1 else 0)) ≡ (if is_constructor row.kind then id_of side (count + 1) else pos 0)
made-is schema row side made count found is =
    ap (λ (n : ℕ). if (if reading.is_constructor schema row.number then n + 1 else 0) == 0 then pos 0 else id_of side (if reading.is_constructor schema row.number then n + 1 else 0)) is
    ∙ (ap (λ (b : Bool). if (if b then count + 1 else 0) == 0 then pos 0 else id_of side (if b then count + 1 else 0)) (constructs-row schema row row.number found) ∙ made-note (is_constructor row.kind) count side)

-- Openness

open-sent : (e : End) → is_open e.state ≡ true → (schema : Schema) (outbox : List Message) (count : ℕ) (sent : List SentPacket) (left : List Note) → SentAccount schema e.side (is_open e.state) outbox count sent left → SentAccount schema e.side true outbox count sent left
open-sent e o schema outbox count sent left k = subst (λ (b : Bool). SentAccount schema e.side b outbox count sent left) o k

-- an end that is no longer open
closed-sent : {schema : Schema} {side : Side} {b c : Bool} {outbox : List Message} {count : ℕ} {sent : List SentPacket} {left : List Note} → b ≡ false → SentAccount schema side c outbox count sent left → SentAccount schema side b outbox count sent left
closed-sent is k = record { lost = k.lost; whole = k.whole; kept = λ o. let x : true ≡ false = sym o ∙ is in cc; numbers = k.numbers; syncs = k.syncs }

abbrev note_by : AnsweredRequest → Answer → Bool → Note
note_by q (answer.Ok vs) sync = note_says q.seq (values_content sync vs)
note_by q (answer.Fault r) sync = note_says q.seq (fault_content sync r)

module _ (schema : Schema) (rows : HasSoundRows schema) (theirs : List Note) where
  abbrev IsOwnFault : Answer → Type 0
  IsOwnFault (answer.Ok vs) = ⊥
  IsOwnFault (answer.Fault reason.HandlerRejected) = ⊥
  IsOwnFault (answer.Fault reason.ChannelClosed) = Unit {0}
  IsOwnFault (answer.Fault reason.ActorDestroyed) = Unit {0}
  IsOwnFault (answer.Fault reason.ResolverDestroyed) = Unit {0}

  abbrev said_of : Answer → ReplyContent
  said_of (answer.Ok vs) = told.ok vs
  said_of (answer.Fault r) = told.fault r

  -- the line of an answer agrees with its packet: the request is sync, or the answer is one of the faults that an end
  -- makes itself
  agrees-at : (sync : Bool) (q : AnsweredRequest) (a : Answer) → (sync ≡ false → IsOwnFault a) → told_note Parent (told.said q.seq (said_of a)) ≡ note_by q a sync
  agrees-at true q (answer.Ok vs) h = refl
  agrees-at true q (answer.Fault r) h = refl
  agrees-at false q (answer.Ok vs) h = absurd (h refl)
  agrees-at false q (answer.Fault reason.HandlerRejected) h = absurd (h refl)
  agrees-at false q (answer.Fault reason.ChannelClosed) h = refl
  agrees-at false q (answer.Fault reason.ActorDestroyed) h = refl
  agrees-at false q (answer.Fault reason.ResolverDestroyed) h = refl

  agrees : (side : Side) (q : AnsweredRequest) (a : Answer) (o : Origin schema theirs q.seq q.route q.number) → (is_sync_row o.row ≡ false → IsOwnFault a) → told_note side (told.said q.seq (said_of a)) ≡ packet_note schema (reply_packet q a)
  agrees side q a o h = agrees-at (is_sync_row o.row) q a h ∙ by-number a ((rows q.number o.row o.found).reply_sync)
    where
      by-number : (a : Answer) → reading.is_sync_number schema (q.number + 1) ≡ is_sync_row o.row → note_by q a (is_sync_row o.row) ≡ packet_note schema (reply_packet q a)
      by-number (answer.Ok vs) is = ap (λ (b : Bool). note_says q.seq (values_content b vs)) (sym is)
      by-number (answer.Fault r) is = ap (λ (b : Bool). note_says q.seq (fault_content b r)) (sym is)

  said-line : (place : ℕ) (q : AnsweredRequest) (a : Answer) (h : EndReading) → (after_what schema place (answer_line q.seq a) h).sent ≡ h.sent ++ told.said q.seq (said_of a) ∷ []
  said-line place q (answer.Ok vs) h = refl
  said-line place q (answer.Fault r) h = refl

  -- a reply, or no reply
  replies : (b : Bool) (place : ℕ) (e : End) (h : EndReading) (left : List Note) (q : AnsweredRequest) (a : Answer) → (b ≡ true → is_open e.state ≡ true) → (o : Origin schema theirs q.seq q.route q.number) → (b ≡ true → is_sync_row o.row ≡ false → IsOwnFault a) → EndAccount schema e h left
      → EndAccount schema (end_after b e) (after_whats schema place (reply_lines b q a) h) (left ++ notes schema (reply_packets b e q a))
  replies true place e h left q a open_end o own k =
      let t : SentPacket = told.said q.seq (said_of a) in
      subst (λ (b : Bool). SentAccount schema e.side b [] e.sent (after_whats schema place (answer_line q.seq a ∷ []) h).sent (left ++ notes schema (after_outbox e (reply_packet q a)))) (sym (open_end refl))
      (subst (λ (sent : List SentPacket). SentAccount schema e.side true [] e.sent sent (left ++ notes schema (after_outbox e (reply_packet q a)))) (sym (said-line place q a h))
      (tells schema e.side e.outbox e.sent h.sent left t (reply_packet q a) (agrees e.side q a o (own refl)) refl (open-sent e (open_end refl) schema e.outbox e.sent h.sent left k)))
  replies false place e h left q a open_end o own k = same k

  -- the same at an end with other arrived items and counts
  replies-beside : (b : Bool) (place : ℕ) (e : End) (items : List Item) (n m : ℕ) (h : EndReading) (left : List Note) (q : AnsweredRequest) (a : Answer) → (b ≡ true → is_open e.state ≡ true) → (o : Origin schema theirs q.seq q.route q.number) → (b ≡ true → is_sync_row o.row ≡ false → IsOwnFault a) → EndAccount schema e h left
      → EndAccount schema (end_after b (record e { arrived = items; delivered = n; constructors_delivered = m })) (after_whats schema place (reply_lines b q a) h) (left ++ notes schema (reply_packets b e q a))
  replies-beside true place e items n m h left q a open_end o own k = replies true place (record e { arrived = items; delivered = n; constructors_delivered = m }) h left q a open_end o own k
  replies-beside false place e items n m h left q a open_end o own k = replies false place (record e { arrived = items; delivered = n; constructors_delivered = m }) h left q a open_end o own k

  refusal-sent : (place : ℕ) (w : What) (h : EndReading) → IsRefusal schema w → (after_what schema place w h).sent ≡ h.sent
  refusal-sent place (what.RefusedSend c n) h q = refl
  refusal-sent place (what.RefusedClose c) h q = refl
  refusal-sent place (what.RefusedResolve c) h q = refl
  refusal-sent place (what.RefusedReject c) h q = refl
  refusal-sent place _ h q = absurd q

  renaming-sent : (place : ℕ) (w : What) (h : EndReading) → IsRenaming w → (after_what schema place w h).sent ≡ h.sent
  renaming-sent place (what.Keep n name) h q = refl
  renaming-sent place (what.Let name id) h q = refl
  renaming-sent place _ h q = absurd q

  -- the lines leave what was sent unchanged, and nothing goes onto the link
  leaves : (e : End) (h next : EndReading) (left : List Note) → next.sent ≡ h.sent → EndAccount schema e h left → EndAccount schema e next (left ++ [])
  leaves e h next left is k = subst (λ (sent : List SentPacket). SentAccount schema e.side (is_open e.state) e.outbox e.sent sent (left ++ [])) (sym is) (same k)

  replying-sent : (n : ℤ) (h : EndReading) → (reads.replying n h).sent ≡ h.sent
  replying-sent n h = by (is_sync_request h n)
    where
      by : (b : Bool) → (if b then reads.answering n (reads.delivering (seen.Reply n) h) else reads.arriving (seen.Reply n) h).sent ≡ h.sent
      by true = refl
      by false = refl

  shut-sent : (place : ℕ) (last : Item) (h : EndReading) → (after_what schema place (parts.shut_line last) h).sent ≡ h.sent
  shut-sent place (item.Message m sync level) h = refl
  shut-sent place item.Broken h = refl

  farewell-sent : (place : ℕ) (packet : Packet) (h : EndReading) → (after_what schema place (farewell_line packet) h).sent ≡ h.sent
  farewell-sent place (message m) h = refl
  farewell-sent place mark h = refl

  settle-sent : (place : ℕ) (seq : ℤ) (o : Outcome) (h : EndReading) → (after_what schema place (take.settle_line seq o) h).sent ≡ h.sent
  settle-sent place seq (Resolved vs) h = refl
  settle-sent place seq (Rejected r) h = refl

  resume-sent : (place : ℕ) (seq : ℤ) (a : Answer) (h : EndReading) → (after_what schema place (return.resume_line seq a) h).sent ≡ h.sent
  resume-sent place seq (answer.Ok vs) h = refl
  resume-sent place seq (answer.Fault r) h = refl

  fails-sent : (ns : List ℤ) → AllByRecursion LeavesSent (map what.Fails ns)
  fails-sent ns = mapped-lines LeavesSent what.Fails ns fails

  ended-open : (e : End) (s : Outline) → HasOutline e s → is_open e.state ≡ true → s.ended ≡ false
  ended-open e s k o = subst (λ (t : EndState). Ended t s.ended) (open-is e.state o) k.ended

  ended-other : (e : End) (s : Outline) → HasOutline e s → is_open e.state ≡ false → is_dead_end e.state ≡ false → s.ended ≡ true
  ended-other e s k o d = by e.state k.ended o d
    where
      by : (t : EndState) → Ended t s.ended → is_open t ≡ false → is_dead_end t ≡ false → s.ended ≡ true
      by Open h o d = cc
      by Draining h o d = h
      by Closed h o d = h
      by Dead h o d = cc

  sends-request : (place : ℕ) (e : End) (h : EndReading) (left : List Note) (row : MessageRow) (route : ℤ) (vs : Values) (sync : Bool) → request_row schema row.number ≡ Some row → is_open e.state ≡ true → is_sync_row row ≡ sync → h.made ≡ e.constructors_sent → EndAccount schema e h left
      → SentAccount schema e.side (is_open e.state) (outbox_after row.lazy (send.request_of e row route vs) e.outbox) (e.sent + 1) (after_what schema place (if sync then what.Call (send.request_of e row route vs).seq (send.request_of e row route vs).transaction route row.number vs else what.Send (send.request_of e row route vs).seq route row.number vs) h).sent
      (left ++ notes schema (request_packets row.lazy e (send.request_of e row route vs)))
  sends-request place e h left row route vs true found o is made k =
      let m : Message = send.request_of e row route vs in
      let r : told.Request = request_after schema m.seq m.transaction route row.number vs h in
      subst (λ (b : Bool). SentAccount schema e.side b (outbox_after row.lazy m e.outbox) (e.sent + 1) (h.sent ++ told.request r ∷ []) (left ++ notes schema (request_packets row.lazy e m))) (sym o)
      (asks schema e.side row.lazy e h.sent left r m (ap (λ (made : ℤ). note_asks (record { seq = m.seq; transaction = m.transaction; sync = reading.is_sync_number schema row.number; wants = reading.wants_number schema row.number; route = route; number = row.number; made = made; values = vs })) (made-is schema row e.side h.made e.constructors_sent (request-message schema row.number row found) made)) refl refl (open-sent e o schema e.outbox e.sent h.sent left k))
  sends-request place e h left row route vs false found o is made k =
      let m : Message = send.request_of e row route vs in
      let r : told.Request = request_after schema m.seq (pos 0) route row.number vs h in
      let none : pos 0 ≡ m.transaction = sym (ap (λ (b : Bool). if b then transaction_of (send.frames_of e) (send.next_seq e) else pos 0) is) in
      subst (λ (b : Bool). SentAccount schema e.side b (outbox_after row.lazy m e.outbox) (e.sent + 1) (h.sent ++ told.request r ∷ []) (left ++ notes schema (request_packets row.lazy e m))) (sym o)
      (asks schema e.side row.lazy e h.sent left r m
      (ap (λ (made : ℤ). note_asks (record { seq = m.seq; transaction = pos 0; sync = reading.is_sync_number schema row.number; wants = reading.wants_number schema row.number; route = route; number = row.number; made = made; values = vs })) (made-is schema row e.side h.made e.constructors_sent (request-message schema row.number row found) made)
      ∙ ap (λ (t : ℤ). note_asks (record { seq = m.seq; transaction = t; sync = reading.is_sync_number schema row.number; wants = reading.wants_number schema row.number; route = route; number = row.number; made = m.made; values = vs })) none) refl refl (open-sent e o schema e.outbox e.sent h.sent left k))

  notes-both : (ps qs : List Packet) (left : List Note) → left ++ notes schema (ps ++ qs) ≡ (left ++ notes schema ps) ++ notes schema qs
  notes-both ps qs left = ap (λ (l : List Note). left ++ l) (map-append (packet_note schema) ps qs) ∙ sym (append_assoc left (notes schema ps) (notes schema qs))

  -- Every part

  pub first-account : {q : Phase} {e f : End} {ws : List What} {ps : List Packet} (place : ℕ) (h : EndReading) (left : List Note) → FirstPart schema e ws ps f q → HasOutline e (outline h) → HasOrigins schema theirs e → EndAccount schema e h left → EndAccount schema f (after_whats schema place ws h) (left ++ notes schema ps)
  first-account {e} place h left (parts.refuses w q) s k t = leaves e h (after_what schema place w h) left (refusal-sent place w h q) t
  first-account {e} place h left (parts.renames w q) s k t = leaves e h (after_what schema place w h) left (renaming-sent place w h q) t
  first-account {e} place h left (parts.flushes o) s k t = record { lost = t.lost; whole = t.whole ∙ sym (append_assoc left (notes schema (map message e.outbox)) t.lost); kept = t.kept; numbers = t.numbers; syncs = t.syncs }
  first-account {e} place h left (parts.sends row route vs name sent) s k t =
      sends-request place e h left row route vs (is_sync_row row) sent.found (passed-first (is_open e.state) refusal.Closed _ sent.accepted).0 refl s.made t
  first-account {e} place h left (parts.answers by vs r row found may ok used) s k t = at by vs
    where
      o : is_open e.state ≡ true
      o = (passed-first (is_open e.state) refusal.Closed (answering.resolver_refusal schema e row vs (answering.resolver_used e by)) ok).0

      origin : ResolverOrigin schema theirs r
      origin = used-origin schema theirs e by r k used

      async : reading.is_sync_number schema (r.number + 1) ≡ false
      async = (rows r.number origin.origin.row origin.origin.found).reply_sync ∙ promise-async origin.origin.row origin.promised

      sent-with : (vs : Option Values) → SentAccount schema e.side true [] e.sent (after_what schema place (answering.answering_line r.seq vs) h).sent (left ++ notes schema (after_outbox e (message (reply_to (resolver_answered r) (answering.answer_body vs)))))
      sent-with None = tells schema e.side e.outbox e.sent h.sent left (told.said r.seq told.rejected) (message (reply_to (resolver_answered r) (answering.answer_body None))) (ap (λ (b : Bool). note_says r.seq (fault_content b reason.HandlerRejected)) (sym async)) refl (open-sent e o schema e.outbox e.sent h.sent left t)
      sent-with (Some vs) = tells schema e.side e.outbox e.sent h.sent left (told.said r.seq (told.resolved vs)) (message (reply_to (resolver_answered r) (answering.answer_body (Some vs)))) (ap (λ (b : Bool). note_says r.seq (values_content b vs)) (sym async)) refl (open-sent e o schema e.outbox e.sent h.sent left t)

      at : (by : Answering) (vs : Option Values) → EndAccount schema (record (answering.without_resolver by e) { outbox = [] }) (after_what schema place (answering.answering_line r.seq vs) h) (left ++ notes schema (after_outbox e (message (reply_to (resolver_answered r) (answering.answer_body vs)))))
      at (handled seq) vs = subst (λ (b : Bool). SentAccount schema e.side b [] e.sent (after_what schema place (answering.answering_line r.seq vs) h).sent (left ++ notes schema (after_outbox e (message (reply_to (resolver_answered r) (answering.answer_body vs)))))) (sym o) (sent-with vs)
      at (kept name number) vs = subst (λ (b : Bool). SentAccount schema e.side b [] e.sent (after_what schema place (answering.answering_line r.seq vs) h).sent (left ++ notes schema (after_outbox e (message (reply_to (resolver_answered r) (answering.answer_body vs)))))) (sym o) (sent-with vs)
  first-account {e} place h left (parts.closes o waits) s k t = closed-sent refl (tells schema e.side e.outbox e.sent h.sent left told.goodbye (message goodbye) refl refl (open-sent e o schema e.outbox e.sent h.sent left t))
  first-account {e} place h left (parts.dies o) s k t =
      subst (λ (b : Bool). SentAccount schema e.side false [] e.sent (if b then h.sent else h.sent ++ told.broken ∷ []) (left ++ notes schema (after_outbox e mark))) (sym (ended-open e (outline h) s o))
      (closed-sent refl (tells schema e.side e.outbox e.sent h.sent left told.broken mark refl refl (open-sent e o schema e.outbox e.sent h.sent left t)))
  first-account {e} place h left (parts.dies_silent o alive) s k t =
      subst (λ (b : Bool). SentAccount schema e.side false e.outbox e.sent (if b then h.sent else h.sent ++ told.broken ∷ []) (left ++ [])) (sym (ended-other e (outline h) s o alive)) (closed-sent refl (same t))
  first-account {e} place h left (parts.takes m sync level row vs next body found stays) s k t = same t
  first-account {e} place h left (parts.drops m sync level row vs id replies_here next body found gone is) s k t =
      replies-beside replies_here (place + 1) e (parts.left_end e).arrived e.delivered e.constructors_delivered (after_what schema place (what.Drop m.seq m.route m.number id) h) left (request_answered m) (answer.Fault reason.ActorDestroyed) (λ x. and-left (is_open e.state) (parts.owes_reply row) (sym is ∙ x)) (request-origin schema theirs m m.body (body-asks schema theirs m vs body) (taken-origin schema theirs e (item.Message m sync level) k next)) (λ x y. tt) t
  first-account {e} place h left (parts.drops_unknown m sync level vs next body none) s k t = same t
  first-account {e} place h left (parts.takes_reply m sync level a next body late) s k t = same t
  first-account {e} place h left (parts.settles m sync level row a next body found is) s k t =
      leaves e h (after_what schema (place + 1) (take.settle_line m.seq (parts.reply_outcome schema e row a)) (after_what schema place (what.TakeReply m.seq) h)) left (settle-sent (place + 1) m.seq (parts.reply_outcome schema e row a) (after_what schema place (what.TakeReply m.seq) h)) t
  first-account {e} place h left (parts.shuts last next is) s k t = closed-sent refl (leaves e h (after_what schema place (parts.shut_line last) h) left (shut-sent place last h) t)
  first-account {e} place h left (parts.returns entry row vs told_here lost_here on_top t_is l_is) s k t =
      let top = top-origin schema theirs e.stack entry on_top.on_top k.entries in
      let o : Origin schema theirs (head_of entry.frame).seq entry.route entry.number = record { row = top.0.row; found = top.0.found; requested = top.0.requested top.1 } in
      let same_row : row ≡ top.0.row = same_Some row top.0.row (sym on_top.found ∙ top.0.found) in
      both told_here lost_here o (λ x y. let sync : is_sync_row row ≡ true = and-right (is_open e.state) (is_sync_row row) (sym t_is ∙ x) in let n : true ≡ false = sym sync ∙ (ap is_sync_row same_row ∙ y) in cc) (λ x. and-left (is_open e.state) (is_sync_row row) (sym t_is ∙ x)) (λ x. and-left (is_open e.state) entry.resolves (sym l_is ∙ x))
    where
      q : AnsweredRequest
      q = return.dispatch_answered entry

      r : AnsweredRequest
      r = resolver_answered (answering.resolver_in entry)

      a : Answer
      a = return.return_answer schema e row entry vs

      c : Answer
      c = answer.Fault reason.ResolverDestroyed

      both : (told lost : Bool) (o : Origin schema theirs (head_of entry.frame).seq entry.route entry.number) → (told ≡ true → is_sync_row o.row ≡ false → IsOwnFault a) → (told ≡ true → is_open e.state ≡ true) → (lost ≡ true → is_open e.state ≡ true)
          → EndAccount schema (end_after lost (end_after told (record e { stack = drop 1 e.stack }))) (after_whats schema place (what.Return (head_of entry.frame).seq ∷ reply_lines told q a ++ reply_lines lost r c) h) (left ++ notes schema (reply_packets told e q a ++ reply_packets lost (end_after told e) r c))
      both true true o own x y =
          subst (EndAccount schema (end_after true (end_after true (record e { stack = drop 1 e.stack }))) (after_whats schema place (what.Return (head_of entry.frame).seq ∷ reply_lines true q a ++ reply_lines true r c) h)) (sym (notes-both (reply_packets true e q a) (reply_packets true (end_after true e) r c) left))
          (replies true (place + 1 + 1) (end_after true (record e { stack = drop 1 e.stack })) (after_what schema (place + 1) (answer_line q.seq a) (after_what schema place (what.Return (head_of entry.frame).seq) h)) (left ++ notes schema (reply_packets true e q a)) r c y o (λ x y. tt)
          (replies true (place + 1) (record e { stack = drop 1 e.stack }) (after_what schema place (what.Return (head_of entry.frame).seq) h) left q a x o own t))
      both true false o own x y =
          subst (EndAccount schema (end_after false (end_after true (record e { stack = drop 1 e.stack }))) (after_whats schema place (what.Return (head_of entry.frame).seq ∷ reply_lines true q a ++ reply_lines false r c) h)) (sym (notes-both (reply_packets true e q a) (reply_packets false (end_after true e) r c) left))
          (replies false (place + 1 + 1) (end_after true (record e { stack = drop 1 e.stack })) (after_what schema (place + 1) (answer_line q.seq a) (after_what schema place (what.Return (head_of entry.frame).seq) h)) (left ++ notes schema (reply_packets true e q a)) r c y o (λ x y. tt)
          (replies true (place + 1) (record e { stack = drop 1 e.stack }) (after_what schema place (what.Return (head_of entry.frame).seq) h) left q a x o own t))
      both false true o own x y = replies true (place + 1) (record e { stack = drop 1 e.stack }) (after_what schema place (what.Return (head_of entry.frame).seq) h) left r c y o (λ x y. tt) t
      both false false o own x y = replies false (place + 1) (record e { stack = drop 1 e.stack }) (after_what schema place (what.Return (head_of entry.frame).seq) h) left r c y o (λ x y. tt) t
  first-account {e} place h left (parts.resumes wait row on_top found) s k t = leaves e h (after_what schema place (return.resume_line wait.seq (received schema e.actors row wait.given)) h) left (resume-sent place wait.seq (received schema e.actors row wait.given) h) t

  pub later-account : {p q : Phase} {e f : End} {ws : List What} {ps : List Packet} (place : ℕ) (h : EndReading) (left : List Note) → LaterPart p e ws ps f q → HasOrigins schema theirs e → EndAccount schema e h left → EndAccount schema f (after_whats schema place ws h) (left ++ notes schema ps)
  later-account {e} place h left (parts.unnames name now silent) k t = same t
  later-account {e} place h left (parts.lets_go name r now is o) k t =
      replies true place e h left (resolver_answered r) (answer.Fault reason.ResolverDestroyed) (λ x. o) (held-origin schema theirs name e.names r k.names is).origin (λ x y. tt) t
  later-account {e} place h left (parts.names more a) k t = same t
  later-account {e} place h left (parts.releases seq closed) k t = same t
  later-account {e} place h left (parts.keeps seq name r is open_end) k t = same t
  later-account {e} place h left (parts.builds id protocol rest fresh alive) k t = same t
  later-account {e} place h left (parts.deletes id cause) k t = leaves e h (after_whats schema place (fall_lines id (fall.why_deleted id) e) h) left (sent-left schema place (fall_lines id (fall.why_deleted id) e) h (falls-have LeavesSent sent-falls id (fall.why_deleted id) e)) t
  later-account {e} place h left (parts.falls why cause) k t =
      let ls : List What = parts.abandoned_lines e in
      let ms : List What = fall_lines top_id (λ id. why) (parts.abandoned_end e) in
      leaves e h (after_whats schema place (ls ++ ms) h) left (sent-left schema place (ls ++ ms) h (closing-has LeavesSent sent-falls why e)) t

  pub delivery-account : {packet : Packet} {q : Phase} {e f : End} {ws : List What} {ps : List Packet} (place : ℕ) (h : EndReading) (left : List Note) → DeliveryPart schema packet e ws ps f q → is_open e.state ≡ true → HasOrigins schema theirs e → EndAccount schema e h left → EndAccount schema f (after_whats schema place ws h) (left ++ notes schema ps)
  delivery-account {e} place h left (parts.gets_request m row vs body found none) o k t = same t
  delivery-account {e} place h left (parts.replaces m row vs old sync level replies_here body found rep is) o k t =
      replies-beside replies_here (place + 1 + 1) e (delivery.counted row (delivery.item_of row m) e).arrived (e.delivered + 1) (counting row.kind e.constructors_delivered) (after_what schema (place + 1) (what.Replaced old.seq) (after_what schema place (what.DeliverRequest m.seq) h)) left (request_answered old) (answer.Fault reason.ResolverDestroyed) (λ x. o) (old-origin schema theirs e row m old sync level k rep) (λ x y. tt) t
  delivery-account {e} place h left (parts.gets_answer m row a body found is) o k t = leaves e h (reads.quiet (reads.replying m.seq h)) left (replying-sent m.seq h) t
  delivery-account {e} place h left (parts.gets_reply m row a body found is) o k t = leaves e h (reads.quiet (reads.replying m.seq h)) left (replying-sent m.seq h) t
  delivery-account {e} place h left (parts.drains packet is) o k t =
      let out : List Note = notes schema (map message e.outbox) in
      subst (λ (sent : List SentPacket). SentAccount schema e.side false [] e.sent sent (left ++ [])) (sym (sent-left schema (place + 1) (map what.Fails (delivery.unanswered e)) (after_what schema place (farewell_line packet) h) (fails-sent (delivery.unanswered e)) ∙ farewell-sent place packet h))
      (record { lost = out ++ t.lost; whole = t.whole ∙ ap (λ (l : List Note). l ++ (out ++ t.lost)) (sym (append-nil left)); kept = λ x. cc; numbers = t.numbers; syncs = t.syncs })
  delivery-account {e} place h left (parts.passes_by m ordinary none) o k t = by m.body
    where
      by : (b : Body) → EndAccount schema e (after_what schema place (parts.unknown_line m.seq b) h) (left ++ [])
      by (Request vs) = same t
      by (Reply vs) = leaves e h (reads.quiet (reads.replying m.seq h)) left (replying-sent m.seq h) t
      by (Fault r) = leaves e h (reads.quiet (reads.replying m.seq h)) left (replying-sent m.seq h) t
      by Goodbye = same t
