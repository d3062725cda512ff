-- Each part of a step keeps the reading of promises.
use Rattle.std.proofs.Common.{◌≡◌, ℕ, ◌+◌, ℤ, pos, Bool, true, false, not, ◌==◌, cond, if◌then◌else◌, int_eq, find, List, [], ◌∷◌, ◌++◌, drop, filter, map, Option, Some, None, option_and_then, refl, sym, ap, subst, append_assoc, ◌∙◌}
use Rattle.std.specs.List.{AllByRecursion, filter_map, flat_map}
use Rattle.std.specs.Option.{option_map_or}
use Rattle.std.proofs.lemmas.Bool.Decides.{Decides-int_eq}
use Rattle.std.proofs.lemmas.List.{append-nil}
use Rattle.std.proofs.lemmas.List.Elements.{filter_map-append}
use Rattle.std.proofs.lemmas.Option.{same_Some}
use Rattle.actor_tree.specs.declared.actor.Actor.{Actor}
use Rattle.actor_tree.specs.Tree.{lives}
use Rattle.ipdl_base.specs.declared.kinds.Destroy.{Destroy}
use Rattle.ipdl_base.specs.declared.kinds.Reason.{Reason}
use Rattle.ipdl_base.specs.declared.kinds.Reason.TheVariants.{ActorDestroyed, ChannelClosed, ResolverDestroyed}
use Rattle.ipdl_base.specs.declared.kinds.Side.{Side}
use Rattle.ipdl_base.specs.declared.line.What.{What}
use Rattle.ipdl_base.specs.declared.line.What.TheVariants as what
use Rattle.ipdl_base.specs.declared.message.Body.{Body}
use Rattle.ipdl_base.specs.declared.message.Body.TheVariants as bodies
use Rattle.ipdl_base.specs.declared.message.Message.{Message}
use Rattle.ipdl_base.specs.declared.schema.MessageRow.{MessageRow}
use Rattle.ipdl_base.specs.declared.schema.Schema.{Schema}
use Rattle.ipdl_base.specs.declared.value.Values.{Values}
use Rattle.ipdl_base.specs.Sound.{message_of}
use Rattle.nesting_core.specs.declared.frame.Answer.{Answer}
use Rattle.nesting_core.specs.declared.frame.Answer.TheVariants as answer
use Rattle.nesting_core.specs.Frames.{head_of}
use Rattle.pending_queue.specs.declared.item.Item.{Item}
use Rattle.pending_queue.specs.declared.item.Item.TheVariants as item
use Rattle.promise_table.specs.declared.promise.Outcome.{Outcome}
use Rattle.promise_table.specs.declared.promise.Outcome.TheVariants.{Resolved, Rejected}
use Rattle.promise_table.specs.declared.promise.Promise.{Promise}
use Rattle.promise_table.specs.Promises.{is_pending, is_pending_of, has_number}
use Rattle.channel_model.specs.Answers as answering
use Rattle.channel_model.specs.Deliveries as delivery
use Rattle.channel_model.specs.Ends.{End, Packet, message, mark, PromiseEntry}
use Rattle.channel_model.specs.Events.{Answering, handled, kept}
use Rattle.channel_model.specs.Falls as fall
use Rattle.ipdl_base.specs.Sides.{top_id}
use Rattle.channel_model.specs.Numbers.{is_sync_row, makes_promise, request_row}
use Rattle.channel_model.specs.Outputs.{AnsweredRequest, request_answered, resolver_answered}
use Rattle.channel_model.specs.Parts
use Rattle.channel_model.specs.Parts.{FirstPart, LaterPart, DeliveryPart, IsRefusal, IsRenaming, end_after, reply_lines, fall_lines, falling, farewell_item, farewell_line, shut_line, left_end, promise_for, reply_outcome}
use Rattle.channel_model.specs.Phases.{Phase}
use Rattle.channel_model.specs.Requests.{IsSeqOf, promise_seq}
use Rattle.channel_model.specs.Returns as return
use Rattle.channel_model.specs.Sends as send
use Rattle.channel_model.specs.Takes as take
use Rattle.channel_model.specs.ValueActors.{received}
use Rattle.channel_model.proofs.Known.{all-append}
use Rattle.history_reading.specs.declared.parts.PacketKind.TheVariants as kind
use Rattle.history_reading.specs.EndReading.{EndReading, is_sync_request}
use Rattle.history_reading.specs.Numbers.{has}
use Rattle.history_reading.specs.Reading as reads
use Rattle.history_reading.specs.Reading.{after_what, request_after}
use Rattle.history_reading.specs.Rows.{wants_number, wants_row}
use Rattle.history_reading.specs.SentPacket as told
use Rattle.history_reading.specs.SentPacket.{SentPacket, Request, request_in, requests_of}
use Rattle.channel_laws.specs.Promised.{promised_by, promised_entry, PromiseReading, promise_reading, IsReadPromise, HasPromises, PromisesAreRead}
use Rattle.channel_laws.specs.Tested.{after_whats}
use Rattle.channel_laws.proofs.Growing.{whats-append}
use Rattle.channel_laws.proofs.EffectLines.{IsEffectLine, AreEffectLines, built, answers_ok, answers_fault, fails, resolved, rejected, fell, reply-effects, rejection-effects, fall-effects, fail-effects, settle-effect}
use Rattle.channel_laws.proofs.Promising.{numbers_passing, numbers_falling, promises-known, request-sent, next-unsettled, promise-settled, all-rejected, fallen-rejected}

-- What is sent

other-sent : (sent : List SentPacket) (p : SentPacket) → filter_map request_in (p ∷ []) ≡ [] → requests_of (sent ++ p ∷ []) ≡ requests_of sent
other-sent sent p none = filter_map-append request_in sent (p ∷ []) ∙ (ap (λ (rs : List Request). requests_of sent ++ rs) none ∙ append-nil (requests_of sent))

-- Lines

-- the promises that a line settles
abbrev pub settled_by : What → List ℤ
settled_by (what.Resolved n vs) = n ∷ []
settled_by (what.Rejected n reason) = n ∷ []
settled_by _ = []

abbrev pub settled_by_lines : List What → List ℤ
settled_by_lines ws = flat_map settled_by ws

same-requests : (read : PromiseReading) (requests : List Request) → requests ≡ read.requests → record read { requests = requests } ≡ record read { settled = read.settled ++ [] }
same-requests read requests same = ap (λ (rs : List Request). record read { requests = rs }) same ∙ ap (λ (ns : List ℤ). record read { settled = ns }) (sym (append-nil read.settled))

one-read : (schema : Schema) (place : ℕ) (w : What) (own : EndReading) → IsEffectLine w → promise_reading (after_what schema place w own) ≡ record (promise_reading own) { settled = own.settled ++ settled_by w }
one-read schema place w own (built id protocol) = same-requests (promise_reading own) (requests_of own.sent) refl
one-read schema place w own (answers_ok n vs) = same-requests (promise_reading own) (requests_of (own.sent ++ told.said n (told.ok vs) ∷ [])) (other-sent own.sent (told.said n (told.ok vs)) refl)
one-read schema place w own (answers_fault n reason) = same-requests (promise_reading own) (requests_of (own.sent ++ told.said n (told.fault reason) ∷ [])) (other-sent own.sent (told.said n (told.fault reason)) refl)
one-read schema place w own (fails n) = same-requests (promise_reading own) (requests_of own.sent) refl
one-read schema place w own (resolved n vs) = refl
one-read schema place w own (rejected n reason) = refl
one-read schema place w own (fell id why) = same-requests (promise_reading own) (requests_of own.sent) refl

-- effects settle what their lines show, and leave the requests unchanged
pub effects-read : (schema : Schema) (place : ℕ) (ws : List What) (own : EndReading) → AreEffectLines ws → promise_reading (after_whats schema place ws own) ≡ record (promise_reading own) { settled = own.settled ++ settled_by_lines ws }
effects-read schema place [] own effects = same-requests (promise_reading own) (requests_of own.sent) refl
effects-read schema place (w ∷ ws) own effects =
    effects-read schema (place + 1) ws (after_what schema place w own) effects.1
    ∙ (ap (λ (read : PromiseReading). record read { settled = read.settled ++ settled_by_lines ws }) (one-read schema place w own effects.0) ∙ ap (λ (ns : List ℤ). record (promise_reading own) { settled = ns }) (append_assoc own.settled (settled_by w) (settled_by_lines ws)))

pub settled-append : (xs ys : List What) → settled_by_lines (xs ++ ys) ≡ settled_by_lines xs ++ settled_by_lines ys
settled-append [] ys = refl
settled-append (x ∷ xs) ys = ap (λ (l : List ℤ). settled_by x ++ l) (settled-append xs ys) ∙ sym (append_assoc (settled_by x) (settled_by_lines xs) (settled_by_lines ys))

replies-settle : (b : Bool) (q : AnsweredRequest) (a : Answer) → settled_by_lines (reply_lines b q a) ≡ []
replies-settle true q (answer.Ok vs) = refl
replies-settle true q (answer.Fault reason) = refl
replies-settle false q a = refl

fails-settle : (ns : List ℤ) → settled_by_lines (map what.Fails ns) ≡ []
fails-settle [] = refl
fails-settle (n ∷ ns) = fails-settle ns

settle-settles : (n : ℤ) (outcome : Outcome) → settled_by_lines (take.settle_line n outcome ∷ []) ≡ n ∷ []
settle-settles n (Resolved vs) = refl
settle-settles n (Rejected reason) = refl

lines-settle : (why : Reason) (entries : List PromiseEntry) → settled_by_lines (map (λ (entry : PromiseEntry). what.Rejected entry.promise.seq why) entries) ≡ map promise_seq entries
lines-settle why [] = refl
lines-settle why (entry ∷ entries) = ap (λ (ns : List ℤ). promise_seq entry ∷ ns) (lines-settle why entries)

pub rejections-settle : (test : Promise → Bool) (why : Reason) (promises : List PromiseEntry) → settled_by_lines (fall.rejections test why promises) ≡ numbers_passing (fall.passes test) promises
rejections-settle test why promises = lines-settle why (filter (fall.passes test) promises)

falls-settle : (why : ℤ → Destroy) (promises : List PromiseEntry) (fs : List Actor) → settled_by_lines (flat_map (fall.fall_lines why promises) fs) ≡ numbers_falling promises fs
falls-settle why promises [] = refl
falls-settle why promises (a ∷ fs) =
    settled-append (fall.fall_lines why promises a) (flat_map (fall.fall_lines why promises) fs)
    ∙ (ap (λ (ns : List ℤ). ns ++ settled_by_lines (flat_map (fall.fall_lines why promises) fs)) (settled-append (fall.rejections (is_pending_of a.id) ActorDestroyed promises) (what.Fall a.id (why a.id) ∷ []) ∙ (append-nil (settled_by_lines (fall.rejections (is_pending_of a.id) ActorDestroyed promises)) ∙ rejections-settle (is_pending_of a.id) ActorDestroyed promises))
    ∙ ap (λ (ns : List ℤ). numbers_passing (fall.passes (is_pending_of a.id)) promises ++ ns) (falls-settle why promises fs))

-- lines of events that send no request and settle nothing

abbrev Reads : Schema → ℕ → What → EndReading → Type 0
Reads schema place w own = promise_reading (after_what schema place w own) ≡ promise_reading own

refusal-read : (schema : Schema) (place : ℕ) (w : What) (own : EndReading) → IsRefusal schema w → Reads schema place w own
refusal-read schema place (what.RefusedSend cause number) own is = refl
refusal-read schema place (what.RefusedClose cause) own is = refl
refusal-read schema place (what.RefusedResolve cause) own is = refl
refusal-read schema place (what.RefusedReject cause) own is = refl
refusal-read schema place _ own is = absurd is

renaming-read : (schema : Schema) (place : ℕ) (w : What) (own : EndReading) → IsRenaming w → Reads schema place w own
renaming-read schema place (what.Keep n name) own is = refl
renaming-read schema place (what.Let name id) own is = refl
renaming-read schema place _ own is = absurd is

same-sent : (own : EndReading) (p : SentPacket) → filter_map request_in (p ∷ []) ≡ [] → record (promise_reading own) { requests = requests_of (own.sent ++ p ∷ []) } ≡ promise_reading own
same-sent own p none = ap (λ (rs : List Request). record (promise_reading own) { requests = rs }) (other-sent own.sent p none)

answering-read : (schema : Schema) (place : ℕ) (n : ℤ) (vs : Option Values) (own : EndReading) → Reads schema place (answering.answering_line n vs) own
answering-read schema place n None own = same-sent own (told.said n told.rejected) refl
answering-read schema place n (Some vs) own = same-sent own (told.said n (told.resolved vs)) refl

dying-read : (schema : Schema) (place : ℕ) (own : EndReading) → Reads schema place what.Die own
dying-read schema place own = by own.ended
  where
    by : (b : Bool) → record (promise_reading own) { requests = requests_of (if b then own.sent else own.sent ++ told.broken ∷ []) } ≡ promise_reading own
    by true = refl
    by false = same-sent own told.broken refl

resume-read : (schema : Schema) (place : ℕ) (n : ℤ) (a : Answer) (own : EndReading) → Reads schema place (return.resume_line n a) own
resume-read schema place n (answer.Ok vs) own = refl
resume-read schema place n (answer.Fault reason) own = refl

shut-read : (schema : Schema) (place : ℕ) (last : Item) (own : EndReading) → Reads schema place (shut_line last) own
shut-read schema place (item.Message m sync level) own = refl
shut-read schema place item.Broken own = refl

farewell-read : (schema : Schema) (place : ℕ) (packet : Packet) (own : EndReading) → Reads schema place (farewell_line packet) own
farewell-read schema place (message m) own = refl
farewell-read schema place mark own = refl

reply-read : (schema : Schema) (place : ℕ) (n : ℤ) (own : EndReading) → Reads schema place (what.DeliverReply n) own
reply-read schema place n own = by (is_sync_request own n)
  where
    by : (b : Bool) → promise_reading (if b then reads.answering n (reads.delivering (kind.Reply n) own) else reads.arriving (kind.Reply n) own) ≡ promise_reading own
    by true = refl
    by false = refl

unknown-read : (schema : Schema) (place : ℕ) (n : ℤ) (body : Body) (own : EndReading) → Reads schema place (Parts.unknown_line n body) own
unknown-read schema place n (bodies.Request vs) own = refl
unknown-read schema place n (bodies.Reply vs) own = reply-read schema place n own
unknown-read schema place n (bodies.Fault reason) own = reply-read schema place n own
unknown-read schema place n bodies.Goodbye own = refl

-- A line that sends a request, and the request that is read of it.
record SendsRequest (schema : Schema) (place : ℕ) (w : What) (m : Message) (own : EndReading) : Type 0 where
  request : Request
  reads_it : promise_reading (after_what schema place w own) ≡ record (promise_reading own) { requests = requests_of own.sent ++ request ∷ [] }
  seq_is : request.seq ≡ m.seq
  promised_is : promised_by request ≡ cond (wants_number schema m.number) (record { seq = m.seq; route = m.route; number = m.number } ∷ []) []

request-read : (own : EndReading) (r : Request) → record (promise_reading own) { requests = requests_of (own.sent ++ told.request r ∷ []) } ≡ record (promise_reading own) { requests = requests_of own.sent ++ r ∷ [] }
request-read own r = ap (λ (rs : List Request). record (promise_reading own) { requests = rs }) (filter_map-append request_in own.sent (told.request r ∷ []))

sends-request : (schema : Schema) (place : ℕ) (b : Bool) (m : Message) (vs : Values) (own : EndReading) → SendsRequest schema place (if b then what.Call m.seq m.transaction m.route m.number vs else what.Send m.seq m.route m.number vs) m own
sends-request schema place true m vs own = let r : Request = request_after schema m.seq m.transaction m.route m.number vs own in record { request = r; reads_it = request-read own r; seq_is = refl; promised_is = refl }
sends-request schema place false m vs own = let r : Request = request_after schema m.seq (pos 0) m.route m.number vs own in record { request = r; reads_it = request-read own r; seq_is = refl; promised_is = refl }

-- the message of a row is found by its request's number
found-case : (b : Bool) (row found : MessageRow) → (if b then Some found else None) ≡ Some row → found ≡ row
found-case true row found e = same_Some found row e
found-case false row found e = cc

pub message-row : (schema : Schema) (number : ℕ) (row : MessageRow) → request_row schema number ≡ Some row → message_of schema number ≡ Some row
message-row schema number row e = by (message_of schema number) e
  where
    by : (found : Option MessageRow) → option_and_then (λ r. if r.number == number then Some r else None) found ≡ Some row → found ≡ Some row
    by None e = cc
    by (Some found) e = ap (λ (r : MessageRow). Some r) (found-case (found.number == number) row found e)

cond-append : {A : Type 0} (b : Bool) (xs : List A) (x : A) → cond b (xs ++ x ∷ []) xs ≡ xs ++ cond b (x ∷ []) []
cond-append true xs x = refl
cond-append false xs x = sym (append-nil xs)

-- Ends

-- the same promises at another end
abbrev SamePromises : End → End → Type 0
SamePromises f e = (f.side ≡ e.side) × (f.promises ≡ e.promises) × (f.sent ≡ e.sent)

same-kept : (f e : End) (own : EndReading) → SamePromises f e → PromisesAreRead e own → PromisesAreRead f own
same-kept f e own same h =
    subst (λ (s : Side). HasPromises s f.promises f.sent (promise_reading own)) (sym same.0)
    (subst (λ (ps : List PromiseEntry). HasPromises e.side ps f.sent (promise_reading own)) (sym same.1)
    (subst (λ (n : ℕ). HasPromises e.side e.promises n (promise_reading own)) (sym same.2) h))

following-same : (b : Bool) (e : End) → SamePromises (end_after b e) e
following-same true e = (refl, refl, refl)
following-same false e = (refl, refl, refl)

without-same : (by : Answering) (e : End) → SamePromises (answering.without_resolver by e) e
without-same (handled seq) e = (refl, refl, refl)
without-same (kept name number) e = (refl, refl, refl)

following-kept : (b : Bool) (e : End) (own : EndReading) → PromisesAreRead e own → PromisesAreRead (end_after b e) own
following-kept b e own h = same-kept (end_after b e) e own (following-same b e) h

-- Parts

module _ (schema : Schema) where
  read-kept : (e : End) (own next : EndReading) → promise_reading next ≡ promise_reading own → PromisesAreRead e own → PromisesAreRead e next
  read-kept e own next same h = subst (HasPromises e.side e.promises e.sent) (sym same) h

  -- effects that settle nothing leave the promises
  effects-kept : (place : ℕ) (ws : List What) (e : End) (own : EndReading) → AreEffectLines ws → settled_by_lines ws ≡ [] → PromisesAreRead e own → PromisesAreRead e (after_whats schema place ws own)
  effects-kept place ws e own effects none h =
      subst (HasPromises e.side e.promises e.sent) (sym (effects-read schema place ws own effects ∙ (ap (λ (ns : List ℤ). record (promise_reading own) { settled = own.settled ++ ns }) none ∙ ap (λ (ns : List ℤ). record (promise_reading own) { settled = ns }) (append-nil own.settled)))) h

  falls-kept : (place : ℕ) (id : ℤ) (why : ℤ → Destroy) (e : End) (own : EndReading) → PromisesAreRead e own → PromisesAreRead (Parts.fallen_end id e) (after_whats schema place (fall_lines id why e) own)
  falls-kept place id why e own h =
      let fs : List Actor = falling id e in
      subst (HasPromises e.side (fall.rejected (λ p. lives p.actor fs) ActorDestroyed e.promises) e.sent)
      (sym (effects-read schema place (fall_lines id why e) own (fall-effects id why e) ∙ ap (λ (ns : List ℤ). record (promise_reading own) { settled = own.settled ++ ns }) (falls-settle why e.promises fs)))
      (fallen-rejected e.side e.promises e.sent (promise_reading own) fs h)

  pub abandoned-kept : (place : ℕ) (e : End) (own : EndReading) → PromisesAreRead e own → PromisesAreRead (Parts.abandoned_end e) (after_whats schema place (Parts.abandoned_lines e) own)
  abandoned-kept place e own h =
      subst (HasPromises e.side (fall.rejected (λ p. true) ChannelClosed e.promises) e.sent)
      (sym (effects-read schema place (Parts.abandoned_lines e) own (rejection-effects (λ p. true) ChannelClosed e.promises) ∙ ap (λ (ns : List ℤ). record (promise_reading own) { settled = own.settled ++ ns }) (rejections-settle (λ p. true) ChannelClosed e.promises)))
      (all-rejected e.side e.promises e.sent (promise_reading own) (λ p. true) ChannelClosed h)

  -- an awaited promise has the number of a request that was sent
  awaited-known : (P : ℤ → Type 0) (n : ℤ) (promises : List PromiseEntry) → AllByRecursion P (map promise_seq promises) → option_map_or (λ (entry : PromiseEntry). is_pending entry.promise) (find (λ entry. has_number n entry.promise) promises) false ≡ true → P n
  awaited-known P n [] h e = cc
  awaited-known P n (entry ∷ promises) h e = by (int_eq entry.promise.seq n) refl e (awaited-known P n promises h.1)
    where
      later : Option PromiseEntry
      later = find (λ x. has_number n x.promise) promises

      by : (b : Bool) → int_eq entry.promise.seq n ≡ b → option_map_or (λ (x : PromiseEntry). is_pending x.promise) (cond b (Some entry) later) false ≡ true → (option_map_or (λ (x : PromiseEntry). is_pending x.promise) later false ≡ true → P n) → P n
      by true is e rest = subst P ((Decides-int_eq entry.promise.seq n).0 is) h.0
      by false is e rest = rest e

  sent-kept : (place : ℕ) (e : End) (own : EndReading) (row : MessageRow) (route : ℤ) (vs : Values) → request_row schema row.number ≡ Some row → PromisesAreRead e own → PromisesAreRead (Parts.sent_end row (send.request_of e row route vs) e) (after_what schema place (send.send_line row (send.request_of e row route vs) vs) own)
  sent-kept place e own row route vs found h =
      let m : Message = send.request_of e row route vs in
      let more : List PromiseEntry = cond (makes_promise row) (promise_for m ∷ []) [] in
      let s : SendsRequest schema place (send.send_line row m vs) m own = sends-request schema place (is_sync_row row) m vs own in
      let wants : wants_number schema row.number ≡ makes_promise row = ap (λ (r : Option MessageRow). option_map_or wants_row r false) (message-row schema row.number row found) in
      let made : map promised_entry more ≡ promised_by s.request = by-wants (makes_promise row) m ∙ (sym (ap (λ (b : Bool). cond b (record { seq = m.seq; route = m.route; number = m.number } ∷ []) []) wants) ∙ sym s.promised_is) in
      let fresh : has own.settled m.seq ≡ false = next-unsettled e.side e.promises e.sent (promise_reading own) m.seq h refl in
      subst (HasPromises e.side (cond (makes_promise row) (e.promises ++ promise_for m ∷ []) e.promises) (e.sent + 1)) (sym s.reads_it)
      (subst (λ (ps : List PromiseEntry). HasPromises e.side ps (e.sent + 1) (record (promise_reading own) { requests = requests_of own.sent ++ s.request ∷ [] })) (sym (cond-append (makes_promise row) e.promises (promise_for m)))
      (request-sent e.side e.promises more e.sent (promise_reading own) s.request h s.seq_is made (pending (makes_promise row) m fresh)))
    where
      by-wants : (b : Bool) (m : Message) → map promised_entry (cond b (promise_for m ∷ []) []) ≡ cond b (record { seq = m.seq; route = m.route; number = m.number } ∷ []) []
      by-wants true m = refl
      by-wants false m = refl

      pending : (b : Bool) (m : Message) → has own.settled m.seq ≡ false → AllByRecursion (IsReadPromise own.settled) (cond b (promise_for m ∷ []) [])
      pending true m fresh = (ap not (sym fresh), tt)
      pending false m fresh = tt

  pub first-keeps-promises : {e f : End} {ws : List What} {ps : List Packet} {q : Phase} (place : ℕ) (own : EndReading) → FirstPart schema e ws ps f q → PromisesAreRead e own → PromisesAreRead f (after_whats schema place ws own)
  first-keeps-promises {e} place own (Parts.refuses w is) h = read-kept e own (after_what schema place w own) (refusal-read schema place w own is) h
  first-keeps-promises {e} place own (Parts.renames w is) h = read-kept e own (after_what schema place w own) (renaming-read schema place w own is) h
  first-keeps-promises place own (Parts.flushes o) h = h
  first-keeps-promises {e} place own (Parts.sends row route vs name sent) h = sent-kept place e own row route vs sent.found h
  first-keeps-promises {e} place own (Parts.answers by vs r row found may ok used) h =
      let next : EndReading = after_what schema place (answering.answering_line r.seq vs) own in
      same-kept (record (answering.without_resolver by e) { outbox = [] }) e next (without-same by e) (read-kept e own next (answering-read schema place r.seq vs own) h)
  first-keeps-promises {e} place own (Parts.closes o waits) h = read-kept e own (after_what schema place what.Close own) (same-sent own told.goodbye refl) h
  first-keeps-promises {e} place own (Parts.dies o) h = read-kept e own (after_what schema place what.Die own) (dying-read schema place own) h
  first-keeps-promises {e} place own (Parts.dies_silent o alive) h = read-kept e own (after_what schema place what.Die own) (dying-read schema place own) h
  first-keeps-promises place own (Parts.takes m sync level row vs next body found stays) h = h
  first-keeps-promises {e} place own (Parts.drops m sync level row vs id replies next body found gone is) h =
      effects-kept (place + 1) (reply_lines replies (request_answered m) (answer.Fault ActorDestroyed)) (end_after replies (left_end e)) (after_what schema place (what.Drop m.seq m.route m.number id) own)
      (reply-effects replies (request_answered m) (answer.Fault ActorDestroyed)) (replies-settle replies (request_answered m) (answer.Fault ActorDestroyed))
      (following-kept replies (left_end e) own h)
  first-keeps-promises place own (Parts.drops_unknown m sync level vs next body found) h = h
  first-keeps-promises place own (Parts.takes_reply m sync level a next body late) h = h
  first-keeps-promises {e} place own (Parts.settles m sync level row a next body found awaited) h =
      let outcome : Outcome = reply_outcome schema e row a in
      let ws : List What = take.settle_line m.seq outcome ∷ [] in
      let taken : EndReading = after_what schema place (what.TakeReply m.seq) own in
      subst (HasPromises e.side (map (take.settled_entry m.seq outcome) e.promises) e.sent)
      (sym (effects-read schema (place + 1) ws taken (settle-effect m.seq outcome, tt) ∙ ap (λ (ns : List ℤ). record (promise_reading own) { settled = own.settled ++ ns }) (settle-settles m.seq outcome)))
      (promise-settled e.side e.promises e.sent (promise_reading own) m.seq outcome h (awaited-known (IsSeqOf e.side e.sent) m.seq e.promises (promises-known e.side e.promises e.sent (promise_reading own) h) awaited))
  first-keeps-promises {e} place own (Parts.shuts last next is) h = read-kept e own (after_what schema place (shut_line last) own) (shut-read schema place last own) h
  first-keeps-promises {e} place own (Parts.returns entry row vs told lost may t l) h =
      let ls : List What = reply_lines told (return.dispatch_answered entry) (return.return_answer schema e row entry vs) in
      let ms : List What = reply_lines lost (resolver_answered (answering.resolver_in entry)) (answer.Fault ResolverDestroyed) in
      let popped : End = record e { stack = drop 1 e.stack } in
      effects-kept (place + 1) (ls ++ ms) (end_after lost (end_after told popped)) (after_what schema place (what.Return (head_of entry.frame).seq) own)
      (all-append IsEffectLine ls ms (reply-effects told (return.dispatch_answered entry) (return.return_answer schema e row entry vs)) (reply-effects lost (resolver_answered (answering.resolver_in entry)) (answer.Fault ResolverDestroyed)))
      (settled-append ls ms ∙ (ap (λ (ns : List ℤ). ns ++ settled_by_lines ms) (replies-settle told (return.dispatch_answered entry) (return.return_answer schema e row entry vs)) ∙ replies-settle lost (resolver_answered (answering.resolver_in entry)) (answer.Fault ResolverDestroyed)))
      (following-kept lost (end_after told popped) own (following-kept told popped own h))
  first-keeps-promises {e} place own (Parts.resumes wait row on_top found) h = read-kept e own (after_what schema place (return.resume_line wait.seq (received schema e.actors row wait.given)) own) (resume-read schema place wait.seq (received schema e.actors row wait.given) own) h

  pub later-keeps-promises : {p q : Phase} {e f : End} {ws : List What} {ps : List Packet} (place : ℕ) (own : EndReading) → LaterPart p e ws ps f q → PromisesAreRead e own → PromisesAreRead f (after_whats schema place ws own)
  later-keeps-promises place own (Parts.unnames name may silent) h = h
  later-keeps-promises {e} place own (Parts.lets_go name r may held o) h = read-kept e own (after_what schema place (what.AnswerFault r.seq ResolverDestroyed) own) (same-sent own (told.said r.seq (told.fault ResolverDestroyed)) refl) h
  later-keeps-promises place own (Parts.names more holds) h = h
  later-keeps-promises place own (Parts.releases seq is) h = h
  later-keeps-promises place own (Parts.keeps seq name r is o) h = h
  later-keeps-promises place own (Parts.builds id protocol rest fresh alive) h = h
  later-keeps-promises {e} place own (Parts.deletes id is) h = falls-kept place id (fall.why_deleted id) e own h
  later-keeps-promises {e} place own (Parts.falls why is) h =
      let ls : List What = Parts.abandoned_lines e in
      let whole = whats-append schema place ls (fall_lines top_id (λ id. why) (Parts.abandoned_end e)) own in
      read-kept (Parts.fallen_end top_id (Parts.abandoned_end e)) (after_whats schema whole.0 (fall_lines top_id (λ id. why) (Parts.abandoned_end e)) (after_whats schema place ls own)) (after_whats schema place (ls ++ fall_lines top_id (λ id. why) (Parts.abandoned_end e)) own) (ap promise_reading whole.1)
      (falls-kept whole.0 top_id (λ id. why) (Parts.abandoned_end e) (after_whats schema place ls own) (abandoned-kept place e own h))

  pub delivery-keeps-promises : {packet : Packet} {e f : End} {ws : List What} {ps : List Packet} {q : Phase} (place : ℕ) (own : EndReading) → DeliveryPart schema packet e ws ps f q → PromisesAreRead e own → PromisesAreRead f (after_whats schema place ws own)
  delivery-keeps-promises place own (Parts.gets_request m row vs body found none) h = h
  delivery-keeps-promises {e} place own (Parts.replaces m row vs old sync level replies body found is told) h =
      let new : Item = delivery.item_of row m in
      let got : EndReading = after_what schema place (what.DeliverRequest m.seq) own in
      let lost : EndReading = after_what schema (place + 1) (what.Replaced old.seq) got in
      effects-kept (place + 1 + 1) (reply_lines replies (request_answered old) (answer.Fault ResolverDestroyed)) (end_after replies (delivery.counted row new e)) lost
      (reply-effects replies (request_answered old) (answer.Fault ResolverDestroyed)) (replies-settle replies (request_answered old) (answer.Fault ResolverDestroyed)) (following-kept replies (delivery.counted row new e) own h)
  delivery-keeps-promises {e} place own (Parts.gets_answer m row a body found is) h = read-kept e own (after_what schema place (what.DeliverReply m.seq) own) (reply-read schema place m.seq own) h
  delivery-keeps-promises {e} place own (Parts.gets_reply m row a body found is) h = read-kept e own (after_what schema place (what.DeliverReply m.seq) own) (reply-read schema place m.seq own) h
  delivery-keeps-promises {e} place own (Parts.drains packet is) h =
      effects-kept (place + 1) (map what.Fails (delivery.unanswered e)) (Parts.drained_end (farewell_item packet) e) (after_what schema place (farewell_line packet) own) (fail-effects (delivery.unanswered e)) (fails-settle (delivery.unanswered e))
      (read-kept e own (after_what schema place (farewell_line packet) own) (farewell-read schema place packet own) h)
  delivery-keeps-promises {e} place own (Parts.passes_by m is found) h = read-kept e own (after_what schema place (Parts.unknown_line m.seq m.body) own) (unknown-read schema place m.seq m.body own) h
