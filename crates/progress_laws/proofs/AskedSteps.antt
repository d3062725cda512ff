-- What an open end has sent, or keeps back, for a pending promise; and the answers that have come to it: part by part.
use Rattle.std.proofs.Common.{◌≡◌, ◌≢◌, ℕ, ◌+◌, ◌⊎◌, inl, inr, ℤ, Bool, true, false, not, ◌&&◌, cond, List, [], ◌∷◌, ◌++◌, drop, find, map, Option, Some, None, is_some, refl, sym, ap, subst, ◌∙◌}
use Rattle.std.specs.List.{AllByRecursion}
use Rattle.std.specs.Option.{option_map_or}
use Rattle.std.proofs.lemmas.Bool.{cases_Bool, not-true, or_right}
use Rattle.std.proofs.lemmas.Bool.Decides.{Decides-int_eq}
use Rattle.std.proofs.lemmas.Option.{same_Some}
use Rattle.ipdl_base.specs.declared.kinds.Level.{Level}
use Rattle.ipdl_base.specs.declared.kinds.Reason.{Reason}
use Rattle.ipdl_base.specs.declared.kinds.Reason.TheVariants.{ResolverDestroyed}
use Rattle.ipdl_base.specs.declared.line.What.{What}
use Rattle.ipdl_base.specs.declared.message.Body.TheVariants.{Request}
use Rattle.ipdl_base.specs.declared.message.Message.{Message}
use Rattle.ipdl_base.specs.declared.schema.MessageRow.{MessageRow}
use Rattle.ipdl_base.specs.declared.schema.Schema.{Schema}
use Rattle.ipdl_base.specs.declared.value.Values.{Values}
use Rattle.ipdl_base.specs.Sound.{IsSound, message_of}
use Rattle.nesting_core.specs.declared.frame.Answer.{Answer}
use Rattle.nesting_core.specs.declared.frame.Answer.TheVariants as answer
use Rattle.pending_queue.specs.declared.item.Item.{Item}
use Rattle.pending_queue.specs.declared.item.Item.TheVariants as item
use Rattle.pending_queue.specs.Compression.{is_request, are_alike, replaced, staying}
use Rattle.promise_table.specs.declared.promise.Outcome.{Outcome}
use Rattle.promise_table.specs.declared.promise.Promise.{Promise}
use Rattle.promise_table.specs.Promises.{has_number, is_pending}
use Rattle.channel_model.specs.Actors.{AreDistinct}
use Rattle.channel_model.specs.Answers as answers
use Rattle.channel_model.specs.Deliveries as delivery
use Rattle.channel_model.specs.Ends.{End, Packet, message, PromiseEntry, Resolver}
use Rattle.channel_model.specs.Events.{Answering, handled, kept}
use Rattle.channel_model.specs.Falls.{passes, rejected, rejected_entry}
use Rattle.channel_model.specs.Numbers.{request_row, is_sync_row, makes_promise}
use Rattle.channel_model.specs.Outputs.{AnsweredRequest, is_open, body_of, reply_to, resolver_answered}
use Rattle.channel_model.specs.Parts
use Rattle.channel_model.specs.Parts.{FirstPart, LaterPart, LaterParts, OwnParts, DeliveryPart, abandoned_end, after_outbox, reply_packets, end_after, left_end, is_settling, promise_for, outbox_after, request_packets}
use Rattle.channel_model.specs.Phases.{Phase}
use Rattle.channel_model.specs.Returns as return
use Rattle.channel_model.specs.Requests.{promise_seq}
use Rattle.channel_model.specs.Sends as sends
use Rattle.channel_model.specs.Takes as takes
use Rattle.channel_model.proofs.Known.{all-append}
use Rattle.channel_model.proofs.SoundRows.{reply-row}
use Rattle.channel_model.proofs.StepParts.{EachPartKeeps}
use Rattle.channel_model.proofs.Tests.{and-left, and-right}
use Rattle.channel_laws.specs.Notes.{In, here, there}
use Rattle.channel_laws.proofs.ArrivalParts.{staying-all, taken-first}
use Rattle.channel_laws.proofs.Growing.{in-before, in-following, in-all}
use Rattle.channel_laws.proofs.Replacing.{Replaces, replaced-taken, is_request_item, alike-request}
use Rattle.channel_laws.proofs.Rows.{request-message, sound_schemas_have_sound_rows}
use Rattle.progress_laws.specs.Promises.{resolver_for, BringsResolver, AnswersFor}
use Rattle.progress_laws.proofs.HeldDeliveries.{not-answer}
use Rattle.progress_laws.proofs.Members.{in-append, in-cons, in-map, in-taken}

-- The rows of promises

-- The message of a promise makes promises.
pub record HasPromiseRow (schema : Schema) (number : ℕ) : Type 0 where
  pub row : MessageRow
  pub found : request_row schema number ≡ Some row
  pub promised : makes_promise row ≡ true

abbrev pub PromisesHaveRows : Schema → End → Type 0
PromisesHaveRows schema e = AllByRecursion (λ entry. HasPromiseRow schema entry.number) e.promises

module _ (schema : Schema) where
  abbrev HaveRows : List PromiseEntry → Type 0
  HaveRows promises = AllByRecursion (λ entry. HasPromiseRow schema entry.number) promises

  settled-rows : (seq : ℤ) (outcome : Outcome) (promises : List PromiseEntry) → HaveRows promises → HaveRows (map (takes.settled_entry seq outcome) promises)
  settled-rows seq outcome [] h = tt
  settled-rows seq outcome (entry ∷ promises) h = (h.0, settled-rows seq outcome promises h.1)

  rejected-rows : (test : Promise → Bool) (why : Reason) (promises : List PromiseEntry) → HaveRows promises → HaveRows (rejected test why promises)
  rejected-rows test why [] h = tt
  rejected-rows test why (entry ∷ promises) h = (by (passes test entry), rejected-rows test why promises h.1)
    where
      by : (b : Bool) → HasPromiseRow schema (cond b (rejected_entry why entry) entry).number
      by true = h.0
      by false = h.0

  following-rows : (b : Bool) (e : End) → HaveRows e.promises → HaveRows (end_after b e).promises
  following-rows true e h = h
  following-rows false e h = h

  used-rows : (by : Answering) (e : End) → HaveRows e.promises → HaveRows (answers.without_resolver by e).promises
  used-rows (handled seq) e h = h
  used-rows (kept name number) e h = h

  promised-rows : (b : Bool) (row : MessageRow) (promises : List PromiseEntry) (m : Message) → makes_promise row ≡ b → request_row schema m.number ≡ Some row → HaveRows promises → HaveRows (cond b (promises ++ promise_for m ∷ []) promises)
  promised-rows true row promises m is found h = all-append (λ entry. HasPromiseRow schema entry.number) promises (promise_for m ∷ []) h (record { row = row; found = found; promised = is }, tt)
  promised-rows false row promises m is found h = h

  first-rows : {p : Phase} {e f : End} {ws : List What} {ps : List Packet} → FirstPart schema e ws ps f p → PromisesHaveRows schema e → PromisesHaveRows schema f
  first-rows (Parts.refuses w is) h = h
  first-rows (Parts.renames w is) h = h
  first-rows (Parts.flushes open_is) h = h
  first-rows {e} (Parts.sends row route vs name sent) h = promised-rows (makes_promise row) row e.promises (sends.request_of e row route vs) refl sent.found h
  first-rows {e} (Parts.answers by vs r row found may ok is) h = used-rows by e h
  first-rows (Parts.closes open_is none) h = h
  first-rows (Parts.dies open_is) h = h
  first-rows (Parts.dies_silent open_is alive) h = h
  first-rows (Parts.takes m sync level row vs next body found stays) h = h
  first-rows {e} (Parts.drops m sync level row vs id replies next body found gone is) h = following-rows replies (left_end e) h
  first-rows (Parts.drops_unknown m sync level vs next body none) h = h
  first-rows (Parts.takes_reply m sync level a next body late) h = h
  first-rows {e} (Parts.settles m sync level row a next body found is) h = settled-rows m.seq _ e.promises h
  first-rows (Parts.shuts last next is) h = h
  first-rows {e} (Parts.returns entry row vs told lost returns t l) h = following-rows lost (end_after told (record e { stack = drop 1 e.stack })) (following-rows told (record e { stack = drop 1 e.stack }) h)
  first-rows (Parts.resumes wait row on_top found) h = h

  later-rows : {p q : Phase} {e f : End} {ws : List What} {ps : List Packet} → LaterPart p e ws ps f q → PromisesHaveRows schema e → PromisesHaveRows schema f
  later-rows (Parts.unnames name may silent) h = h
  later-rows (Parts.lets_go name r may is open_is) h = h
  later-rows (Parts.names more actors) h = h
  later-rows (Parts.releases seq closed) h = h
  later-rows (Parts.keeps seq name r is not_closed) h = h
  later-rows (Parts.builds id protocol rest is built) h = h
  later-rows {e} (Parts.deletes id cause) h = rejected-rows _ _ e.promises h
  later-rows {e} (Parts.falls why cause) h = rejected-rows _ _ _ (rejected-rows _ _ e.promises h)

  delivery-rows : {packet : Packet} {p : Phase} {e f : End} {ws : List What} {ps : List Packet} → DeliveryPart schema packet e ws ps f p → PromisesHaveRows schema e → PromisesHaveRows schema f
  delivery-rows (Parts.gets_request m row vs body found none) h = h
  delivery-rows {e} (Parts.replaces m row vs old sync level replies body found rep is) h = following-rows replies (delivery.counted row (delivery.item_of row m) e) h
  delivery-rows (Parts.gets_answer m row a body found sync) h = h
  delivery-rows (Parts.gets_reply m row a body found async) h = h
  delivery-rows (Parts.drains packet is) h = h
  delivery-rows (Parts.passes_by m ordinary none) h = h

  pub each-has_rows : EachPartKeeps schema (PromisesHaveRows schema)
  each-has_rows = record { first = first-rows; later = later-rows; delivery = delivery-rows }

-- Promises that are still pending

-- one that is pending after a reply has settled another was there before, with another number
settled-other : (seq : ℤ) (outcome : Outcome) (promises : List PromiseEntry) (entry : PromiseEntry) → In entry (map (takes.settled_entry seq outcome) promises) → is_pending entry.promise ≡ true → In entry promises × (entry.promise.seq ≢ seq)
settled-other seq outcome [] entry i pending = elim i [ ]
settled-other seq outcome (first ∷ promises) entry here pending = by (has_number seq first.promise && is_pending first.promise) refl pending
  where
    by : (b : Bool) → has_number seq first.promise && is_pending first.promise ≡ b → is_pending (cond b (record first.promise { outcome = Some outcome }) first.promise) ≡ true
        → In (record first { promise = cond b (record first.promise { outcome = Some outcome }) first.promise }) (first ∷ promises) × ((cond b (record first.promise { outcome = Some outcome }) first.promise).seq ≢ seq)
    by true is pending = cc
    by false is pending = (
      here,
      λ same. let k : true ≡ false = sym (ap (λ (b : Bool). b && is_pending first.promise) ((Decides-int_eq first.promise.seq seq).1 same) ∙ pending) ∙ is in cc,
    )
settled-other seq outcome (first ∷ promises) entry (there i) pending = let rest = settled-other seq outcome promises entry i pending in (there rest.0, rest.1)

-- one that is pending after others are rejected was there before
rejected-other : (test : Promise → Bool) (why : Reason) (promises : List PromiseEntry) (entry : PromiseEntry) → In entry (rejected test why promises) → is_pending entry.promise ≡ true → In entry promises
rejected-other test why [] entry i pending = elim i [ ]
rejected-other test why (first ∷ promises) entry here pending = by (passes test first) pending
  where
    by : (b : Bool) → is_pending (cond b (rejected_entry why first) first).promise ≡ true → In (cond b (rejected_entry why first) first) (first ∷ promises)
    by true pending = cc
    by false pending = here
rejected-other test why (first ∷ promises) entry (there i) pending = there (rejected-other test why promises entry i pending)

-- where numbers are distinct, the promise of a number is the one that is found
number-found : (promises : List PromiseEntry) (entry : PromiseEntry) → In entry promises → AreDistinct (map promise_seq promises) → find (λ (x : PromiseEntry). has_number entry.promise.seq x.promise) promises ≡ Some entry
number-found [] entry i distinct = elim i [ ]
number-found (first ∷ promises) entry here distinct = ap (λ (b : Bool). cond b (Some first) (find (λ (x : PromiseEntry). has_number first.promise.seq x.promise) promises)) ((Decides-int_eq first.promise.seq first.promise.seq).1 refl)
number-found (first ∷ promises) entry (there i) distinct = elim (cases_Bool (has_number entry.promise.seq first.promise)) [
  | inl same ↦ absurd (in-all (λ later. first.promise.seq ≢ later) (in-map promise_seq i) distinct.0 ((Decides-int_eq first.promise.seq entry.promise.seq).0 same))
  | inr other ↦ ap (λ (b : Bool). cond b (Some first) (find (λ (x : PromiseEntry). has_number entry.promise.seq x.promise) promises)) other ∙ number-found promises entry i distinct.1
]

pending-awaited : (promises : List PromiseEntry) (entry : PromiseEntry) → In entry promises → AreDistinct (map promise_seq promises) → is_pending entry.promise ≡ true → takes.is_awaited entry.promise.seq promises ≡ true
pending-awaited promises entry i distinct pending = ap (λ (found : Option PromiseEntry). option_map_or (λ (x : PromiseEntry). is_pending x.promise) found false) (number-found promises entry i distinct) ∙ pending

-- What an end keeps back for a promise, and what has come to it

-- The request that brings a resolver waits in the outbox, or its answer has arrived.
pub data IsAtAsker (outbox : List Message) (arrived : List Item) (r : Resolver) : Type 0 where
  held_back : (m : Message) → In m outbox → BringsResolver r m → IsAtAsker outbox arrived r
  come_back : (m : Message) (sync : Bool) (level : Level) → In (item.Message m sync level) arrived → AnswersFor r m → IsAtAsker outbox arrived r

-- The request is among packets.
pub record IsAsked (r : Resolver) (packets : List Packet) : Type 0 where
  pub request : Message
  pub sent : In (message request) packets
  pub brings : BringsResolver r request

asked-more : (r : Resolver) (ps qs : List Packet) → ((packet : Packet) → In packet ps → In packet qs) → IsAsked r ps → IsAsked r qs
asked-more r ps qs grow h = record { request = h.request; sent = grow (message h.request) h.sent; brings = h.brings }

abbrev pub IsAtOrAsked : End → List Packet → Resolver → Type 0
IsAtOrAsked f ps r = IsAtAsker f.outbox f.arrived r ⊎ IsAsked r ps

-- A promise that is pending after a part was there before, and what was at the end is still there, or the request is
-- sent; or the promise is new, and its request is kept back or sent.
pub data IsAskedBy (e : End) (ps : List Packet) (f : End) (entry : PromiseEntry) : Type 0 where
  before : In entry e.promises → (IsAtAsker e.outbox e.arrived (resolver_for entry) → IsAtOrAsked f ps (resolver_for entry)) → IsAskedBy e ps f entry
  anew : IsAtOrAsked f ps (resolver_for entry) → IsAskedBy e ps f entry

abbrev pub Asks : End → List Packet → End → Type 0
Asks e ps f = (entry : PromiseEntry) → In entry f.promises → is_pending entry.promise ≡ true → IsAskedBy e ps f entry

-- the outbox goes onto the link before a packet
put-asks : (outbox : List Message) (arrived : List Item) (packet : Packet) (r : Resolver) → IsAtAsker outbox arrived r → IsAtAsker [] arrived r ⊎ IsAsked r (map message outbox ++ packet ∷ [])
put-asks outbox arrived packet r (held_back m i brings) = inr (record { request = m; sent = in-before (packet ∷ []) (in-map message i); brings = brings })
put-asks outbox arrived packet r (come_back m sync level i answers) = inl (come_back m sync level i answers)

-- the same with an answer, if there is one
reply-asks : (b : Bool) (e f : End) (q : AnsweredRequest) (a : Answer) (r : Resolver) → f.outbox ≡ e.outbox → IsAtAsker f.outbox f.arrived r → IsAtOrAsked (end_after b f) (reply_packets b e q a) r
reply-asks true e f q a r same h = put-asks e.outbox f.arrived (Parts.reply_packet q a) r (subst (λ (ms : List Message). IsAtAsker ms f.arrived r) same h)
reply-asks false e f q a r same h = inl h

following-promises : (b : Bool) (e : End) (entry : PromiseEntry) → In entry (end_after b e).promises → In entry e.promises
following-promises true e entry i = i
following-promises false e entry i = i

following-outbox : (b : Bool) (e f : End) → f.outbox ≡ e.outbox → (end_after b f).outbox ≡ (end_after b e).outbox
following-outbox true e f same = refl
following-outbox false e f same = same

-- one part, and then another
chain-asks : (f g : End) (ps qs : List Packet) (r : Resolver) → IsAtOrAsked f ps r → (IsAtAsker f.outbox f.arrived r → IsAtOrAsked g qs r) → IsAtOrAsked g (ps ++ qs) r
chain-asks f g ps qs r (inr h) k = inr (asked-more r ps (ps ++ qs) (λ packet i. in-before qs i) h)
chain-asks f g ps qs r (inl h) k = elim (k h) [ inl at ↦ inl at | inr asked ↦ inr (asked-more r qs (ps ++ qs) (λ packet i. in-following ps i) asked) ]

asks-chain : (e f g : End) (ps qs : List Packet) → Asks e ps f → Asks f qs g → Asks e (ps ++ qs) g
asks-chain e f g ps qs a b entry i pending = by (b entry i pending)
  where
    first : (IsAtAsker f.outbox f.arrived (resolver_for entry) → IsAtOrAsked g qs (resolver_for entry)) → IsAskedBy e ps f entry → IsAskedBy e (ps ++ qs) g entry
    first k (before j h) = before j (λ at. chain-asks f g ps qs (resolver_for entry) (h at) k)
    first k (anew h) = anew (chain-asks f g ps qs (resolver_for entry) h k)

    by : IsAskedBy f qs g entry → IsAskedBy e (ps ++ qs) g entry
    by (before j k) = first k (a entry j pending)
    by (anew (inl h)) = anew (inl h)
    by (anew (inr h)) = anew (inr (asked-more (resolver_for entry) qs (ps ++ qs) (λ packet i. in-following ps i) h))

-- the following parts of a step leave the state as it is
later-state : {p q : Phase} {e f : End} {ws : List What} {ps : List Packet} → LaterPart p e ws ps f q → f.state ≡ e.state
later-state (Parts.unnames name may silent) = refl
later-state (Parts.lets_go name r may is open_is) = refl
later-state (Parts.names more actors) = refl
later-state (Parts.releases seq closed) = refl
later-state (Parts.keeps seq name r is not_closed) = refl
later-state (Parts.builds id protocol rest is built) = refl
later-state (Parts.deletes id cause) = refl
later-state (Parts.falls why cause) = refl

laters-state : {p q : Phase} {e f : End} {ws : List What} {ps : List Packet} → LaterParts p e ws ps f q → f.state ≡ e.state
laters-state Parts.done = refl
laters-state (Parts.then part rest) = laters-state rest ∙ later-state part

-- an item that is taken is not an answer to this request
left-asks : (e : End) (x : Item) (r : Resolver) → takes.taken_next e ≡ Some x → ((m : Message) (sync : Bool) (level : Level) → item.Message m sync level ≡ x → AnswersFor r m → ⊥) → IsAtAsker e.outbox e.arrived r → IsAtAsker e.outbox (left_end e).arrived r
left-asks e x r next other (held_back m i brings) = held_back m i brings
left-asks e x r next other (come_back m sync level i answers) = elim (in-taken e.arrived (left_end e).arrived x (item.Message m sync level) (taken-first e x next).taken i) [
  | inl same ↦ absurd (other m sync level same answers)
  | inr j ↦ come_back m sync level j answers
]

-- nor is a request
request-other : (r : Resolver) (taken : Message) (sync : Bool) (level : Level) (vs : Values) → taken.body ≡ Request vs → (m : Message) (own_sync : Bool) (own_level : Level) → item.Message m own_sync own_level ≡ item.Message taken sync level → AnswersFor r m → ⊥
request-other r taken sync level vs body m own_sync own_level same answers = let this : m ≡ taken = cc in not-answer vs answers.answer (sym body ∙ ap (λ (x : Message). x.body) (sym this) ∙ answers.body)

-- The reply to a message that makes promises has its row.
reply-found : (schema : Schema) → IsSound schema → (n : ℕ) (h : HasPromiseRow schema n) → message_of schema (n + 1) ≡ Some h.row
reply-found schema sound n h =
    reply-row schema sound n h.row (request-message schema n h.row h.found) (sound_schemas_have_sound_rows schema sound n h.row h.found).number
    (or_right (is_sync_row h.row) (is_some h.row.returns) (and-right (not (is_sync_row h.row)) (is_some h.row.returns) h.promised))

module _ (schema : Schema) (sound : IsSound schema) where
  -- What is known of an end that asks: its promises have rows, and distinct numbers.
  pub record IsAsker (e : End) : Type 0 where
    pub rows : PromisesHaveRows schema e
    pub distinct : AreDistinct (map promise_seq e.promises)

  -- a reply that comes too late is not for a pending promise
  late-other : (e : End) → IsAsker e → (entry : PromiseEntry) → In entry e.promises → is_pending entry.promise ≡ true → (taken : Message) (sync : Bool) (level : Level) → is_settling schema e taken ≡ false → (m : Message) (own_sync : Bool) (own_level : Level) → item.Message m own_sync own_level ≡ item.Message taken sync level → AnswersFor (resolver_for entry) m → ⊥
  late-other e asker entry i pending taken sync level late m own_sync own_level same answers =
      let this : m ≡ taken = cc in
      let row = reply-found schema sound entry.number (in-all (λ (x : PromiseEntry). HasPromiseRow schema x.number) i asker.rows) in
      let found : is_some (message_of schema taken.number) ≡ true = ap (λ (x : Message). is_some (message_of schema x.number)) (sym this) ∙ (ap (λ (n : ℕ). is_some (message_of schema n)) answers.number ∙ ap is_some row) in
      let awaited : takes.is_awaited taken.seq e.promises ≡ true = ap (λ (x : Message). takes.is_awaited x.seq e.promises) (sym this) ∙ (ap (λ (n : ℤ). takes.is_awaited n e.promises) answers.seq ∙ pending-awaited e.promises entry i asker.distinct pending) in
      let k : true ≡ false = sym (ap (λ (b : Bool). b && takes.is_awaited taken.seq e.promises) found ∙ awaited) ∙ late in
      cc

  -- a promise that a request makes
  promised-in : (b : Bool) (promises : List PromiseEntry) (m : Message) (entry : PromiseEntry) → In entry (cond b (promises ++ promise_for m ∷ []) promises) → In entry promises ⊎ (entry ≡ promise_for m)
  promised-in true promises m entry i = elim (in-append promises (promise_for m ∷ []) entry i) [
    | inl j ↦ inl j
    | inr j ↦ elim (in-cons [] (promise_for m) entry j) [ inl new ↦ inr new | inr k ↦ elim k [ ] ]
  ]
  promised-in false promises m entry i = inl i

  -- a request that is sent, lazy or not
  sent-asks : (lazy : Bool) (e : End) (m : Message) (r : Resolver) → IsAtAsker e.outbox e.arrived r → IsAtAsker (outbox_after lazy m e.outbox) e.arrived r ⊎ IsAsked r (request_packets lazy e m)
  sent-asks true e m r (held_back old i brings) = inl (held_back old (in-before (m ∷ []) i) brings)
  sent-asks true e m r (come_back old sync level i answers) = inl (come_back old sync level i answers)
  sent-asks false e m r h = put-asks e.outbox e.arrived (message m) r h

  new-asks : (lazy : Bool) (e : End) (m : Message) (r : Resolver) → BringsResolver r m → IsAtAsker (outbox_after lazy m e.outbox) e.arrived r ⊎ IsAsked r (request_packets lazy e m)
  new-asks true e m r brings = inl (held_back m (in-following e.outbox here) brings)
  new-asks false e m r brings = inr (record { request = m; sent = in-following (map message e.outbox) here; brings = brings })

  used-promises : (by : Answering) (e : End) (entry : PromiseEntry) → In entry (answers.without_resolver by e).promises → In entry e.promises
  used-promises (handled seq) e entry i = i
  used-promises (kept name number) e entry i = i

  used-arrived : (by : Answering) (e : End) → (answers.without_resolver by e).arrived ≡ e.arrived
  used-arrived (handled seq) e = refl
  used-arrived (kept name number) e = refl

  first-asks : {p : Phase} {e f : End} {ws : List What} {ps : List Packet} → FirstPart schema e ws ps f p → IsAsker e → is_open f.state ≡ true → Asks e ps f
  first-asks (Parts.refuses w is) asker opened entry i pending = before i (λ h. inl h)
  first-asks (Parts.renames w is) asker opened entry i pending = before i (λ h. inl h)
  first-asks {e} (Parts.flushes open_is) asker opened entry i pending = before i (from (resolver_for entry))
    where
      from : (r : Resolver) → IsAtAsker e.outbox e.arrived r → IsAtAsker [] e.arrived r ⊎ IsAsked r (map message e.outbox)
      from r (held_back m i brings) = inr (record { request = m; sent = in-map message i; brings = brings })
      from r (come_back m sync level i answers) = inl (come_back m sync level i answers)
  first-asks {e} (Parts.sends row route vs name sent) asker opened entry i pending =
      let m : Message = sends.request_of e row route vs in
      elim (promised-in (makes_promise row) e.promises m entry i) [
        | inl j ↦ before j (sent-asks row.lazy e m (resolver_for entry))
        | inr new ↦ anew (new-asks row.lazy e m (resolver_for entry) (subst (λ (x : PromiseEntry). BringsResolver (resolver_for x) m) (sym new) (record { values = vs; body = refl; seq = refl; route = refl; number = refl })))
      ]
  first-asks {e} (Parts.answers by vs r row found may ok is) asker opened entry i pending =
      let packet : Packet = message (reply_to (resolver_answered r) (answers.answer_body vs)) in
      before (used-promises by e entry i) (λ h. subst (λ (items : List Item). IsAtAsker [] items (resolver_for entry) ⊎ IsAsked (resolver_for entry) (after_outbox e packet)) (sym (used-arrived by e)) (put-asks e.outbox e.arrived packet (resolver_for entry) h))
  first-asks (Parts.closes open_is none) asker opened entry i pending = cc
  first-asks (Parts.dies open_is) asker opened entry i pending = cc
  first-asks (Parts.dies_silent open_is alive) asker opened entry i pending = cc
  first-asks {e} (Parts.takes m sync level row vs next body found stays) asker opened entry i pending =
      before i (λ h. inl (left-asks e (item.Message m sync level) (resolver_for entry) next (request-other (resolver_for entry) m sync level vs body) h))
  first-asks {e} (Parts.drops m sync level row vs id replies next body found gone is) asker opened entry i pending =
      before (following-promises replies (left_end e) entry i) (λ h. reply-asks replies e (left_end e) _ _ (resolver_for entry) refl (left-asks e (item.Message m sync level) (resolver_for entry) next (request-other (resolver_for entry) m sync level vs body) h))
  first-asks {e} (Parts.drops_unknown m sync level vs next body none) asker opened entry i pending =
      before i (λ h. inl (left-asks e (item.Message m sync level) (resolver_for entry) next (request-other (resolver_for entry) m sync level vs body) h))
  first-asks {e} (Parts.takes_reply m sync level a next body late) asker opened entry i pending =
      before i (λ h. inl (left-asks e (item.Message m sync level) (resolver_for entry) next (late-other e asker entry i pending m sync level late) h))
  first-asks {e} (Parts.settles m sync level row a next body found is) asker opened entry i pending =
      let other = settled-other m.seq _ e.promises entry i pending in
      before other.0 (λ h. inl (left-asks e (item.Message m sync level) (resolver_for entry) next
      (λ one own_sync own_level same answers. let this : one ≡ m = cc in other.1 (sym answers.seq ∙ ap (λ (x : Message). x.seq) this)) h))
  first-asks (Parts.shuts last next is) asker opened entry i pending = cc
  first-asks {e} (Parts.returns done row vs told lost returns t l) asker opened entry i pending =
      let off : End = record e { stack = drop 1 e.stack } in
      let q : AnsweredRequest = return.dispatch_answered done in
      let a : Answer = return.return_answer schema e row done vs in
      let kept_for : AnsweredRequest = resolver_answered (answers.resolver_in done) in
      let c : Answer = answer.Fault ResolverDestroyed in
      before (following-promises told off entry (following-promises lost (end_after told off) entry i))
      (λ h. chain-asks (end_after told off) (end_after lost (end_after told off)) (reply_packets told e q a) (reply_packets lost (end_after told e) kept_for c) (resolver_for entry)
      (reply-asks told e off q a (resolver_for entry) refl h) (λ k. reply-asks lost (end_after told e) (end_after told off) kept_for c (resolver_for entry) (following-outbox told e off refl) k))
  first-asks (Parts.resumes wait row on_top found) asker opened entry i pending = before i (λ h. inl h)

  later-asks : {p q : Phase} {e f : End} {ws : List What} {ps : List Packet} → LaterPart p e ws ps f q → Asks e ps f
  later-asks (Parts.unnames name may silent) entry i pending = before i (λ h. inl h)
  later-asks {e} (Parts.lets_go name r may is open_is) entry i pending = before i (λ h. put-asks e.outbox e.arrived _ (resolver_for entry) h)
  later-asks (Parts.names more actors) entry i pending = before i (λ h. inl h)
  later-asks (Parts.releases seq closed) entry i pending = before i (λ h. inl h)
  later-asks (Parts.keeps seq name r is not_closed) entry i pending = before i (λ h. inl h)
  later-asks (Parts.builds id protocol rest is built) entry i pending = before i (λ h. inl h)
  later-asks {e} (Parts.deletes id cause) entry i pending = before (rejected-other _ _ e.promises entry i pending) (λ h. inl h)
  later-asks {e} (Parts.falls why cause) entry i pending = before (rejected-other _ _ e.promises entry (rejected-other _ _ (abandoned_end e).promises entry i pending) pending) (λ h. inl h)

  laters-asks : {p q : Phase} {e f : End} {ws : List What} {ps : List Packet} → LaterParts p e ws ps f q → Asks e ps f
  laters-asks Parts.done = λ entry i pending. before i (λ h. inl h)
  laters-asks (Parts.then {e} {f} {g} {ps} {qs} part rest) = asks-chain e f g ps qs (later-asks part) (laters-asks rest)

  pub own-asks : {p : Phase} {e f : End} {ws : List What} {ps : List Packet} → OwnParts schema e ws ps f p → IsAsker e → is_open f.state ≡ true → Asks e ps f
  own-asks (Parts.begun {e} {f} {g} {ps} {qs} first rest over) asker opened = asks-chain e f g ps qs (first-asks first asker (ap is_open (sym (laters-state rest)) ∙ opened)) (laters-asks rest)

  -- Deliveries

  -- an answer stays while a request arrives
  staying-asks : (e : End) (items : List Item) (r : Resolver) → ((m : Message) (sync : Bool) (level : Level) → In (item.Message m sync level) e.arrived → AnswersFor r m → In (item.Message m sync level) items) → IsAtAsker e.outbox e.arrived r → IsAtAsker e.outbox items r
  staying-asks e items r stay (held_back m i brings) = held_back m i brings
  staying-asks e items r stay (come_back m sync level i answers) = come_back m sync level (stay m sync level i answers) answers

  -- a request is replaced, but no answer is
  replaced-other : (r : Resolver) (new : Item) (old : Message) (sync : Bool) (level : Level) → are_alike new (item.Message old sync level) ≡ true → (m : Message) (own_sync : Bool) (own_level : Level) → item.Message m own_sync own_level ≡ item.Message old sync level → AnswersFor r m → ⊥
  replaced-other r new old sync level alike m own_sync own_level same answers = by answers.answer (ap is_request_item same ∙ alike-request new (item.Message old sync level) alike) answers.body
    where
      by : (a : Answer) → is_request m.body ≡ true → m.body ≡ body_of a → ⊥
      by (answer.Ok vs) is body = let k : true ≡ false = sym is ∙ ap is_request body in cc
      by (answer.Fault reason) is body = let k : true ≡ false = sym is ∙ ap is_request body in cc

  pub delivery-asks : {packet : Packet} {p : Phase} {e f : End} {ws : List What} {ps : List Packet} → DeliveryPart schema packet e ws ps f p → is_open f.state ≡ true → Asks e ps f
  delivery-asks {e} (Parts.gets_request m row vs body found none) opened entry i pending =
      let new : Item = delivery.item_of row m in
      let stay : staying row.compress new e.arrived ≡ e.arrived = staying-all schema row new e.arrived (replaced row.compress new e.arrived) refl none in
      before i (λ h. inl (staying-asks e (staying row.compress new e.arrived ++ new ∷ []) (resolver_for entry) (λ one sync level j answers. in-before (new ∷ []) (subst (In (item.Message one sync level)) (sym stay) j)) h))
  delivery-asks {e} (Parts.replaces m row vs old sync level replies body found rep is) opened entry i pending =
      let new : Item = delivery.item_of row m in
      let next : End = delivery.counted row new e in
      let r : Replaces row.compress new e.arrived (item.Message old sync level) = replaced-taken row.compress new e.arrived (item.Message old sync level) rep in
      before (following-promises replies next entry i) (λ h. reply-asks replies e next _ _ (resolver_for entry) refl
      (staying-asks e next.arrived (resolver_for entry)
      (λ one own_sync own_level j answers. elim (in-taken e.arrived (staying row.compress new e.arrived) (item.Message old sync level) (item.Message one own_sync own_level) r.taken j) [
        | inl same ↦ absurd (replaced-other (resolver_for entry) new old sync level r.alike one own_sync own_level same answers)
        | inr k ↦ in-before (new ∷ []) k
      ]) h))
  delivery-asks (Parts.gets_answer m row a body found sync) opened entry i pending = before i (λ h. inl h)
  delivery-asks {e} (Parts.gets_reply m row a body found async) opened entry i pending =
      before i (λ h. inl (staying-asks e (e.arrived ++ delivery.item_of row m ∷ []) (resolver_for entry) (λ one sync level j answers. in-before (delivery.item_of row m ∷ []) j) h))
  delivery-asks (Parts.drains packet is) opened entry i pending = cc
  delivery-asks (Parts.passes_by m ordinary none) opened entry i pending = before i (λ h. inl h)

  -- the answer of a resolver arrives
  pub delivery-answers : {m : Message} {p : Phase} {e f : End} {ws : List What} {ps : List Packet} → DeliveryPart schema (message m) e ws ps f p → (r : Resolver) → HasPromiseRow schema r.number → AnswersFor r m → is_open f.state ≡ true → IsAtAsker f.outbox f.arrived r
  delivery-answers (Parts.gets_request m row vs body found none) r own answers opened = absurd (not-answer vs answers.answer (sym body ∙ answers.body))
  delivery-answers (Parts.replaces m row vs old sync level replies body found rep is) r own answers opened = absurd (not-answer vs answers.answer (sym body ∙ answers.body))
  delivery-answers (Parts.gets_answer m row a body found sync) r own answers opened =
      let same : own.row ≡ row = same_Some own.row row (sym (reply-found schema sound r.number own) ∙ (ap (message_of schema) (sym answers.number) ∙ found)) in
      let async : is_sync_row own.row ≡ false = not-true (is_sync_row own.row) (and-left (not (is_sync_row own.row)) (is_some own.row.returns) own.promised) in
      let k : true ≡ false = sym sync ∙ (ap is_sync_row (sym same) ∙ async) in
      cc
  delivery-answers {e} (Parts.gets_reply m row a body found async) r own answers opened = come_back m (is_sync_row row) row.level (in-following e.arrived here) answers
  delivery-answers (Parts.drains packet is) r own answers opened = cc
  delivery-answers (Parts.passes_by m ordinary none) r own answers opened =
      let k : None ≡ Some own.row = sym none ∙ (ap (message_of schema) answers.number ∙ reply-found schema sound r.number own) in cc
