-- Each part of a step keeps the reading of arrivals.
use Rattle.std.proofs.Common.{◌≡◌, ℕ, ◌+◌, ℤ, Bool, true, false, ◌&&◌, if◌then◌else◌, List, [], ◌∷◌, ◌++◌, drop, map, Option, Some, None, refl, sym, ap, subst, ◌∙◌}
use Rattle.std.proofs.lemmas.Option.{same_Some}
use Rattle.ipdl_base.specs.declared.kinds.Level.{Level}
use Rattle.ipdl_base.specs.declared.kinds.Reason.TheVariants.{ActorDestroyed, ResolverDestroyed}
use Rattle.ipdl_base.specs.declared.line.What.{What}
use Rattle.ipdl_base.specs.declared.line.What.TheVariants as what
use Rattle.ipdl_base.specs.declared.message.Body.{Body}
use Rattle.ipdl_base.specs.declared.message.Body.TheVariants.{Request, Reply, Fault, Goodbye}
use Rattle.ipdl_base.specs.declared.message.Message.{Message}
use Rattle.ipdl_base.specs.declared.schema.MessageRow.{MessageRow}
use Rattle.ipdl_base.specs.declared.schema.Schema.{Schema}
use Rattle.ipdl_base.specs.declared.value.Values.{Values}
use Rattle.ipdl_base.specs.Sound.{message_of}
use Rattle.nesting_core.specs.declared.frame.Answer.{Answer}
use Rattle.nesting_core.specs.declared.frame.Answer.TheVariants as answer
use Rattle.nesting_core.specs.Frames.{head_of}
use Rattle.nesting_core.specs.Top.{top_of}
use Rattle.pending_queue.specs.declared.item.Item.{Item}
use Rattle.pending_queue.specs.declared.item.Item.TheVariants as item
use Rattle.pending_queue.specs.Compression.{is_request, replaced, staying}
use Rattle.pending_queue.specs.DeferralContext.{is_free}
use Rattle.promise_table.specs.declared.promise.Outcome.{Outcome}
use Rattle.channel_model.specs.Answers as answering
use Rattle.channel_model.specs.Deliveries as delivery
use Rattle.channel_model.specs.Ends.{End, Packet, message, mark}
use Rattle.channel_model.specs.Events.{Answering, handled, kept}
use Rattle.channel_model.specs.Falls as fall
use Rattle.ipdl_base.specs.Sides.{top_id}
use Rattle.channel_model.specs.Numbers.{is_sync_row}
use Rattle.channel_model.specs.Outputs.{request_answered, resolver_answered, body_of}
use Rattle.channel_model.specs.Parts
use Rattle.channel_model.specs.Parts.{FirstPart, LaterPart, DeliveryPart, IsRefusal, IsRenaming, IsNoMessage, end_after, reply_lines, fall_lines, farewell_item, farewell_line, shut_line, left_end, reply_outcome}
use Rattle.channel_model.specs.Phases.{Phase}
use Rattle.channel_model.specs.Refusals.{expected_seq}
use Rattle.channel_model.specs.Returns as return
use Rattle.channel_model.specs.Sends as send
use Rattle.channel_model.specs.States.{is_goodbye, is_farewell}
use Rattle.channel_model.specs.Takes as take
use Rattle.channel_model.specs.ValueActors.{received}
use Rattle.channel_model.proofs.Known.{all-append}
use Rattle.history_reading.specs.declared.parts.PacketKind.{PacketKind}
use Rattle.history_reading.specs.declared.parts.PacketKind.TheVariants as kind
use Rattle.history_reading.specs.EndReading.{EndReading, is_sync_request}
use Rattle.history_reading.specs.Numbers.{same_packet}
use Rattle.history_reading.specs.Reading as reads
use Rattle.history_reading.specs.Reading.{after_what}
use Rattle.channel_laws.specs.Arrivals.{item_kind, ArrivalReading, arrival_reading, IsAsyncReply, IsNoSyncReply, HasArrivals, ArrivalsAreRead, IsDueBody, IsDueMessage, IsDue}
use Rattle.channel_laws.specs.Delivered.{body_kind}
use Rattle.channel_laws.specs.Tested.{after_whats}
use Rattle.channel_laws.proofs.Arriving.{arriving, delivering, request-arrives, other-arrives, reply-delivered, nothing-arrived, Leaves, request-goes, request-replaced, reply-leaves, request-alone, reply-alone, request-kind, reply-kind}
use Rattle.channel_laws.proofs.EffectLines.{IsEffectLine, AreEffectLines, built, answers_ok, answers_fault, fails, resolved, rejected, fell, reply-effects, fall-effects, closing-effects, fail-effects, settle-effect, effects-leave}
use Rattle.channel_laws.proofs.Leaving.{TakenFrom, taken-before, FirstTaken, first-taken}
use Rattle.channel_laws.proofs.Replacing.{replaced-taken, none-replaced, alike-request}

-- Lines

one-left : (schema : Schema) (place : ℕ) (w : What) (own : EndReading) → IsEffectLine w → arrival_reading (after_what schema place w own) ≡ arrival_reading own
one-left schema place w own (built id protocol) = refl
one-left schema place w own (answers_ok n vs) = refl
one-left schema place w own (answers_fault n reason) = refl
one-left schema place w own (fails n) = refl
one-left schema place w own (resolved n vs) = refl
one-left schema place w own (rejected n reason) = refl
one-left schema place w own (fell id why) = refl

-- effects leave the arrivals
effects-kept : (schema : Schema) (place : ℕ) (ws : List What) (e : End) (own : EndReading) → AreEffectLines ws → ArrivalsAreRead e own → ArrivalsAreRead e (after_whats schema place ws own)
effects-kept schema place ws e own effects h = subst (HasArrivals e.side e.arrived e.delivered) (sym (effects-leave arrival_reading schema (one-left schema) place ws own effects)) h

refusal-left : (schema : Schema) (place : ℕ) (w : What) (own : EndReading) → IsRefusal schema w → arrival_reading (after_what schema place w own) ≡ arrival_reading own
refusal-left schema place (what.RefusedSend cause number) own is = refl
refusal-left schema place (what.RefusedClose cause) own is = refl
refusal-left schema place (what.RefusedResolve cause) own is = refl
refusal-left schema place (what.RefusedReject cause) own is = refl
refusal-left schema place _ own is = absurd is

renaming-left : (schema : Schema) (place : ℕ) (w : What) (own : EndReading) → IsRenaming w → arrival_reading (after_what schema place w own) ≡ arrival_reading own
renaming-left schema place (what.Keep n name) own is = refl
renaming-left schema place (what.Let name id) own is = refl
renaming-left schema place _ own is = absurd is

send-left : (schema : Schema) (place : ℕ) (b : Bool) (m : Message) (vs : Values) (own : EndReading) → arrival_reading (after_what schema place (if b then what.Call m.seq m.transaction m.route m.number vs else what.Send m.seq m.route m.number vs) own) ≡ arrival_reading own
send-left schema place true m vs own = refl
send-left schema place false m vs own = refl

answering-left : (schema : Schema) (place : ℕ) (n : ℤ) (vs : Option Values) (own : EndReading) → arrival_reading (after_what schema place (answering.answering_line n vs) own) ≡ arrival_reading own
answering-left schema place n None own = refl
answering-left schema place n (Some vs) own = refl

resume-left : (schema : Schema) (place : ℕ) (n : ℤ) (a : Answer) (own : EndReading) → arrival_reading (after_what schema place (return.resume_line n a) own) ≡ arrival_reading own
resume-left schema place n (answer.Ok vs) own = refl
resume-left schema place n (answer.Fault reason) own = refl

shut-left : (schema : Schema) (place : ℕ) (last : Item) (own : EndReading) → arrival_reading (after_what schema place (shut_line last) own) ≡ record (arrival_reading own) { arrived = [] }
shut-left schema place (item.Message m sync level) own = refl
shut-left schema place item.Broken own = refl

farewell-left : (schema : Schema) (place : ℕ) (packet : Packet) (own : EndReading) → is_farewell (farewell_item packet) ≡ true → arrival_reading (after_what schema place (farewell_line packet) own) ≡ arriving (item_kind (farewell_item packet)) (arrival_reading own)
farewell-left schema place (message m) own is = by m.body is
  where
    by : (body : Body) → is_goodbye body ≡ true → arriving kind.Goodbye (arrival_reading own) ≡ arriving (body_kind m.seq body) (arrival_reading own)
    by (Request vs) is = cc
    by (Reply vs) is = cc
    by (Fault reason) is = cc
    by Goodbye is = refl
farewell-left schema place mark own is = refl

-- a reply to a sync request does not arrive, and any other does
reply-left : (n : ℤ) (own : EndReading) (sync : Bool) → is_sync_request own n ≡ sync → arrival_reading (reads.quiet (reads.replying n own)) ≡ (if sync then delivering (kind.Reply n) (arrival_reading own) else arriving (kind.Reply n) (arrival_reading own))
reply-left n own true is = ap (λ (b : Bool). arrival_reading (reads.quiet (if b then reads.answering n (reads.delivering (kind.Reply n) own) else reads.arriving (kind.Reply n) own))) is
reply-left n own false is = ap (λ (b : Bool). arrival_reading (reads.quiet (if b then reads.answering n (reads.delivering (kind.Reply n) own) else reads.arriving (kind.Reply n) own))) is

-- Ends

-- the same arrivals at another end
abbrev SameArrivals : End → End → Type 0
SameArrivals f e = (f.side ≡ e.side) × (f.arrived ≡ e.arrived) × (f.delivered ≡ e.delivered)

same-kept : (f e : End) (own : EndReading) → SameArrivals f e → ArrivalsAreRead e own → ArrivalsAreRead f own
same-kept f e own same h =
    subst (λ (s : _). HasArrivals s f.arrived f.delivered (arrival_reading own)) (sym same.0)
    (subst (λ (xs : List Item). HasArrivals e.side xs f.delivered (arrival_reading own)) (sym same.1)
    (subst (λ (n : ℕ). HasArrivals e.side e.arrived n (arrival_reading own)) (sym same.2) h))

following-same : (b : Bool) (e : End) → SameArrivals (end_after b e) e
following-same true e = (refl, refl, refl)
following-same false e = (refl, refl, refl)

without-same : (by : Answering) (e : End) → SameArrivals (answering.without_resolver by e) e
without-same (handled seq) e = (refl, refl, refl)
without-same (kept name number) e = (refl, refl, refl)

following-kept : (b : Bool) (e : End) (own : EndReading) → ArrivalsAreRead e own → ArrivalsAreRead (end_after b e) own
following-kept b e own h = same-kept (end_after b e) e own (following-same b e) h

-- What is taken

next-case : (b : Bool) (found : Option Item) (x : Item) → (if b then found else None) ≡ Some x → found ≡ Some x
next-case true found x e = e
next-case false found x e = cc

-- the item that is taken is the first that is free
pub taken-first : (e : End) (x : Item) → take.taken_next e ≡ Some x → FirstTaken (is_free (take.deferral_context_of e)) e.arrived x
taken-first e x next = first-taken (is_free (take.deferral_context_of e)) e.arrived x (next-case (take.takes_in_state e.state && take.takes_under (top_of (send.frames_of e))) (take.first_free e) x next)

pub request-leaves : (e : End) (own : EndReading) (m : Message) (sync : Bool) (level : Level) (vs : Values) → ArrivalsAreRead e own → take.taken_next e ≡ Some (item.Message m sync level) → m.body ≡ Request vs → Leaves e.arrived (left_end e).arrived (item.Message m sync level) (kind.Request m.seq)
request-leaves e own m sync level vs h next body =
    let x : Item = item.Message m sync level in
    let f = taken-first e x next in
    let shows : item_kind x ≡ kind.Request m.seq = request-kind m.seq vs m.body body in
    record { taken = f.taken; shows = shows; others = request-alone e.side e.arrived (left_end e).arrived e.delivered (arrival_reading own) x m.seq h f.taken shows }

pub reply-is-taken : (e : End) (own : EndReading) (m : Message) (sync : Bool) (level : Level) (a : Answer) → ArrivalsAreRead e own → take.taken_next e ≡ Some (item.Message m sync level) → m.body ≡ body_of a → Leaves e.arrived (left_end e).arrived (item.Message m sync level) (kind.Reply m.seq)
reply-is-taken e own m sync level a h next body =
    let x : Item = item.Message m sync level in
    let f = taken-first e x next in
    record { taken = f.taken; shows = reply-kind m.seq a m.body body; others = reply-alone (take.deferral_context_of e) e.arrived m sync level a f h.async body }

-- Parts

module _ (schema : Schema) where
  pub first-keeps-arrivals : {e f : End} {ws : List What} {ps : List Packet} {q : Phase} (place : ℕ) (own : EndReading) → FirstPart schema e ws ps f q → ArrivalsAreRead e own → ArrivalsAreRead f (after_whats schema place ws own)
  first-keeps-arrivals {e} place own (Parts.refuses w is) h = subst (HasArrivals e.side e.arrived e.delivered) (sym (refusal-left schema place w own is)) h
  first-keeps-arrivals {e} place own (Parts.renames w is) h = subst (HasArrivals e.side e.arrived e.delivered) (sym (renaming-left schema place w own is)) h
  first-keeps-arrivals place own (Parts.flushes o) h = h
  first-keeps-arrivals {e} place own (Parts.sends row route vs name sent) h = subst (HasArrivals e.side e.arrived e.delivered) (sym (send-left schema place (is_sync_row row) (send.request_of e row route vs) vs own)) h
  first-keeps-arrivals {e} place own (Parts.answers by vs r row found may ok used) h =
      same-kept (record (answering.without_resolver by e) { outbox = [] }) e (after_what schema place (answering.answering_line r.seq vs) own) (without-same by e)
      (subst (HasArrivals e.side e.arrived e.delivered) (sym (answering-left schema place r.seq vs own)) h)
  first-keeps-arrivals {e} place own (Parts.closes o waits) h = nothing-arrived e.side e.arrived e.delivered (arrival_reading own) h
  first-keeps-arrivals {e} place own (Parts.dies o) h = nothing-arrived e.side e.arrived e.delivered (arrival_reading own) h
  first-keeps-arrivals {e} place own (Parts.dies_silent o alive) h = nothing-arrived e.side e.arrived e.delivered (arrival_reading own) h
  first-keeps-arrivals {e} place own (Parts.takes m sync level row vs next body found stays) h =
      request-goes e.side e.arrived (left_end e).arrived e.delivered (arrival_reading own) (item.Message m sync level) m.seq h (request-leaves e own m sync level vs h next body)
  first-keeps-arrivals {e} place own (Parts.drops m sync level row vs id replies next body found gone is) h =
      effects-kept schema (place + 1) (reply_lines replies (request_answered m) (answer.Fault ActorDestroyed)) (end_after replies (left_end e)) (after_what schema place (what.Drop m.seq m.route m.number id) own)
      (reply-effects replies (request_answered m) (answer.Fault ActorDestroyed))
      (following-kept replies (left_end e) (after_what schema place (what.Drop m.seq m.route m.number id) own)
      (request-goes e.side e.arrived (left_end e).arrived e.delivered (arrival_reading own) (item.Message m sync level) m.seq h (request-leaves e own m sync level vs h next body)))
  first-keeps-arrivals {e} place own (Parts.drops_unknown m sync level vs next body found) h =
      request-goes e.side e.arrived (left_end e).arrived e.delivered (arrival_reading own) (item.Message m sync level) m.seq h (request-leaves e own m sync level vs h next body)
  first-keeps-arrivals {e} place own (Parts.takes_reply m sync level a next body late) h =
      reply-leaves e.side e.arrived (left_end e).arrived e.delivered (arrival_reading own) (item.Message m sync level) m.seq h (reply-is-taken e own m sync level a h next body)
  first-keeps-arrivals {e} place own (Parts.settles m sync level row a next body found awaited) h =
      let outcome : Outcome = reply_outcome schema e row a in
      effects-kept schema (place + 1) (take.settle_line m.seq outcome ∷ []) (left_end e) (after_what schema place (what.TakeReply m.seq) own) (settle-effect m.seq outcome, tt)
      (reply-leaves e.side e.arrived (left_end e).arrived e.delivered (arrival_reading own) (item.Message m sync level) m.seq h (reply-is-taken e own m sync level a h next body))
  first-keeps-arrivals {e} place own (Parts.shuts last next is) h = subst (HasArrivals e.side [] e.delivered) (sym (shut-left schema place last own)) (nothing-arrived e.side e.arrived e.delivered (arrival_reading own) h)
  first-keeps-arrivals {e} place own (Parts.returns entry row vs told lost may t l) h =
      let ls : List What = reply_lines told (return.dispatch_answered entry) (return.return_answer schema e row entry vs) in
      let ms : List What = reply_lines lost (resolver_answered (answering.resolver_in entry)) (answer.Fault ResolverDestroyed) in
      let popped : End = record e { stack = drop 1 e.stack } in
      let next : EndReading = after_what schema place (what.Return (head_of entry.frame).seq) own in
      effects-kept schema (place + 1) (ls ++ ms) (end_after lost (end_after told popped)) next
      (all-append IsEffectLine ls ms (reply-effects told (return.dispatch_answered entry) (return.return_answer schema e row entry vs)) (reply-effects lost (resolver_answered (answering.resolver_in entry)) (answer.Fault ResolverDestroyed)))
      (following-kept lost (end_after told popped) next (following-kept told popped next h))
  first-keeps-arrivals {e} place own (Parts.resumes wait row on_top found) h = subst (HasArrivals e.side e.arrived e.delivered) (sym (resume-left schema place wait.seq (received schema e.actors row wait.given) own)) h

  pub later-keeps-arrivals : {p q : Phase} {e f : End} {ws : List What} {ps : List Packet} (place : ℕ) (own : EndReading) → LaterPart p e ws ps f q → ArrivalsAreRead e own → ArrivalsAreRead f (after_whats schema place ws own)
  later-keeps-arrivals place own (Parts.unnames name may silent) h = h
  later-keeps-arrivals place own (Parts.lets_go name r may held o) h = h
  later-keeps-arrivals place own (Parts.names more holds) h = h
  later-keeps-arrivals place own (Parts.releases seq is) h = h
  later-keeps-arrivals place own (Parts.keeps seq name r is o) h = h
  later-keeps-arrivals place own (Parts.builds id protocol rest fresh alive) h = h
  later-keeps-arrivals {e} place own (Parts.deletes id is) h = effects-kept schema place (fall_lines id (fall.why_deleted id) e) e own (fall-effects id (fall.why_deleted id) e) h
  later-keeps-arrivals {e} place own (Parts.falls why is) h = effects-kept schema place (Parts.abandoned_lines e ++ fall_lines top_id (λ id. why) (Parts.abandoned_end e)) e own (closing-effects why e) h

  -- the conditions for a request, and for a reply, to be due
  due-row : (e : End) (own : EndReading) (m : Message) (row : MessageRow) (body : Body) → message_of schema m.number ≡ Some row → IsDueMessage schema e own m body → m.body ≡ body → IsDueBody e own m (is_sync_row row) body
  due-row e own m row (Request vs) found due is = let same : due.0 ≡ row = same_Some due.0 row (sym due.1 ∙ found) in subst (IsDueBody e own m (is_sync_row row)) is (subst (λ (r : MessageRow). IsDueBody e own m (is_sync_row r) m.body) same due.2)
  due-row e own m row (Reply vs) found due is = let same : due.0 ≡ row = same_Some due.0 row (sym due.1 ∙ found) in subst (IsDueBody e own m (is_sync_row row)) is (subst (λ (r : MessageRow). IsDueBody e own m (is_sync_row r) m.body) same due.2)
  due-row e own m row (Fault reason) found due is = let same : due.0 ≡ row = same_Some due.0 row (sym due.1 ∙ found) in subst (IsDueBody e own m (is_sync_row row)) is (subst (λ (r : MessageRow). IsDueBody e own m (is_sync_row r) m.body) same due.2)
  due-row e own m row Goodbye found due is = tt

  pub request-due : (e : End) (own : EndReading) (m : Message) (row : MessageRow) (vs : Values) → m.body ≡ Request vs → message_of schema m.number ≡ Some row → IsDue schema e own (message m) → m.seq ≡ expected_seq e
  request-due e own m row vs body found due = due-row e own m row (Request vs) found (subst (IsDueMessage schema e own m) body due) body

  reply-due : (e : End) (own : EndReading) (m : Message) (row : MessageRow) (a : Answer) → m.body ≡ body_of a → message_of schema m.number ≡ Some row → IsDue schema e own (message m) → is_sync_request own m.seq ≡ is_sync_row row
  reply-due e own m row (answer.Ok vs) body found due = due-row e own m row (Reply vs) found (subst (IsDueMessage schema e own m) body due) body
  reply-due e own m row (answer.Fault reason) body found due = due-row e own m row (Fault reason) found (subst (IsDueMessage schema e own m) body due) body

  unknown-absurd : (e : End) (own : EndReading) (m : Message) (body : Body) → is_goodbye body ≡ false → message_of schema m.number ≡ None → IsDueMessage schema e own m body → ⊥
  unknown-absurd e own m (Request vs) is found due = none-some due.0 (sym found ∙ due.1)
    where
      none-some : (row : MessageRow) → None ≡ Some row → ⊥
      none-some row e = cc
  unknown-absurd e own m (Reply vs) is found due = none-some due.0 (sym found ∙ due.1)
    where
      none-some : (row : MessageRow) → None ≡ Some row → ⊥
      none-some row e = cc
  unknown-absurd e own m (Fault reason) is found due = none-some due.0 (sym found ∙ due.1)
    where
      none-some : (row : MessageRow) → None ≡ Some row → ⊥
      none-some row e = cc
  unknown-absurd e own m Goodbye is found due = cc

  request-async : (sync : Bool) (vs : Values) (body : Body) → body ≡ Request vs → IsAsyncReply sync body
  request-async sync vs body is = subst (IsAsyncReply sync) (sym is) tt

  reply-async : (sync : Bool) (a : Answer) (body : Body) → sync ≡ false → body ≡ body_of a → IsAsyncReply sync body
  reply-async sync (answer.Ok vs) body none is = subst (IsAsyncReply sync) (sym is) none
  reply-async sync (answer.Fault reason) body none is = subst (IsAsyncReply sync) (sym is) none

  farewell-async : (packet : Packet) → is_farewell (farewell_item packet) ≡ true → IsNoSyncReply (farewell_item packet)
  farewell-async (message m) is = by m.body is
    where
      by : (body : Body) → is_goodbye body ≡ true → IsAsyncReply false body
      by (Request vs) is = cc
      by (Reply vs) is = cc
      by (Fault reason) is = cc
      by Goodbye is = tt
  farewell-async mark is = tt

  pub farewell-other : (packet : Packet) → is_farewell (farewell_item packet) ≡ true → (n : ℤ) → same_packet (item_kind (farewell_item packet)) (kind.Request n) ≡ false
  farewell-other (message m) is n = by m.body is
    where
      by : (body : Body) → is_goodbye body ≡ true → same_packet (body_kind m.seq body) (kind.Request n) ≡ false
      by (Request vs) is = cc
      by (Reply vs) is = cc
      by (Fault reason) is = cc
      by Goodbye is = refl
  farewell-other mark is n = refl

  -- if a request replaces no other, all stay
  pub staying-all : (row : MessageRow) (new : Item) (items : List Item) (old : Option Item) → replaced row.compress new items ≡ old → IsNoMessage old → staying row.compress new items ≡ items
  staying-all row new items None is none = none-replaced row.compress new items is
  staying-all row new items (Some item.Broken) is none = let r = replaced-taken row.compress new items item.Broken is in absurd (no-mark (alike-request new item.Broken r.alike))
    where
      no-mark : false ≡ true → ⊥
      no-mark e = cc
  staying-all row new items (Some (item.Message m sync level)) is none = absurd none

  pub request-shown : (seq : ℤ) (body : Body) → is_request body ≡ true → body_kind seq body ≡ kind.Request seq
  request-shown seq (Request vs) is = refl
  request-shown seq (Reply vs) is = cc
  request-shown seq (Fault reason) is = cc
  request-shown seq Goodbye is = cc

  -- a request arrives after items that stay
  counted-kept : (e : End) (row : MessageRow) (m : Message) (vs : Values) (items : List Item) (a : ArrivalReading) → m.body ≡ Request vs → m.seq ≡ expected_seq e → HasArrivals e.side items e.delivered a → HasArrivals e.side (items ++ delivery.item_of row m ∷ []) (e.delivered + 1) (arriving (kind.Request m.seq) a)
  counted-kept e row m vs items a body is h =
      let shows : item_kind (delivery.item_of row m) ≡ kind.Request m.seq = request-kind m.seq vs m.body body in
      subst (λ (p : PacketKind). HasArrivals e.side (items ++ delivery.item_of row m ∷ []) (e.delivered + 1) (arriving p a)) shows
      (request-arrives e.side items e.delivered a (delivery.item_of row m) m.seq h (request-async (is_sync_row row) vs m.body body) shows is)

  pub delivery-keeps-arrivals : {packet : Packet} {e f : End} {ws : List What} {ps : List Packet} {q : Phase} (place : ℕ) (own : EndReading) → DeliveryPart schema packet e ws ps f q → IsDue schema e own packet → ArrivalsAreRead e own → ArrivalsAreRead f (after_whats schema place ws own)
  delivery-keeps-arrivals {e} place own (Parts.gets_request m row vs body found none) due h =
      let new : Item = delivery.item_of row m in
      subst (λ (items : List Item). HasArrivals e.side (items ++ new ∷ []) (e.delivered + 1) (arriving (kind.Request m.seq) (arrival_reading own))) (sym (staying-all row new e.arrived (replaced row.compress new e.arrived) refl none))
      (counted-kept e row m vs e.arrived (arrival_reading own) body (request-due e own m row vs body found due) h)
  delivery-keeps-arrivals {e} place own (Parts.replaces m row vs old sync level replies body found is told) due h =
      let new : Item = delivery.item_of row m in
      let next : End = delivery.counted row new e in
      let ls : List What = reply_lines replies (request_answered old) (answer.Fault ResolverDestroyed) in
      let place_of : ℕ = place + 1 in
      let got : EndReading = after_what schema place (what.DeliverRequest m.seq) own in
      let lost : EndReading = after_what schema place_of (what.Replaced old.seq) got in
      let r = replaced-taken row.compress new e.arrived (item.Message old sync level) is in
      let t : TakenFrom (e.arrived ++ new ∷ []) next.arrived (item.Message old sync level) = taken-before e.arrived (staying row.compress new e.arrived) (new ∷ []) (item.Message old sync level) r.taken in
      let h1 : HasArrivals e.side (e.arrived ++ new ∷ []) (e.delivered + 1) (arrival_reading got) = counted-kept e row m vs e.arrived (arrival_reading own) body (request-due e own m row vs body found due) h in
      let shows : item_kind (item.Message old sync level) ≡ kind.Request old.seq = request-shown old.seq old.body (alike-request new (item.Message old sync level) r.alike) in
      effects-kept schema (place_of + 1) ls (end_after replies next) lost (reply-effects replies (request_answered old) (answer.Fault ResolverDestroyed))
      (following-kept replies next lost
      (request-replaced e.side (e.arrived ++ new ∷ []) next.arrived (e.delivered + 1) (arrival_reading got) (item.Message old sync level) old.seq h1
      (record { taken = t; shows = shows; others = request-alone e.side (e.arrived ++ new ∷ []) next.arrived (e.delivered + 1) (arrival_reading got) (item.Message old sync level) old.seq h1 t shows })))
  delivery-keeps-arrivals {e} place own (Parts.gets_answer m row a body found is) due h =
      subst (HasArrivals e.side e.arrived e.delivered) (sym (reply-left m.seq own true (reply-due e own m row a body found due ∙ is))) (reply-delivered e.side e.arrived e.delivered (arrival_reading own) m.seq h)
  delivery-keeps-arrivals {e} place own (Parts.gets_reply m row a body found is) due h =
      let new : Item = delivery.item_of row m in
      let shows : item_kind new ≡ kind.Reply m.seq = reply-kind m.seq a m.body body in
      subst (HasArrivals e.side (e.arrived ++ new ∷ []) e.delivered) (sym (reply-left m.seq own false (reply-due e own m row a body found due ∙ is)))
      (subst (λ (p : PacketKind). HasArrivals e.side (e.arrived ++ new ∷ []) e.delivered (arriving p (arrival_reading own))) shows
      (other-arrives e.side e.arrived e.delivered (arrival_reading own) new h (reply-async (is_sync_row row) a m.body is body) (λ n. ap (λ (p : PacketKind). same_packet p (kind.Request n)) shows)))
  delivery-keeps-arrivals {e} place own (Parts.drains packet is) due h =
      let last : Item = farewell_item packet in
      effects-kept schema (place + 1) (map what.Fails (delivery.unanswered e)) (Parts.drained_end last e) (after_what schema place (farewell_line packet) own) (fail-effects (delivery.unanswered e))
      (subst (HasArrivals e.side (e.arrived ++ last ∷ []) e.delivered) (sym (farewell-left schema place packet own is))
      (other-arrives e.side e.arrived e.delivered (arrival_reading own) last h (farewell-async packet is) (farewell-other packet is)))
  delivery-keeps-arrivals {e} place own (Parts.passes_by m is found) due h = absurd (unknown-absurd e own m m.body is found due)
