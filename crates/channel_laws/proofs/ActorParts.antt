-- What the first part of an event, and the part of a delivery, show of actors.
use Rattle.std.proofs.Common.{◌≡◌, ◌⊎◌, inl, inr, ℕ, ◌+◌, ℤ, Bool, true, false, cond, if◌then◌else◌, List, [], ◌∷◌, ◌++◌, drop, map, Option, Some, None, refl, sym, ap, subst, ◌∙◌}
use Rattle.std.specs.List.{AllByRecursion}
use Rattle.std.specs.Option.{option_map_or}
use Rattle.std.proofs.lemmas.Option.{same_Some}
use Rattle.ipdl_base.specs.declared.kinds.EndState.TheVariants.{Dead}
use Rattle.ipdl_base.specs.declared.kinds.Reason.TheVariants.{ActorDestroyed, ResolverDestroyed}
use Rattle.ipdl_base.specs.declared.line.What.{What}
use Rattle.ipdl_base.specs.declared.line.What.TheVariants as what
use Rattle.ipdl_base.specs.declared.message.Body.{Body}
use Rattle.ipdl_base.specs.declared.message.Body.TheVariants.{Request, Reply, Fault, Goodbye}
use Rattle.ipdl_base.specs.declared.message.Message.{Message}
use Rattle.ipdl_base.specs.declared.schema.Kind.{Kind}
use Rattle.ipdl_base.specs.declared.schema.Kind.TheVariants.{Normal, Constructor, Delete}
use Rattle.ipdl_base.specs.declared.schema.MessageRow.{MessageRow}
use Rattle.ipdl_base.specs.declared.schema.Schema.{Schema}
use Rattle.ipdl_base.specs.declared.value.Values.{Values}
use Rattle.ipdl_base.specs.Sound.{message_of}
use Rattle.nesting_core.specs.declared.frame.Answer.{Answer}
use Rattle.nesting_core.specs.declared.frame.Answer.TheVariants as answer
use Rattle.nesting_core.specs.declared.frame.StackFrame.{StackFrame}
use Rattle.nesting_core.specs.declared.frame.StackFrame.TheVariants.{Dispatch, Wait}
use Rattle.nesting_core.specs.Answers.{with_answer}
use Rattle.nesting_core.specs.Frames.{head_of}
use Rattle.pending_queue.specs.declared.item.Item.{Item}
use Rattle.pending_queue.specs.declared.item.Item.TheVariants as item
use Rattle.history_reading.specs.declared.parts.CallFrame.{CallFrame}
use Rattle.history_reading.specs.declared.parts.CallFrame.TheVariants as frame
use Rattle.history_reading.specs.declared.parts.Cause.TheVariants as read_cause
use Rattle.history_reading.specs.declared.parts.EventKind.TheVariants as read_event
use Rattle.history_reading.specs.declared.parts.HandledRequest.{HandledRequest}
use Rattle.history_reading.specs.declared.parts.PacketKind.TheVariants as seen
use Rattle.history_reading.specs.EndReading.{EndReading, is_sync_request}
use Rattle.history_reading.specs.Reading as reading
use Rattle.history_reading.specs.Reading.{after_what}
use Rattle.history_reading.specs.Rows as rows
use Rattle.channel_model.specs.Answers as answering
use Rattle.channel_model.specs.Deliveries as delivery
use Rattle.channel_model.specs.Ends.{End, Packet, message, mark, StackEntry}
use Rattle.channel_model.specs.Events.{handled, kept}
use Rattle.channel_model.specs.Numbers.{is_sync_row}
use Rattle.channel_model.specs.Outputs.{is_closed, request_answered, resolver_answered}
use Rattle.channel_model.specs.Parts as part
use Rattle.channel_model.specs.Parts.{FirstPart, DeliveryPart, IsRefusal, IsRenaming, reply_lines, end_after, farewell_item, farewell_line}
use Rattle.channel_model.specs.Phases.{EventStart, sends, ends, closes, other, FallCause, nobody, closing, kind_cause, Phase}
use Rattle.channel_model.specs.Returns as return
use Rattle.channel_model.specs.Sends as send
use Rattle.channel_model.specs.States.{is_goodbye}
use Rattle.channel_model.specs.Takes as take
use Rattle.channel_model.specs.ValueActors.{received}
use Rattle.channel_laws.specs.EndActors.{ActorReading, actor_reading, handled_frame, handled_entry, shown_event, shown_cause}
use Rattle.channel_laws.specs.Rows.{HasSoundRows}
use Rattle.channel_laws.specs.Tested.{after_whats}
use Rattle.channel_laws.proofs.ActorLines.{SaysNoActor, replaced, no_actor-read, answered-handled, no_actor-reply, no_actor-fails, no_actor-settles}
use Rattle.channel_laws.proofs.Outlines.{cons-head}
use Rattle.channel_laws.proofs.Rows.{request-message}
use Rattle.channel_model.proofs.Known.{all-append}

-- Stacks

released-one : (b : Bool) (entry : StackEntry) → handled_entry (cond b (record entry { resolves = false }) entry) ≡ handled_entry entry
released-one true entry = refl
released-one false entry = refl

-- a resolver that is gone changes no request that is handled
pub released-handled : (seq : ℤ) (es : List StackEntry) → map handled_entry (answering.released seq es) ≡ map handled_entry es
released-handled seq [] = refl
released-handled seq (x ∷ xs) =
    ap (λ (f : Option HandledRequest). f ∷ map handled_entry (answering.released seq xs)) (released-one (answering.has_resolver seq x) x)
    ∙ ap (λ (fs : List (Option HandledRequest)). handled_entry x ∷ fs) (released-handled seq xs)

failed-one : (entry : StackEntry) (f : StackFrame) → entry.frame ≡ f → handled_entry (record entry { frame = delivery.failed f }) ≡ handled_entry (record entry { frame = f })
failed-one entry (Dispatch head) is = refl
failed-one entry (Wait head None) is = refl
failed-one entry (Wait head (Some a)) is = refl

failed-handled : (es : List StackEntry) → map handled_entry (map delivery.with_failed_wait es) ≡ map handled_entry es
failed-handled [] = refl
failed-handled (x ∷ xs) =
    ap (λ (f : Option HandledRequest). f ∷ map handled_entry (map delivery.with_failed_wait xs)) (failed-one x x.frame refl)
    ∙ ap (λ (fs : List (Option HandledRequest)). handled_entry x ∷ fs) (failed-handled xs)

same-frames : (es : List StackEntry) → map handled_entry (delivery.with_frames (map (λ (x : StackEntry). x.frame) es) es) ≡ map handled_entry es
same-frames [] = refl
same-frames (x ∷ xs) = ap (λ (fs : List (Option HandledRequest)). handled_entry x ∷ fs) (same-frames xs)

answer-handled : (a : Answer) (es : List StackEntry) → map handled_entry (delivery.with_frames (with_answer a (map (λ (x : StackEntry). x.frame) es)) es) ≡ map handled_entry es
answer-handled a [] = refl
answer-handled a (x ∷ xs) = by x.frame refl (answer-handled a xs)
  where
    frames : List StackFrame
    frames = map (λ (x : StackEntry). x.frame) xs

    by : (f : StackFrame) → x.frame ≡ f → map handled_entry (delivery.with_frames (with_answer a frames) xs) ≡ map handled_entry xs
        → map handled_entry (delivery.with_frames (with_answer a (f ∷ frames)) (x ∷ xs)) ≡ handled_entry (record x { frame = f }) ∷ map handled_entry xs
    by (Dispatch head) is rec = ap (λ (fs : List (Option HandledRequest)). handled_entry (record x { frame = Dispatch head }) ∷ fs) rec
    by (Wait head None) is rec = ap (λ (fs : List (Option HandledRequest)). None ∷ fs) (same-frames xs)
    by (Wait head (Some b)) is rec = ap (λ (fs : List (Option HandledRequest)). None ∷ fs) rec

below-handled : (hs : List CallFrame) → map handled_frame (reading.below_top hs) ≡ drop 1 (map handled_frame hs)
below-handled [] = refl
below-handled (x ∷ xs) = refl

drop-handled : (es : List StackEntry) → drop 1 (map handled_entry es) ≡ map handled_entry (drop 1 es)
drop-handled [] = refl
drop-handled (x ∷ xs) = refl

popped-handled : (hs : List CallFrame) (es : List StackEntry) → map handled_frame hs ≡ map handled_entry es → map handled_frame (reading.below_top hs) ≡ map handled_entry (drop 1 es)
popped-handled hs es k = below-handled hs ∙ (ap (drop 1) k ∙ drop-handled es)

-- Why actors fall

kind-shown : (kind : Kind) (route : ℤ) → rows.kind_cause kind route ≡ shown_cause (kind_cause kind route)
kind-shown Normal route = refl
kind-shown (Constructor protocol) route = refl
kind-shown Delete route = refl

row-cause : (schema : Schema) (row : MessageRow) (number : ℕ) (route : ℤ) → message_of schema number ≡ Some row → rows.delete_cause schema number route ≡ shown_cause (kind_cause row.kind route)
row-cause schema row number route found = ap (λ (r : Option MessageRow). option_map_or (λ (x : MessageRow). rows.kind_cause x.kind route) r read_cause.Nobody) found ∙ kind-shown row.kind route

-- no actor falls by a sync send
sync-cause : (kind : Kind) (route : ℤ) (sync : Bool) → (kind ≡ Delete → sync ≡ false) → sync ≡ true → read_cause.Nobody ≡ shown_cause (kind_cause kind route)
sync-cause Normal route sync async is = refl
sync-cause (Constructor protocol) route sync async is = refl
sync-cause Delete route sync async is = let k : true ≡ false = sym is ∙ async refl in cc

-- when a handler returns, actors fall because of the request of the dispatch on top
return-cause : (schema : Schema) (hs : List CallFrame) (es : List StackEntry) (entry : StackEntry) (row : MessageRow) → map handled_frame hs ≡ map handled_entry es → return.dispatch_on_top es ≡ Some entry → message_of schema entry.number ≡ Some row
    → reading.return_cause schema hs ≡ shown_cause (kind_cause row.kind entry.route)
return-cause schema hs [] entry row k e found = cc
return-cause schema [] (y ∷ es) entry row k e found = cc
return-cause schema (x ∷ hs) (y ∷ es) entry row k e found = by x y.frame (cons-head k) e
  where
    by : (x : CallFrame) (f : StackFrame) → handled_frame x ≡ handled_entry (record y { frame = f }) → elim f as (λ z. Option StackEntry) [ Dispatch head ↦ Some y | Wait head a ↦ None ] ≡ Some entry → reading.return_cause schema (x ∷ hs) ≡ shown_cause (kind_cause row.kind entry.route)
    by (frame.Dispatch d) (Dispatch head) k e =
        let same : y ≡ entry = same_Some y entry e in
        let read : d ≡ record { seq = head.seq; route = y.route; number = y.number } = same_Some d (record { seq = head.seq; route = y.route; number = y.number }) k in
        let number : d.number ≡ entry.number = ap (λ (z : HandledRequest). z.number) read ∙ ap (λ (z : StackEntry). z.number) same in
        let route : d.route ≡ entry.route = ap (λ (z : HandledRequest). z.route) read ∙ ap (λ (z : StackEntry). z.route) same in
        ap (λ (n : ℕ). rows.delete_cause schema n d.route) number ∙ (ap (λ (r : ℤ). rows.delete_cause schema entry.number r) route ∙ row-cause schema row entry.number entry.route found)
    by (frame.Unanswered c) (Dispatch head) k e = cc
    by (frame.Answered c) (Dispatch head) k e = cc
    by x (Wait head a) k e = cc

-- What begins an event

-- An event has begun: no actor has fallen in it, its start and its cause are read, and the living actors are the
-- same.
pub record Begins (e f : End) (start : EventStart) (why : FallCause) (read after : ActorReading) : Type 0 where
  pub built : after.built ≡ read.built
  pub fallen : after.fallen ≡ read.fallen
  pub falls : after.falls ≡ []
  pub event : after.event ≡ shown_event start
  pub cause : after.cause ≡ shown_cause why
  pub handled : after.handled ≡ map handled_entry f.stack
  pub actors : f.actors ≡ e.actors
  pub over : after.over ≡ true → (is_closed f.state ≡ true) ⊎ (read.over ≡ true)

-- an event of no kind that the laws name
quiet-begins : (e f : End) (read : ActorReading) (stack : List (Option HandledRequest)) → f.actors ≡ e.actors → stack ≡ map handled_entry f.stack
    → Begins e f other nobody read (record read { falls = []; event = read_event.Other; cause = read_cause.Nobody; handled = stack })
quiet-begins e f read stack same k = record { built = refl; fallen = refl; falls = refl; event = refl; cause = refl; handled = k; actors = same; over = λ o. inr o }

following : (schema : Schema) (place : ℕ) (ws : List What) (own : EndReading) (e f : End) (start : EventStart) (why : FallCause) (read : ActorReading) → AllByRecursion SaysNoActor ws
    → Begins e f start why read (actor_reading own) → Begins e f start why read (actor_reading (after_whats schema place ws own))
following schema place ws own e f start why read l k = subst (Begins e f start why read) (sym (no_actor-read schema place ws own l)) k

-- packets change neither actors nor frames
following-same : (b : Bool) (e f : End) (start : EventStart) (why : FallCause) (read after : ActorReading) → Begins e f start why read after → Begins e (end_after b f) start why read after
following-same true e f start why read after k = record { built = k.built; fallen = k.fallen; falls = k.falls; event = k.event; cause = k.cause; handled = k.handled; actors = k.actors; over = k.over }
following-same false e f start why read after k = k

refusal-begins : (schema : Schema) (place : ℕ) (w : What) (e : End) (own : EndReading) → IsRefusal schema w → map handled_frame own.stack ≡ map handled_entry e.stack → Begins e e other nobody (actor_reading own) (actor_reading (after_what schema place w own))
refusal-begins schema place (what.RefusedSend c n) e own q k = quiet-begins e e (actor_reading own) (map handled_frame own.stack) refl k
refusal-begins schema place (what.RefusedClose c) e own q k = quiet-begins e e (actor_reading own) (map handled_frame own.stack) refl k
refusal-begins schema place (what.RefusedResolve c) e own q k = quiet-begins e e (actor_reading own) (map handled_frame own.stack) refl k
refusal-begins schema place (what.RefusedReject c) e own q k = quiet-begins e e (actor_reading own) (map handled_frame own.stack) refl k
refusal-begins schema place _ e own q k = absurd q

renaming-begins : (schema : Schema) (place : ℕ) (w : What) (e : End) (own : EndReading) → IsRenaming w → map handled_frame own.stack ≡ map handled_entry e.stack → Begins e e other nobody (actor_reading own) (actor_reading (after_what schema place w own))
renaming-begins schema place (what.Keep n name) e own q k = quiet-begins e e (actor_reading own) (map handled_frame own.stack) refl k
renaming-begins schema place (what.Let name id) e own q k = quiet-begins e e (actor_reading own) (map handled_frame own.stack) refl k
renaming-begins schema place _ e own q k = absurd q

-- a request is sent
sends-begins : (schema : Schema) (place : ℕ) (e f : End) (own : EndReading) (row : MessageRow) (m : Message) (vs : Values) (sync : Bool) → m.number ≡ row.number → message_of schema row.number ≡ Some row → (row.kind ≡ Delete → sync ≡ false)
    → map handled_frame own.stack ≡ map handled_entry e.stack → f.actors ≡ e.actors → f.stack ≡ (cond sync (send.wait_for row m ∷ e.stack) e.stack)
    → Begins e f (sends m.seq m.route) (kind_cause row.kind m.route) (actor_reading own) (actor_reading (after_what schema place (if sync then what.Call m.seq m.transaction m.route m.number vs else what.Send m.seq m.route m.number vs) own))
sends-begins schema place e f own row m vs true number found async k actors stack = record {
  built = refl;
  fallen = refl;
  falls = refl;
  event = refl;
  cause = sync-cause row.kind m.route true async refl;
  handled = ap (λ (fs : List (Option HandledRequest)). None ∷ fs) k ∙ sym (ap (map handled_entry) stack);
  actors = actors;
  over = λ o. inr o;
}
sends-begins schema place e f own row m vs false number found async k actors stack = record {
  built = refl;
  fallen = refl;
  falls = refl;
  event = refl;
  cause = ap (λ (n : ℕ). rows.delete_cause schema n m.route) number ∙ row-cause schema row row.number m.route found;
  handled = k ∙ sym (ap (map handled_entry) stack);
  actors = actors;
  over = λ o. inr o;
}

answering-begins : (schema : Schema) (place : ℕ) (seq : ℤ) (vs : Option Values) (e f : End) (own : EndReading) → f.actors ≡ e.actors → map handled_frame own.stack ≡ map handled_entry f.stack
    → Begins e f other nobody (actor_reading own) (actor_reading (after_what schema place (answering.answering_line seq vs) own))
answering-begins schema place seq None e f own same k = quiet-begins e f (actor_reading own) (map handled_frame own.stack) same k
answering-begins schema place seq (Some vs) e f own same k = quiet-begins e f (actor_reading own) (map handled_frame own.stack) same k

shut-begins : (schema : Schema) (place : ℕ) (last : Item) (e : End) (own : EndReading) → map handled_frame own.stack ≡ map handled_entry e.stack
    → Begins e (part.shut_end e) closes (closing (part.shut_reason last)) (actor_reading own) (actor_reading (after_what schema place (part.shut_line last) own))
shut-begins schema place (item.Message m sync level) e own k = record { built = refl; fallen = refl; falls = refl; event = refl; cause = refl; handled = k; actors = refl; over = λ o. inl refl }
shut-begins schema place item.Broken e own k = record { built = refl; fallen = refl; falls = refl; event = refl; cause = refl; handled = k; actors = refl; over = λ o. inl refl }

resume-begins : (schema : Schema) (place : ℕ) (seq : ℤ) (a : Answer) (e : End) (own : EndReading) → map handled_frame own.stack ≡ map handled_entry e.stack
    → Begins e (record e { stack = drop 1 e.stack }) other nobody (actor_reading own) (actor_reading (after_what schema place (return.resume_line seq a) own))
resume-begins schema place seq (answer.Ok vs) e own k = quiet-begins e (record e { stack = drop 1 e.stack }) (actor_reading own) (map handled_frame (reading.below_top own.stack)) refl (popped-handled own.stack e.stack k)
resume-begins schema place seq (answer.Fault r) e own k = quiet-begins e (record e { stack = drop 1 e.stack }) (actor_reading own) (map handled_frame (reading.below_top own.stack)) refl (popped-handled own.stack e.stack k)

-- a farewell is delivered
farewell-begins : (schema : Schema) (place : ℕ) (packet : Packet) (e f : End) (own : EndReading) → f.actors ≡ e.actors → map handled_frame own.stack ≡ map handled_entry f.stack → Begins e f ends nobody (actor_reading own) (actor_reading (after_what schema place (farewell_line packet) own))
farewell-begins schema place (message m) e f own same k = record { built = refl; fallen = refl; falls = refl; event = refl; cause = refl; handled = k; actors = same; over = λ o. inr o }
farewell-begins schema place mark e f own same k = record { built = refl; fallen = refl; falls = refl; event = refl; cause = refl; handled = k; actors = same; over = λ o. inr o }

-- a reply is delivered
reply-begins : (n : ℤ) (e f : End) (own : EndReading) → f.actors ≡ e.actors → map handled_frame own.stack ≡ map handled_entry f.stack → Begins e f other nobody (actor_reading own) (actor_reading (reading.quiet (reading.replying n own)))
reply-begins n e f own same k = by (is_sync_request own n)
  where
    by : (b : Bool) → Begins e f other nobody (actor_reading own) (actor_reading (reading.quiet (if b then reading.answering n (reading.delivering (seen.Reply n) own) else reading.arriving (seen.Reply n) own)))
    by true = quiet-begins e f (actor_reading own) (map handled_frame (reading.answered n own.stack)) same (answered-handled n own.stack ∙ k)
    by false = quiet-begins e f (actor_reading own) (map handled_frame own.stack) same k

unknown-begins : (schema : Schema) (place : ℕ) (seq : ℤ) (body : Body) (e : End) (own : EndReading) → is_goodbye body ≡ false → map handled_frame own.stack ≡ map handled_entry e.stack → Begins e e other nobody (actor_reading own) (actor_reading (after_what schema place (part.unknown_line seq body) own))
unknown-begins schema place seq (Request vs) e own g k = quiet-begins e e (actor_reading own) (map handled_frame own.stack) refl k
unknown-begins schema place seq (Reply vs) e own g k = reply-begins seq e e own refl k
unknown-begins schema place seq (Fault r) e own g k = reply-begins seq e e own refl k
unknown-begins schema place seq Goodbye e own g k = cc

pub first-begins : (schema : Schema) → HasSoundRows schema → (place : ℕ) (own : EndReading) {e f : End} {ws : List What} {ps : List Packet} {p : Phase} → FirstPart schema e ws ps f p → map handled_frame own.stack ≡ map handled_entry e.stack
    → Begins e f p.start p.cause (actor_reading own) (actor_reading (after_whats schema place ws own))
first-begins schema sound place own {e} (part.refuses w is) k = refusal-begins schema place w e own is k
first-begins schema sound place own {e} (part.renames w is) k = renaming-begins schema place w e own is k
first-begins schema sound place own {e} (part.flushes o) k = quiet-begins e (record e { outbox = [] }) (actor_reading own) (map handled_frame own.stack) refl k
first-begins schema sound place own {e} (part.sends row route vs name is) k =
    let m : Message = send.request_of e row route vs in
    sends-begins schema place e (part.sent_end row m e) own row m vs (is_sync_row row) refl (request-message schema row.number row is.found) (sound row.number row is.found).delete k refl refl
first-begins schema sound place own {e} (part.answers (handled seq) vs r row found may ok used) k =
    answering-begins schema place r.seq vs e (record (answering.without_resolver (handled seq) e) { outbox = [] }) own refl (k ∙ sym (released-handled seq e.stack))
first-begins schema sound place own {e} (part.answers (kept name number) vs r row found may ok used) k =
    answering-begins schema place r.seq vs e (record (answering.without_resolver (kept name number) e) { outbox = [] }) own refl k
first-begins schema sound place own {e} (part.closes o waits) k = record { built = refl; fallen = refl; falls = refl; event = refl; cause = refl; handled = k; actors = refl; over = λ o. inl refl }
first-begins schema sound place own {e} (part.dies o) k = quiet-begins e (record e { state = Dead; stack = []; arrived = []; outbox = [] }) (actor_reading own) [] refl refl
first-begins schema sound place own {e} (part.dies_silent o alive) k = quiet-begins e (record e { state = Dead; stack = []; arrived = [] }) (actor_reading own) [] refl refl
first-begins schema sound place own {e} (part.takes m sync level row vs next body found stays) k =
    record { built = refl; fallen = refl; falls = refl; event = refl; cause = refl; handled = ap (λ (fs : List (Option HandledRequest)). Some (record { seq = m.seq; route = m.route; number = m.number }) ∷ fs) k; actors = refl; over = λ o. inr o }
first-begins schema sound place own {e} (part.drops m sync level row vs id replies next body found gone is) k =
    following-same replies e (part.left_end e) other nobody (actor_reading own) (actor_reading (after_whats schema (place + 1) (reply_lines replies (request_answered m) (answer.Fault ActorDestroyed)) (after_what schema place (what.Drop m.seq m.route m.number id) own)))
    (following schema (place + 1) (reply_lines replies (request_answered m) (answer.Fault ActorDestroyed)) (after_what schema place (what.Drop m.seq m.route m.number id) own) e (part.left_end e) other nobody (actor_reading own) (no_actor-reply replies (request_answered m) (answer.Fault ActorDestroyed))
    (quiet-begins e (part.left_end e) (actor_reading own) (map handled_frame own.stack) refl k))
first-begins schema sound place own {e} (part.drops_unknown m sync level vs next body none) k = quiet-begins e (part.left_end e) (actor_reading own) (map handled_frame own.stack) refl k
first-begins schema sound place own {e} (part.takes_reply m sync level a next body late) k = quiet-begins e (part.left_end e) (actor_reading own) (map handled_frame own.stack) refl k
first-begins schema sound place own {e} {f} (part.settles m sync level row a next body found awaited) k =
    following schema (place + 1) (take.settle_line m.seq (part.reply_outcome schema e row a) ∷ []) (after_what schema place (what.TakeReply m.seq) own) e f other nobody (actor_reading own) (no_actor-settles m.seq (part.reply_outcome schema e row a), tt)
    (quiet-begins e f (actor_reading own) (map handled_frame own.stack) refl k)
first-begins schema sound place own {e} (part.shuts last next is) k = shut-begins schema place last e own k
first-begins schema sound place own {e} (part.returns entry row vs told lost is t l) k =
    let ls : List What = reply_lines told (return.dispatch_answered entry) (return.return_answer schema e row entry vs) in
    let ms : List What = reply_lines lost (resolver_answered (answering.resolver_in entry)) (answer.Fault ResolverDestroyed) in
    let line : What = what.Return (head_of entry.frame).seq in
    let popped : End = record e { stack = drop 1 e.stack } in
    let start : EventStart = other in
    let why : FallCause = kind_cause row.kind entry.route in
    let after : ActorReading = actor_reading (after_whats schema (place + 1) (ls ++ ms) (after_what schema place line own)) in
    following-same lost e (end_after told popped) start why (actor_reading own) after
    (following-same told e popped start why (actor_reading own) after
    (following schema (place + 1) (ls ++ ms) (after_what schema place line own) e popped start why (actor_reading own)
    (all-append SaysNoActor ls ms (no_actor-reply told (return.dispatch_answered entry) (return.return_answer schema e row entry vs)) (no_actor-reply lost (resolver_answered (answering.resolver_in entry)) (answer.Fault ResolverDestroyed)))
    (record {
      built = refl;
      fallen = refl;
      falls = refl;
      event = refl;
      cause = return-cause schema own.stack e.stack entry row k is.on_top (request-message schema entry.number row is.found);
      handled = popped-handled own.stack e.stack k;
      actors = refl;
      over = λ o. inr o;
    })))
first-begins schema sound place own {e} (part.resumes wait row on_top found) k = resume-begins schema place wait.seq (received schema e.actors row wait.given) e own k

pub delivery-begins : (schema : Schema) (place : ℕ) (own : EndReading) (packet : Packet) {e f : End} {ws : List What} {ps : List Packet} {p : Phase} → DeliveryPart schema packet e ws ps f p → map handled_frame own.stack ≡ map handled_entry e.stack
    → Begins e f p.start p.cause (actor_reading own) (actor_reading (after_whats schema place ws own))
delivery-begins schema place own packet {e} {f} (part.gets_request m row vs body found none) k = quiet-begins e f (actor_reading own) (map handled_frame own.stack) refl k
delivery-begins schema place own packet {e} (part.replaces m row vs old sync level replies body found is makes) k =
    let ws : List What = what.Replaced old.seq ∷ reply_lines replies (request_answered old) (answer.Fault ResolverDestroyed) in
    let next : EndReading = after_what schema place (what.DeliverRequest m.seq) own in
    let counted : End = delivery.counted row (delivery.item_of row m) e in
    following-same replies e counted other nobody (actor_reading own) (actor_reading (after_whats schema (place + 1) ws next))
    (following schema (place + 1) ws next e counted other nobody (actor_reading own) (replaced old.seq, no_actor-reply replies (request_answered old) (answer.Fault ResolverDestroyed))
    (quiet-begins e counted (actor_reading own) (map handled_frame own.stack) refl k))
delivery-begins schema place own packet {e} {f} (part.gets_answer m row a body found is) k = reply-begins m.seq e f own refl (k ∙ sym (answer-handled a e.stack))
delivery-begins schema place own packet {e} {f} (part.gets_reply m row a body found is) k = reply-begins m.seq e f own refl k
delivery-begins schema place own packet {e} {f} (part.drains p is) k =
    following schema (place + 1) (map what.Fails (delivery.unanswered e)) (after_what schema place (farewell_line p) own) e f ends nobody (actor_reading own) (no_actor-fails (delivery.unanswered e))
    (farewell-begins schema place p e f own refl (k ∙ sym (failed-handled e.stack)))
delivery-begins schema place own packet {e} (part.passes_by m ordinary none) k = unknown-begins schema place m.seq m.body e own ordinary k

-- What is due after the first part of an event is the event's cause

pub first-due : {schema : Schema} {e f : End} {ws : List What} {ps : List Packet} {p : Phase} → FirstPart schema e ws ps f p → p.due ≡ p.cause
first-due (part.refuses w is) = refl
first-due (part.renames w is) = refl
first-due (part.flushes o) = refl
first-due (part.sends row route vs name is) = refl
first-due (part.answers by vs r row found may ok used) = refl
first-due (part.closes o waits) = refl
first-due (part.dies o) = refl
first-due (part.dies_silent o alive) = refl
first-due (part.takes m sync level row vs next body found stays) = refl
first-due (part.drops m sync level row vs id replies next body found gone is) = refl
first-due (part.drops_unknown m sync level vs next body none) = refl
first-due (part.takes_reply m sync level a next body late) = refl
first-due (part.settles m sync level row a next body found awaited) = refl
first-due (part.shuts last next is) = refl
first-due (part.returns entry row vs told lost is t l) = refl
first-due (part.resumes wait row on_top found) = refl

pub delivery-due : {schema : Schema} {packet : Packet} {e f : End} {ws : List What} {ps : List Packet} {p : Phase} → DeliveryPart schema packet e ws ps f p → p.due ≡ p.cause
delivery-due (part.gets_request m row vs body found none) = refl
delivery-due (part.replaces m row vs old sync level replies body found is makes) = refl
delivery-due (part.gets_answer m row a body found is) = refl
delivery-due (part.gets_reply m row a body found is) = refl
delivery-due (part.drains p is) = refl
delivery-due (part.passes_by m ordinary none) = refl
