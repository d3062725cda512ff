-- Each part of a step keeps the outline of an end: its state, its stack and its constructors are read from its lines.
use Rattle.std.proofs.Common.{◌≡◌, ℕ, ◌+◌, ℤ, Bool, true, false, ◌&&◌, cond, if◌then◌else◌, int_eq, List, [], ◌∷◌, ◌++◌, drop, filter, find, map, Option, Some, None, refl, sym, ap, subst, ◌∙◌}
use Rattle.std.specs.List.{AllByRecursion}
use Rattle.std.specs.Option.{option_map_or}
use Rattle.std.proofs.lemmas.Bool.Decides.{Decides-int_eq}
use Rattle.std.proofs.lemmas.Option.{same_Some}
use Rattle.ipdl_base.specs.declared.line.What.{What}
use Rattle.ipdl_base.specs.declared.line.What.TheVariants as what
use Rattle.history_reading.specs.declared.parts.CallFrame.{CallFrame}
use Rattle.history_reading.specs.declared.parts.CallFrame.TheVariants as frame
use Rattle.history_reading.specs.EndReading.{EndReading, is_sync_request, is_wait_for, frame_seq}
use Rattle.history_reading.specs.Reading.{after_what, answered, answered_frame, replying, below_top, made_after}
use Rattle.history_reading.specs.Rows as reading
use Rattle.history_reading.specs.Reading as reads
use Rattle.history_reading.specs.declared.parts.PacketKind.TheVariants as seen
use Rattle.ipdl_base.specs.declared.kinds.Destroy.{Destroy}
use Rattle.ipdl_base.specs.declared.kinds.Reason.{Reason}
use Rattle.ipdl_base.specs.declared.message.Body.{Body}
use Rattle.ipdl_base.specs.declared.message.Body.TheVariants.{Request}
use Rattle.ipdl_base.specs.declared.message.Message.{Message}
use Rattle.ipdl_base.specs.declared.schema.Kind.{Kind}
use Rattle.ipdl_base.specs.declared.schema.Kind.TheVariants.{Normal, Constructor, Delete}
use Rattle.ipdl_base.specs.declared.schema.MessageRow.{MessageRow}
use Rattle.ipdl_base.specs.declared.schema.Schema.{Schema}
use Rattle.ipdl_base.specs.declared.value.Values.{Values}
use Rattle.ipdl_base.specs.Sound.{message_of}
use Rattle.nesting_core.specs.declared.frame.Answer.{Answer}
use Rattle.nesting_core.specs.declared.frame.Answer.TheVariants as answer
use Rattle.nesting_core.specs.declared.frame.StackFrame.{StackFrame}
use Rattle.nesting_core.specs.declared.frame.StackFrame.TheVariants.{Dispatch, Wait}
use Rattle.nesting_core.specs.declared.frame.Head.{Head}
use Rattle.nesting_core.specs.Answers.{awaited, with_answer}
use Rattle.nesting_core.specs.Frames.{head_of, is_unanswered}
use Rattle.pending_queue.specs.declared.item.Item.{Item}
use Rattle.pending_queue.specs.declared.item.Item.TheVariants as item
use Rattle.pending_queue.specs.DeferralContext.{is_free, without_first}
use Rattle.promise_table.specs.declared.promise.Outcome.{Outcome}
use Rattle.promise_table.specs.declared.promise.Outcome.TheVariants.{Resolved, Rejected}
use Rattle.ipdl_base.specs.declared.kinds.Reason.TheVariants.{ActorDestroyed, ChannelClosed, ResolverDestroyed}
use Rattle.channel_model.specs.Answers as answering
use Rattle.channel_model.specs.Deliveries as delivery
use Rattle.ipdl_base.specs.declared.kinds.EndState.{EndState}
use Rattle.ipdl_base.specs.declared.kinds.EndState.TheVariants.{Open, Draining, Closed, Dead}
use Rattle.channel_model.specs.Ends.{End, Packet, message, mark, StackEntry}
use Rattle.channel_model.specs.Events.{Answering, handled, kept}
use Rattle.channel_model.specs.Falls as fall
use Rattle.nesting_core.specs.Top.{top_of}
use Rattle.pending_queue.specs.Compression.{staying}
use Rattle.ipdl_base.specs.Sides.{top_id}
use Rattle.channel_model.specs.Numbers.{makes_promise, counting, is_sync_row}
use Rattle.channel_model.specs.Outputs.{is_open, body_of, request_answered, resolver_answered}
use Rattle.channel_model.specs.Returns as return
use Rattle.channel_model.specs.Sends as send
use Rattle.channel_model.specs.Takes as take
use Rattle.channel_model.specs.ValueActors.{received}
use Rattle.channel_model.specs.States.{IsOrdinary, is_farewell, is_goodbye}
use Rattle.channel_model.proofs.Known.{all-append}
use Rattle.channel_model.proofs.Sublists.{all-sublist, without_first-sublist, staying-sublist}
use Rattle.channel_model.specs.Phases.{Phase}
use Rattle.channel_model.specs.Parts as parts
use Rattle.channel_model.specs.Parts.{FirstPart, LaterPart, DeliveryPart, IsRefusal, IsRenaming, reply_lines, fall_lines, farewell_item, farewell_line, end_after, left_end}
use Rattle.channel_laws.specs.Tested.{after_whats}
use Rattle.channel_laws.specs.Outlines.{Ended, Over, shown, shown_entry, placeless, Outline, outline, HasOutline}
use Rattle.channel_laws.proofs.PartLines.{EffectsHave, reply-has, falls-have, closing-has}
use Rattle.channel_laws.proofs.Rows.{request-message}

-- Lines that leave the outline unchanged

pub data LeavesOutline : What → Type 0 where
  built : (id : ℤ) (protocol : ℕ) → LeavesOutline (what.Built id protocol)
  replaced : (n : ℤ) → LeavesOutline (what.Replaced n)
  says_ok : (n : ℤ) (vs : Values) → LeavesOutline (what.AnswerOk n vs)
  says_fault : (n : ℤ) (r : Reason) → LeavesOutline (what.AnswerFault n r)
  resolved : (n : ℤ) (vs : Values) → LeavesOutline (what.Resolved n vs)
  rejected : (n : ℤ) (r : Reason) → LeavesOutline (what.Rejected n r)
  fell : (id : ℤ) (why : Destroy) → LeavesOutline (what.Fall id why)

left-one : (schema : Schema) (place : ℕ) (w : What) (h : EndReading) → LeavesOutline w → outline (after_what schema place w h) ≡ outline h
left-one schema place w h (built id protocol) = refl
left-one schema place w h (replaced n) = refl
left-one schema place w h (says_ok n vs) = refl
left-one schema place w h (says_fault n r) = refl
left-one schema place w h (resolved n vs) = refl
left-one schema place w h (rejected n r) = refl
left-one schema place w h (fell id why) = refl

pub outline-left : (schema : Schema) (place : ℕ) (ws : List What) (h : EndReading) → AllByRecursion LeavesOutline ws → outline (after_whats schema place ws h) ≡ outline h
outline-left schema place [] h l = refl
outline-left schema place (w ∷ ws) h l = outline-left schema (place + 1) ws (after_what schema place w h) l.1 ∙ left-one schema place w h l.0

outline-effects : EffectsHave LeavesOutline
outline-effects = record { built = built; ok = says_ok; fault = says_fault; falls = record { rejected = rejected; fell = fell } }

-- States

pub open-is : (s : EndState) → is_open s ≡ true → s ≡ Open
open-is Open h = refl
open-is Draining h = cc
open-is Closed h = cc
open-is Dead h = cc

open-over : (e : End) (s : Outline) → is_open e.state ≡ true → HasOutline e s → s.over ≡ false
open-over e s o k = subst (λ (x : EndState). Over x s.over) (open-is e.state o) k.over

-- Stacks

map-below : (xs : List CallFrame) → map placeless (below_top xs) ≡ drop 1 (map placeless xs)
map-below [] = refl
map-below (x ∷ xs) = refl

map-drop : (es : List StackEntry) → drop 1 (map shown_entry es) ≡ map shown_entry (drop 1 es)
map-drop [] = refl
map-drop (x ∷ xs) = refl

popped-stack : (h : EndReading) (e : End) → map placeless h.stack ≡ map shown_entry e.stack → map placeless (below_top h.stack) ≡ map shown_entry (drop 1 e.stack)
popped-stack h e k = map-below h.stack ∙ (ap (drop 1) k ∙ map-drop e.stack)

released-one : (b : Bool) (entry : StackEntry) → shown_entry (cond b (record entry { resolves = false }) entry) ≡ shown_entry entry
released-one true entry = refl
released-one false entry = refl

released-stack : (seq : ℤ) (es : List StackEntry) → map shown_entry (answering.released seq es) ≡ map shown_entry es
released-stack seq [] = refl
released-stack seq (x ∷ xs) =
    ap (λ (f : CallFrame). f ∷ map shown_entry (answering.released seq xs)) (released-one (answering.has_resolver seq x) x)
    ∙ ap (λ (fs : List CallFrame). shown_entry x ∷ fs) (released-stack seq xs)

-- an answer goes to the wait that is awaited

same-frames : (es : List StackEntry) → delivery.with_frames (map (λ (x : StackEntry). x.frame) es) es ≡ es
same-frames [] = refl
same-frames (x ∷ xs) = ap (λ (ys : List StackEntry). x ∷ ys) (same-frames xs)

pub cons-head : {A : Type 0} {x y : A} {xs ys : List A} → x ∷ xs ≡ y ∷ ys → x ≡ y
cons-head {A} {x} {y} {xs} {ys} e = cc

pub cons-tail : {A : Type 0} {x y : A} {xs ys : List A} → x ∷ xs ≡ y ∷ ys → xs ≡ ys
cons-tail {A} {x} {y} {xs} {ys} e = cc

pub int-same : (m n : ℤ) → m ≡ n → int_eq m n ≡ true
int-same m n e = (Decides-int_eq m n).1 e

pub answered-no : (n : ℤ) (x : CallFrame) (xs : List CallFrame) → is_wait_for n x ≡ false → answered n (x ∷ xs) ≡ x ∷ answered n xs
answered-no n x xs e = ap (λ (b : Bool). if b then answered_frame x ∷ xs else x ∷ answered n xs) e

pub answered-yes : (n : ℤ) (x : CallFrame) (xs : List CallFrame) → is_wait_for n x ≡ true → answered n (x ∷ xs) ≡ answered_frame x ∷ xs
answered-yes n x xs e = ap (λ (b : Bool). if b then answered_frame x ∷ xs else x ∷ answered n xs) e

answered-stack : (n : ℤ) (a : Answer) (hs : List CallFrame) (es : List StackEntry) → map placeless hs ≡ map shown_entry es → awaited (map (λ (x : StackEntry). x.frame) es) ≡ Some n
    → map placeless (answered n hs) ≡ map shown_entry (delivery.with_frames (with_answer a (map (λ (x : StackEntry). x.frame) es)) es)
answered-stack n a [] [] k w = cc
answered-stack n a [] (y ∷ es) k w = cc
answered-stack n a (x ∷ hs) [] k w = cc
answered-stack n a (x ∷ hs) (y ∷ es) k w = by x y.frame refl (answered-stack n a hs es (cons-tail k)) (cons-head k) w
  where
    tail : map placeless hs ≡ map shown_entry es
    tail = cons-tail k

    frames : List StackFrame
    frames = map (λ (x : StackEntry). x.frame) es

    by : (x : CallFrame) (f : StackFrame) → y.frame ≡ f → (awaited frames ≡ Some n → map placeless (answered n hs) ≡ map shown_entry (delivery.with_frames (with_answer a frames) es)) → placeless x ≡ shown f y.route y.number → awaited (f ∷ frames) ≡ Some n → map placeless (answered n (x ∷ hs)) ≡ map shown_entry (delivery.with_frames (with_answer a (f ∷ frames)) (y ∷ es))
    by (frame.Dispatch d) (Dispatch head) is rec e w = ap (λ (z : CallFrame). z ∷ map placeless (answered n hs)) e ∙ ap (λ (zs : List CallFrame). shown (Dispatch head) y.route y.number ∷ zs) (rec w)
    by (frame.Dispatch d) (Wait head None) is rec e w = cc
    by (frame.Dispatch d) (Wait head (Some b)) is rec e w = cc
    by (frame.Unanswered c) (Dispatch head) is rec e w = cc
    by (frame.Unanswered c) (Wait head None) is rec e w =
        let seqs : c.seq ≡ head.seq = ap frame_seq e in
        let yes : is_wait_for n (frame.Unanswered c) ≡ true = int-same c.seq n (seqs ∙ same_Some head.seq n w) in
        ap (map placeless) (answered-yes n (frame.Unanswered c) hs yes)
        ∙ ap (λ (z : CallFrame). z ∷ map placeless hs) (answered-head c head y.number e)
        ∙ ap (λ (zs : List CallFrame). shown (Wait head (Some a)) y.route y.number ∷ zs) (tail ∙ ap (map shown_entry) (sym (same-frames es)))
      where
        answered-head : (c : _) (head : Head) (number : ℕ) → placeless (frame.Unanswered c) ≡ shown (Wait head None) y.route number → placeless (frame.Answered c) ≡ shown (Wait head (Some a)) y.route number
        answered-head c head number e = cc
    by (frame.Unanswered c) (Wait head (Some b)) is rec e w = cc
    by (frame.Answered c) (Dispatch head) is rec e w = cc
    by (frame.Answered c) (Wait head None) is rec e w = cc
    by (frame.Answered c) (Wait head (Some b)) is rec e w = ap (λ (z : CallFrame). z ∷ map placeless (answered n hs)) e ∙ ap (λ (zs : List CallFrame). shown (Wait head (Some b)) y.route y.number ∷ zs) (rec w)

-- all waits fail

abbrev failed_all : List ℤ → List CallFrame → List CallFrame
failed_all [] hs = hs
failed_all (n ∷ ns) hs = failed_all ns (answered n hs)

abbrev waits : List StackEntry → List ℤ
waits es = map (λ (f : StackFrame). (head_of f).seq) (filter is_unanswered (map (λ (x : StackEntry). x.frame) es))

failed-below : (ns : List ℤ) (x : CallFrame) (hs : List CallFrame) → ((n : ℤ) → is_wait_for n x ≡ false) → failed_all ns (x ∷ hs) ≡ x ∷ failed_all ns hs
failed-below [] x hs h = refl
failed-below (n ∷ ns) x hs h = ap (failed_all ns) (answered-no n x hs (h n)) ∙ failed-below ns x (answered n hs) h

failed-stack : (hs : List CallFrame) (es : List StackEntry) → map placeless hs ≡ map shown_entry es → map placeless (failed_all (waits es) hs) ≡ map shown_entry (map delivery.with_failed_wait es)
failed-stack [] [] k = refl
failed-stack [] (y ∷ es) k = cc
failed-stack (x ∷ hs) [] k = cc
failed-stack (x ∷ hs) (y ∷ es) k = by x y.frame refl (failed-stack hs es (cons-tail k)) (cons-head k)
  where
    by : (x : CallFrame) (f : StackFrame) → y.frame ≡ f → map placeless (failed_all (waits es) hs) ≡ map shown_entry (map delivery.with_failed_wait es) → placeless x ≡ shown f y.route y.number
        → map placeless (failed_all (waits ((record y { frame = f }) ∷ es)) (x ∷ hs)) ≡ map shown_entry (map delivery.with_failed_wait ((record y { frame = f }) ∷ es))
    by (frame.Dispatch d) (Dispatch head) is rec e = ap (map placeless) (failed-below (waits es) (frame.Dispatch d) hs (λ n. refl)) ∙ (ap (λ (z : CallFrame). z ∷ map placeless (failed_all (waits es) hs)) e ∙ ap (λ (zs : List CallFrame). shown (Dispatch head) y.route y.number ∷ zs) rec)
    by (frame.Dispatch d) (Wait head None) is rec e = cc
    by (frame.Dispatch d) (Wait head (Some b)) is rec e = cc
    by (frame.Unanswered c) (Dispatch head) is rec e = cc
    by (frame.Unanswered c) (Wait head None) is rec e =
        let seqs : c.seq ≡ head.seq = ap frame_seq e in
        let a : Answer = answer.Fault ChannelClosed in
        ap (λ (xs : List CallFrame). map placeless (failed_all (waits es) xs)) (answered-yes head.seq (frame.Unanswered c) hs (int-same c.seq head.seq seqs))
        ∙ (ap (map placeless) (failed-below (waits es) (frame.Answered c) hs (λ n. refl))
        ∙ (ap (λ (z : CallFrame). z ∷ map placeless (failed_all (waits es) hs)) (answered-head c head y.number e) ∙ ap (λ (zs : List CallFrame). shown (Wait head (Some a)) y.route y.number ∷ zs) rec))
      where
        answered-head : (c : _) (head : Head) (number : ℕ) → placeless (frame.Unanswered c) ≡ shown (Wait head None) y.route number → placeless (frame.Answered c) ≡ shown (Wait head (Some (answer.Fault ChannelClosed))) y.route number
        answered-head c head number e = cc
    by (frame.Unanswered c) (Wait head (Some b)) is rec e = cc
    by (frame.Answered c) (Dispatch head) is rec e = cc
    by (frame.Answered c) (Wait head None) is rec e = cc
    by (frame.Answered c) (Wait head (Some b)) is rec e = ap (map placeless) (failed-below (waits es) (frame.Answered c) hs (λ n. refl)) ∙ (ap (λ (z : CallFrame). z ∷ map placeless (failed_all (waits es) hs)) e ∙ ap (λ (zs : List CallFrame). shown (Wait head (Some b)) y.route y.number ∷ zs) rec)

-- lines of failures fail the waits and leave all else unchanged
fails-outline : (schema : Schema) (place : ℕ) (ns : List ℤ) (h : EndReading) → outline (after_whats schema place (map what.Fails ns) h) ≡ outline (record h { stack = failed_all ns h.stack })
fails-outline schema place [] h = refl
fails-outline schema place (n ∷ ns) h = fails-outline schema (place + 1) ns (after_what schema place (what.Fails n) h)

-- constructors are counted in the same way

kind-counts : (kind : Kind) (n : ℕ) → (if reading.constructs kind then n + 1 else n) ≡ counting kind n
kind-counts Normal n = refl
kind-counts (Constructor p) n = refl
kind-counts Delete n = refl

made-counts : (schema : Schema) (row : MessageRow) (n : ℕ) → message_of schema row.number ≡ Some row → made_after schema row.number n ≡ counting row.kind n
made-counts schema row n found = ap (λ (r : Option MessageRow). if option_map_or (λ (x : MessageRow). reading.constructs x.kind) r false then n + 1 else n) found ∙ kind-counts row.kind n

-- Every part

-- What the delivery of a reply depends on: the end's own request of its number is sync exactly where the reply is,
-- and then it is the awaited one.
pub record RepliesFit (schema : Schema) (packet : Packet) (e : End) (h : EndReading) : Type 0 where
  pub sync : (m : Message) (row : MessageRow) (a : Answer) → packet ≡ message m → m.body ≡ body_of a → message_of schema m.number ≡ Some row → is_sync_request h m.seq ≡ is_sync_row row
  pub awaits : (m : Message) (row : MessageRow) (a : Answer) → packet ≡ message m → m.body ≡ body_of a → message_of schema m.number ≡ Some row → is_sync_row row ≡ true → awaited (send.frames_of e) ≡ Some m.seq
  pub known : (m : Message) → packet ≡ message m → is_farewell (farewell_item packet) ≡ false → message_of schema m.number ≡ None → ⊥

left-outlined : (schema : Schema) (place : ℕ) (ws : List What) (e : End) (h : EndReading) → AllByRecursion LeavesOutline ws → HasOutline e (outline h) → HasOutline e (outline (after_whats schema place ws h))
left-outlined schema place ws e h l k = subst (HasOutline e) (sym (outline-left schema place ws h l)) k

end_after-outlined : (b : Bool) (e : End) (s : Outline) → HasOutline e s → HasOutline (end_after b e) s
end_after-outlined true e s k = record { state = k.state; ended = k.ended; over = k.over; stack = k.stack; made = k.made; ordinary = k.ordinary }
end_after-outlined false e s k = k

-- the arrived items differ from those before
arrived-outlined : (e : End) (s : Outline) (items : List Item) → HasOutline e s → (e.state ≡ Open → AllByRecursion IsOrdinary items) → HasOutline (record e { arrived = items }) s
arrived-outlined e s items k o = record { state = k.state; ended = k.ended; over = k.over; stack = k.stack; made = k.made; ordinary = o }

left_end-outlined : (e : End) (s : Outline) → HasOutline e s → HasOutline (left_end e) s
left_end-outlined e s k = arrived-outlined e s (without_first (is_free (take.deferral_context_of e)) e.arrived) k (λ is. all-sublist IsOrdinary (without_first (is_free (take.deferral_context_of e)) e.arrived) e.arrived (without_first-sublist (is_free (take.deferral_context_of e)) e.arrived) (k.ordinary is))

settle-leaves : (seq : ℤ) (o : Outcome) → LeavesOutline (take.settle_line seq o)
settle-leaves seq (Resolved vs) = resolved seq vs
settle-leaves seq (Rejected r) = rejected seq r

ordinary-reply : (body : Body) (a : Answer) → body ≡ body_of a → is_goodbye body ≡ false
ordinary-reply body (answer.Ok vs) is = ap is_goodbye is
ordinary-reply body (answer.Fault r) is = ap is_goodbye is

-- a farewell that is taken shows that the end has ended

shut-over : {A : Type 0} (e : End) (x : Item) → take.taken_next e ≡ Some x → is_farewell x ≡ true → AllByRecursion IsOrdinary e.arrived → A
shut-over {A} e x next last all = by (take.takes_in_state e.state && take.takes_under (top_of (send.frames_of e))) next
  where
    inside : (items : List Item) → AllByRecursion IsOrdinary items → find (is_free (take.deferral_context_of e)) items ≡ Some x → is_farewell x ≡ false
    inside [] all e = cc
    inside (y ∷ ys) all found = here (is_free (take.deferral_context_of e) y) found (inside ys all.1)
      where
        here : (b : Bool) → cond b (Some y) (find (is_free (take.deferral_context_of e)) ys) ≡ Some x → (find (is_free (take.deferral_context_of e)) ys ≡ Some x → is_farewell x ≡ false) → is_farewell x ≡ false
        here true is rec = ap is_farewell (sym (same_Some y x is)) ∙ all.0
        here false is rec = rec is

    by : (b : Bool) → cond b (take.first_free e) None ≡ Some x → A
    by true is = let k : true ≡ false = sym last ∙ inside e.arrived all is in cc
    by false is = cc

drained-ended : (e : End) (s : Outline) (x : Item) → take.taken_next e ≡ Some x → is_farewell x ≡ true → HasOutline e s → s.ended ≡ true
drained-ended e s x next last k = by e.state refl k.ended
  where
    by : (t : EndState) → e.state ≡ t → Ended t s.ended → s.ended ≡ true
    by Open is ended = shut-over e x next last (k.ordinary is)
    by Draining is ended = ended
    by Closed is ended = ended
    by Dead is ended = let n : None ≡ Some x = dead-next is ∙ next in cc
      where
        dead-next : e.state ≡ Dead → None ≡ take.taken_next e
        dead-next is = ap (λ (t : EndState). if take.takes_in_state t && take.takes_under (top_of (send.frames_of e)) then take.first_free e else None) (sym is)

module _ (schema : Schema) where
  -- The parts that a step begins with

  refusal-outlined : (place : ℕ) (w : What) (e : End) (h : EndReading) → IsRefusal schema w → HasOutline e (outline h) → HasOutline e (outline (after_what schema place w h))
  refusal-outlined place (what.RefusedSend c n) e h q k = k
  refusal-outlined place (what.RefusedClose c) e h q k = k
  refusal-outlined place (what.RefusedResolve c) e h q k = k
  refusal-outlined place (what.RefusedReject c) e h q k = k
  refusal-outlined place _ e h q k = absurd q

  renaming-outlined : (place : ℕ) (w : What) (e : End) (h : EndReading) → IsRenaming w → HasOutline e (outline h) → HasOutline e (outline (after_what schema place w h))
  renaming-outlined place (what.Keep n name) e h q k = k
  renaming-outlined place (what.Let name id) e h q k = k
  renaming-outlined place _ e h q k = absurd q

  sent-outlined : (place : ℕ) (e : End) (h : EndReading) (row : MessageRow) (m : Message) (vs : Values) (lazy sync wants : Bool) → m.number ≡ row.number → message_of schema row.number ≡ Some row → HasOutline e (outline h)
      → HasOutline (record e { sent = e.sent + 1; constructors_sent = counting row.kind e.constructors_sent; outbox = parts.outbox_after lazy m e.outbox; stack = cond sync (send.wait_for row m ∷ e.stack) e.stack; promises = cond wants (e.promises ++ parts.promise_for m ∷ []) e.promises })
      (outline (after_what schema place (if sync then what.Call m.seq m.transaction m.route m.number vs else what.Send m.seq m.route m.number vs) h))
  sent-outlined place e h row m vs lazy true wants number found k = record {
    state = k.state;
    ended = k.ended;
    over = k.over;
    stack = ap (λ (fs : List CallFrame). frame.Unanswered (record { seq = m.seq; transaction = m.transaction; number = m.number; place = 0 }) ∷ fs) k.stack;
    made = ap (λ (n : ℕ). made_after schema n h.made) number ∙ (made-counts schema row h.made found ∙ ap (counting row.kind) k.made);
    ordinary = k.ordinary;
  }
  sent-outlined place e h row m vs lazy false wants number found k = record {
    state = k.state;
    ended = k.ended;
    over = k.over;
    stack = k.stack;
    made = ap (λ (n : ℕ). made_after schema n h.made) number ∙ (made-counts schema row h.made found ∙ ap (counting row.kind) k.made);
    ordinary = k.ordinary;
  }

  answers-outlined : (place : ℕ) (by : Answering) (vs : Option Values) (seq : ℤ) (e : End) (h : EndReading) → HasOutline e (outline h) → HasOutline (record (answering.without_resolver by e) { outbox = [] }) (outline (after_what schema place (answering.answering_line seq vs) h))
  answers-outlined place (handled n) None seq e h k = record { state = k.state; ended = k.ended; over = k.over; stack = k.stack ∙ sym (released-stack n e.stack); made = k.made; ordinary = k.ordinary }
  answers-outlined place (handled n) (Some vs) seq e h k = record { state = k.state; ended = k.ended; over = k.over; stack = k.stack ∙ sym (released-stack n e.stack); made = k.made; ordinary = k.ordinary }
  answers-outlined place (kept name number) None seq e h k = record { state = k.state; ended = k.ended; over = k.over; stack = k.stack; made = k.made; ordinary = k.ordinary }
  answers-outlined place (kept name number) (Some vs) seq e h k = record { state = k.state; ended = k.ended; over = k.over; stack = k.stack; made = k.made; ordinary = k.ordinary }

  resume-outline : (place : ℕ) (seq : ℤ) (a : Answer) (h : EndReading) → outline (after_what schema place (return.resume_line seq a) h) ≡ outline (record h { stack = below_top h.stack })
  resume-outline place seq (answer.Ok vs) h = refl
  resume-outline place seq (answer.Fault r) h = refl

  shut-outline : (place : ℕ) (last : Item) (h : EndReading) → outline (after_what schema place (parts.shut_line last) h) ≡ record { state = Closed; ended = h.ended; over = true; stack = map placeless h.stack; made = h.made }
  shut-outline place (item.Message m sync level) h = refl
  shut-outline place item.Broken h = refl

  pub first-outlined : {q : Phase} {e f : End} {ws : List What} {ps : List Packet} (place : ℕ) (h : EndReading) → FirstPart schema e ws ps f q → HasOutline e (outline h) → HasOutline f (outline (after_whats schema place ws h))
  first-outlined {e} place h (parts.refuses w q) k = refusal-outlined place w e h q k
  first-outlined {e} place h (parts.renames w q) k = renaming-outlined place w e h q k
  first-outlined place h (parts.flushes o) k = record { state = k.state; ended = k.ended; over = k.over; stack = k.stack; made = k.made; ordinary = k.ordinary }
  first-outlined {e} place h (parts.sends row route vs name sent) k = sent-outlined place e h row (send.request_of e row route vs) vs row.lazy (is_sync_row row) (makes_promise row) refl (request-message schema row.number row sent.found) k
  first-outlined {e} place h (parts.answers by vs r row found may ok used) k = answers-outlined place by vs r.seq e h k
  first-outlined {e} place h (parts.closes o waits) k = record { state = refl; ended = refl; over = refl; stack = k.stack; made = k.made; ordinary = λ is. cc }
  first-outlined place h (parts.dies o) k = record { state = refl; ended = tt; over = tt; stack = refl; made = k.made; ordinary = λ is. cc }
  first-outlined place h (parts.dies_silent o alive) k = record { state = refl; ended = tt; over = tt; stack = refl; made = k.made; ordinary = λ is. cc }
  first-outlined {e} place h (parts.takes m sync level row vs next body found stays) k =
      let l : HasOutline (left_end e) (outline h) = left_end-outlined e (outline h) k in
      record { state = l.state; ended = l.ended; over = l.over; stack = ap (λ (fs : List CallFrame). frame.Dispatch (record { seq = m.seq; route = m.route; number = m.number }) ∷ fs) k.stack; made = l.made; ordinary = l.ordinary }
  first-outlined {e} place h (parts.drops m sync level row vs id replies next body found gone is) k =
      left-outlined schema (place + 1) (reply_lines replies (request_answered m) (answer.Fault ActorDestroyed)) (end_after replies (left_end e)) (after_what schema place (what.Drop m.seq m.route m.number id) h) (reply-has LeavesOutline outline-effects replies (request_answered m) (answer.Fault ActorDestroyed))
      (end_after-outlined replies (left_end e) (outline h) (left_end-outlined e (outline h) k))
  first-outlined {e} place h (parts.drops_unknown m sync level vs next body none) k = left_end-outlined e (outline h) k
  first-outlined {e} place h (parts.takes_reply m sync level a next body late) k = left_end-outlined e (outline h) k
  first-outlined {e} place h (parts.settles m sync level row a next body found is) k =
      let l : HasOutline (left_end e) (outline h) = left_end-outlined e (outline h) k in
      left-outlined schema (place + 1) (take.settle_line m.seq (parts.reply_outcome schema e row a) ∷ []) (record (left_end e) { promises = map (take.settled_entry m.seq (parts.reply_outcome schema e row a)) e.promises }) (after_what schema place (what.TakeReply m.seq) h)
      (settle-leaves m.seq (parts.reply_outcome schema e row a), tt) (record { state = l.state; ended = l.ended; over = l.over; stack = l.stack; made = l.made; ordinary = l.ordinary })
  first-outlined {e} place h (parts.shuts last next is) k =
      subst (HasOutline (parts.shut_end e)) (sym (shut-outline place last h)) (record { state = refl; ended = drained-ended e (outline h) last next is k; over = refl; stack = k.stack; made = k.made; ordinary = λ is. cc })
  first-outlined {e} place h (parts.returns entry row vs told lost on_top t l) k =
      left-outlined schema (place + 1) (reply_lines told (return.dispatch_answered entry) (return.return_answer schema e row entry vs) ++ reply_lines lost (resolver_answered (answering.resolver_in entry)) (answer.Fault ResolverDestroyed))
      (end_after lost (end_after told (record e { stack = drop 1 e.stack }))) (after_what schema place (what.Return (head_of entry.frame).seq) h)
      (all-append LeavesOutline (reply_lines told (return.dispatch_answered entry) (return.return_answer schema e row entry vs)) (reply_lines lost (resolver_answered (answering.resolver_in entry)) (answer.Fault ResolverDestroyed))
      (reply-has LeavesOutline outline-effects told (return.dispatch_answered entry) (return.return_answer schema e row entry vs)) (reply-has LeavesOutline outline-effects lost (resolver_answered (answering.resolver_in entry)) (answer.Fault ResolverDestroyed)))
      (end_after-outlined lost (end_after told (record e { stack = drop 1 e.stack })) (outline (after_what schema place (what.Return (head_of entry.frame).seq) h)) (end_after-outlined told (record e { stack = drop 1 e.stack }) (outline (after_what schema place (what.Return (head_of entry.frame).seq) h))
      (record { state = k.state; ended = k.ended; over = k.over; stack = popped-stack h e k.stack; made = k.made; ordinary = k.ordinary })))
  first-outlined {e} place h (parts.resumes wait row on_top found) k =
      subst (HasOutline (record e { stack = drop 1 e.stack })) (sym (resume-outline place wait.seq (received schema e.actors row wait.given) h))
      (record { state = k.state; ended = k.ended; over = k.over; stack = popped-stack h e k.stack; made = k.made; ordinary = k.ordinary })

  -- The parts that follow

  pub later-outlined : {p q : Phase} {e f : End} {ws : List What} {ps : List Packet} (place : ℕ) (h : EndReading) → LaterPart p e ws ps f q → HasOutline e (outline h) → HasOutline f (outline (after_whats schema place ws h))
  later-outlined place h (parts.unnames name now silent) k = record { state = k.state; ended = k.ended; over = k.over; stack = k.stack; made = k.made; ordinary = k.ordinary }
  later-outlined place h (parts.lets_go name r now is o) k = record { state = k.state; ended = k.ended; over = k.over; stack = k.stack; made = k.made; ordinary = k.ordinary }
  later-outlined place h (parts.names more a) k = record { state = k.state; ended = k.ended; over = k.over; stack = k.stack; made = k.made; ordinary = k.ordinary }
  later-outlined {e} place h (parts.releases seq closed) k = record { state = k.state; ended = k.ended; over = k.over; stack = k.stack ∙ sym (released-stack seq e.stack); made = k.made; ordinary = k.ordinary }
  later-outlined {e} place h (parts.keeps seq name r is open_end) k = record { state = k.state; ended = k.ended; over = k.over; stack = k.stack ∙ sym (released-stack seq e.stack); made = k.made; ordinary = k.ordinary }
  later-outlined place h (parts.builds id protocol rest fresh alive) k = record { state = k.state; ended = k.ended; over = k.over; stack = k.stack; made = k.made; ordinary = k.ordinary }
  later-outlined {e} place h (parts.deletes id cause) k =
      left-outlined schema place (fall_lines id (fall.why_deleted id) e) (parts.fallen_end id e) h (falls-have LeavesOutline outline-effects.falls id (fall.why_deleted id) e) (record { state = k.state; ended = k.ended; over = k.over; stack = k.stack; made = k.made; ordinary = k.ordinary })
  later-outlined {e} place h (parts.falls why cause) k =
      left-outlined schema place (parts.abandoned_lines e ++ fall_lines top_id (λ id. why) (parts.abandoned_end e)) (parts.fallen_end top_id (parts.abandoned_end e)) h (closing-has LeavesOutline outline-effects.falls why e) (record { state = k.state; ended = k.ended; over = k.over; stack = k.stack; made = k.made; ordinary = k.ordinary })

  -- A delivery

  counted-outlined : (e : End) (s : Outline) (row : MessageRow) (m : Message) (vs : Values) → m.body ≡ Request vs → HasOutline e s → HasOutline (delivery.counted row (delivery.item_of row m) e) s
  counted-outlined e s row m vs body k = record {
    state = k.state;
    ended = k.ended;
    over = k.over;
    stack = k.stack;
    made = k.made;
    ordinary = λ is. all-append IsOrdinary (staying row.compress (delivery.item_of row m) e.arrived) (delivery.item_of row m ∷ []) (all-sublist IsOrdinary (staying row.compress (delivery.item_of row m) e.arrived) e.arrived (staying-sublist row.compress (delivery.item_of row m) e.arrived) (k.ordinary is)) (ap is_goodbye body, tt);
  }

  replying-outline : (n : ℤ) (h : EndReading) (b : Bool) → is_sync_request h n ≡ b → outline (replying n h) ≡ outline (record h { stack = if b then answered n h.stack else h.stack })
  replying-outline n h true is = ap (λ (b : Bool). outline (if b then reads.answering n (reads.delivering (seen.Reply n) h) else reads.arriving (seen.Reply n) h)) is
  replying-outline n h false is = ap (λ (b : Bool). outline (if b then reads.answering n (reads.delivering (seen.Reply n) h) else reads.arriving (seen.Reply n) h)) is

  drained-outline : (es : List StackEntry) (place : ℕ) (packet : Packet) (h : EndReading) → outline (record (after_what schema place (farewell_line packet) h) { stack = failed_all (waits es) (after_what schema place (farewell_line packet) h).stack }) ≡ record { state = Draining; ended = true; over = h.over; stack = map placeless (failed_all (waits es) h.stack); made = h.made }
  drained-outline es place (message m) h = refl
  drained-outline es place mark h = refl

  pub delivery-outlined : {packet : Packet} {q : Phase} {e f : End} {ws : List What} {ps : List Packet} (place : ℕ) (h : EndReading) → DeliveryPart schema packet e ws ps f q → is_open e.state ≡ true → RepliesFit schema packet e h → HasOutline e (outline h) → HasOutline f (outline (after_whats schema place ws h))
  delivery-outlined {e} place h (parts.gets_request m row vs body found none) o fit k = counted-outlined e (outline h) row m vs body k
  delivery-outlined {e} place h (parts.replaces m row vs old sync level replies body found rep is) o fit k =
      left-outlined schema (place + 1) (what.Replaced old.seq ∷ reply_lines replies (request_answered old) (answer.Fault ResolverDestroyed)) (end_after replies (delivery.counted row (delivery.item_of row m) e)) (after_what schema place (what.DeliverRequest m.seq) h)
      (replaced old.seq, reply-has LeavesOutline outline-effects replies (request_answered old) (answer.Fault ResolverDestroyed))
      (end_after-outlined replies (delivery.counted row (delivery.item_of row m) e) (outline h) (counted-outlined e (outline h) row m vs body k))
  delivery-outlined {e} place h (parts.gets_answer m row a body found is) o fit k =
      subst (HasOutline (delivery.answers_wait a e)) (sym (replying-outline m.seq h true (fit.sync m row a refl body found ∙ is)))
      (record { state = k.state; ended = k.ended; over = k.over; stack = answered-stack m.seq a h.stack e.stack k.stack (fit.awaits m row a refl body found is); made = k.made; ordinary = k.ordinary })
  delivery-outlined {e} place h (parts.gets_reply m row a body found is) o fit k =
      subst (HasOutline (delivery.arrives (delivery.item_of row m) e)) (sym (replying-outline m.seq h false (fit.sync m row a refl body found ∙ is)))
      (record { state = k.state; ended = k.ended; over = k.over; stack = k.stack; made = k.made; ordinary = λ open_is. all-append IsOrdinary e.arrived (delivery.item_of row m ∷ []) (k.ordinary open_is) (ordinary-reply m.body a body, tt) })
  delivery-outlined {packet} {e} place h (parts.drains _ is) o fit k =
      subst (HasOutline (parts.drained_end (farewell_item packet) e)) (sym (fails-outline schema (place + 1) (waits e.stack) (after_what schema place (farewell_line packet) h) ∙ drained-outline e.stack place packet h))
      (record { state = refl; ended = refl; over = open-over e (outline h) o k; stack = failed-stack h.stack e.stack k.stack; made = k.made; ordinary = λ open_is. cc })
  delivery-outlined {e} place h (parts.passes_by m ordinary none) o fit k = absurd (fit.known m refl ordinary none)
