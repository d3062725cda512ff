-- Every step is bounded: part by part.
use Rattle.std.proofs.Common.{◌≡◌, ℕ, ◌+◌, ◌*◌, ◌≤◌, ℤ, Bool, true, false, not, ◌&&◌, cond, if◌then◌else◌, List, [], ◌∷◌, ◌++◌, drop, filter, length, map, Some, is_some, refl, sym, ap, subst, ◌∙◌, arith}
use Rattle.std.proofs.lemmas.List.{length-append, length-map}
use Rattle.actor_tree.specs.declared.actor.Actor.{Actor}
use Rattle.actor_tree.specs.Tree.{IsTree}
use Rattle.ipdl_base.specs.declared.kinds.Destroy.{Destroy}
use Rattle.ipdl_base.specs.declared.line.What.{What}
use Rattle.ipdl_base.specs.declared.line.What.TheVariants as what
use Rattle.ipdl_base.specs.declared.kinds.Reason.TheVariants as reason
use Rattle.ipdl_base.specs.declared.message.Message.{Message}
use Rattle.ipdl_base.specs.declared.schema.MessageRow.{MessageRow}
use Rattle.ipdl_base.specs.declared.schema.Schema.{Schema}
use Rattle.nesting_core.specs.declared.frame.Answer.{Answer}
use Rattle.nesting_core.specs.declared.frame.Answer.TheVariants as answer
use Rattle.nesting_core.specs.Frames.{head_of, is_unanswered}
use Rattle.promise_table.specs.declared.promise.Outcome.{Outcome}
use Rattle.promise_table.specs.Promises.{has_number, is_pending}
use Rattle.channel_model.specs.Acts.{goodbye}
use Rattle.channel_model.specs.Actors.{AreKnown, ids_of}
use Rattle.channel_model.specs.Answers as answering
use Rattle.channel_model.specs.Bounds.{pending_in, unsettled, IsBounded}
use Rattle.channel_model.specs.Deliveries as delivery
use Rattle.channel_model.specs.Deliveries.{unanswered}
use Rattle.channel_model.specs.Ends.{End, Packet, message, mark, StackEntry, PromiseEntry}
use Rattle.channel_model.specs.Events.{Answering, handled, kept}
use Rattle.channel_model.specs.Falls as fall
use Rattle.ipdl_base.specs.Sides.{top_id}
use Rattle.channel_model.specs.Numbers.{is_sync_row, makes_promise, is_constructor}
use Rattle.channel_model.specs.Outputs.{Output, AnsweredRequest, request_answered, resolver_answered, reply_to, line_at}
use Rattle.channel_model.specs.Parts
use Rattle.channel_model.specs.Parts.{FirstPart, LaterPart, LaterParts, OwnParts, DeliveryPart, after_outbox, reply_packet, reply_lines, reply_packets, end_after, falling, fallen_end, outbox_after, request_packets, promise_for}
use Rattle.channel_model.specs.Phases.{Phase, manager_of, fresh_of}
use Rattle.channel_model.specs.Returns as return
use Rattle.channel_model.specs.Sends as send
use Rattle.channel_model.specs.StepLaws.{IsMadeOf, IsDeliveryOfOnePart, StepsAreBounded}
use Rattle.channel_model.specs.Takes as take
use Rattle.channel_model.proofs.Counted.{bit, abandoned-count, falls-balance, waits, dropped-waits, released-waits, failed-waits, answered-waits}
use Rattle.channel_model.proofs.NameParts.{done_phase}
use Rattle.channel_model.proofs.KnownSteps.{KnownIn, later-known, first-known}
use Rattle.channel_model.proofs.StepParts.{by-parts}

-- Counts

-- the lines, and the packets, that a phase still allows
abbrev more_lines : Phase → ℕ
more_lines p = 2 * length p.fresh + bit p.renames

abbrev more_packets : Phase → ℕ
more_packets p = bit p.renames

unsettled-is : (e : End) → unsettled e ≡ length e.actors + (length (pending_in e.promises) + waits e.stack)
unsettled-is e = ap (λ (n : ℕ). length e.actors + (length (pending_in e.promises) + n)) (length-map (filter is_unanswered (send.frames_of e)) (λ frame. (head_of frame).seq))

following-length : (e : End) (packet : Packet) → length (after_outbox e packet) ≡ length e.outbox + 1
following-length e packet = length-append (map message e.outbox) (packet ∷ []) ∙ ap (λ (n : ℕ). n + 1) (length-map e.outbox message)

-- What a part prints and sends, together with what its phase still allows, is within these numbers of lines and
-- packets.
record Within (n k : ℕ) (ws : List What) (ps : List Packet) (f : End) (q : Phase) : Type 0 where
  lines : length ws + (unsettled f + more_lines q) ≤ n
  packets : length ps + (length f.outbox + more_packets q) ≤ k

-- Later parts

fallen-within : (p : Phase) (id : ℤ) (why : ℤ → Destroy) (e : End) → IsTree e.actors → Within (unsettled e + more_lines p) (length e.outbox + more_packets p) (Parts.fall_lines id why e) [] (fallen_end id e) (done_phase p)
fallen-within p id why e tree = record {
  lines = omega (arith, falls-balance id why e.actors e.promises tree, unsettled-is e, unsettled-is (fallen_end id e));
  packets = omega arith;
}

later-within : {p q : Phase} {e f : End} {ws : List What} {ps : List Packet} → LaterPart p e ws ps f q → IsTree e.actors → Within (unsettled e + more_lines p) (length e.outbox + more_packets p) ws ps f q
later-within {p} {e} (Parts.unnames name may silent) tree = record { lines = omega arith; packets = omega arith }
later-within {p} {e} (Parts.lets_go name x may is open_is) tree =
    let b : bit p.renames ≡ 1 = ap bit may in
    record { lines = omega (arith, b); packets = omega (arith, b, following-length e (reply_packet (resolver_answered x) (answer.Fault reason.ResolverDestroyed))) }
later-within {p} {e} (Parts.names more actors) tree = record { lines = omega arith; packets = omega arith }
later-within {p} {e} (Parts.releases seq closed) tree =
    let f : End = record e { stack = answering.released seq e.stack } in
    record { lines = omega (arith, unsettled-is e, unsettled-is f, released-waits seq e.stack); packets = omega arith }
later-within {p} {e} (Parts.keeps seq name x is closed) tree =
    let f : End = record e { stack = answering.released seq e.stack } in
    record { lines = omega (arith, unsettled-is e, unsettled-is f, released-waits seq e.stack); packets = omega arith }
later-within {p} {e} (Parts.builds id protocol rest is built) tree =
    let fresh : length p.fresh ≡ length (id ∷ rest) = ap length is in
    let a : Actor = record { id = id; protocol = protocol; manager = manager_of p.start } in
    record { lines = omega (arith, fresh, length-append e.actors (a ∷ [])); packets = omega arith }
later-within {p} {e} (Parts.deletes id cause) tree = fallen-within p id (fall.why_deleted id) e tree
later-within {p} {e} (Parts.falls why cause) tree =
    let w = fallen-within p top_id (λ id. why) (Parts.abandoned_end e) tree in
    record { lines = omega (arith, w.lines, abandoned-count e.promises, length-append (Parts.abandoned_lines e) (Parts.fall_lines top_id (λ id. why) (Parts.abandoned_end e))); packets = omega (arith, w.packets) }

laters-within : {schema : Schema} {protocol : ℕ} {p q : Phase} {e f : End} {ws : List What} {ps : List Packet} → LaterParts p e ws ps f q → KnownIn schema protocol p e → Within (unsettled e + more_lines p) (length e.outbox + more_packets p) ws ps f q
laters-within Parts.done h = record { lines = omega arith; packets = omega arith }
laters-within {schema} {protocol} (Parts.then {ws} {vs} {ps} {qs} part rest) h =
    let a = later-within part h.known.tree in
    let b = laters-within rest (later-known schema protocol part h) in
    record { lines = omega (arith, a.lines, b.lines, length-append ws vs); packets = omega (arith, a.packets, b.packets, length-append ps qs) }

-- Requests that are sent

sync-or-promise : (row : MessageRow) → bit (is_sync_row row) + bit (makes_promise row) ≤ 1
sync-or-promise row = by (is_sync_row row) (is_some row.returns)
  where
    by : (b c : Bool) → bit b + bit (not b && c) ≤ 1
    by true c = omega arith
    by false true = omega arith
    by false false = omega arith

fresh-one : (row : MessageRow) (m : Message) → length (fresh_of row m) ≤ 1
fresh-one row m = by (is_constructor row.kind)
  where
    by : (b : Bool) → length (if b then m.made ∷ [] else []) ≤ 1
    by true = omega arith
    by false = omega arith

pending-if : (b : Bool) (x : PromiseEntry) → length (cond b (x ∷ []) []) ≤ 1
pending-if true x = omega arith
pending-if false x = omega arith

pending-last : (xs : List PromiseEntry) (x : PromiseEntry) → length (pending_in (xs ++ x ∷ [])) ≤ length (pending_in xs) + 1
pending-last [] x = pending-if (is_pending x.promise) x
pending-last (y ∷ ys) x = by (is_pending y.promise) (pending-last ys x)
  where
    by : (b : Bool) → length (pending_in (ys ++ x ∷ [])) ≤ length (pending_in ys) + 1 → length (cond b (y ∷ pending_in (ys ++ x ∷ [])) (pending_in (ys ++ x ∷ []))) ≤ length (cond b (y ∷ pending_in ys) (pending_in ys)) + 1
    by true h = omega (arith, h)
    by false h = h

promised-count : (b : Bool) (xs : List PromiseEntry) (x : PromiseEntry) → length (pending_in (cond b (xs ++ x ∷ []) xs)) ≤ length (pending_in xs) + bit b
promised-count true xs x = pending-last xs x
promised-count false xs x = omega arith

waiting-count : (b : Bool) (row : MessageRow) (m : Message) (stack : List StackEntry) → waits (cond b (send.wait_for row m ∷ stack) stack) ≤ waits stack + bit b
waiting-count true row m stack = omega arith
waiting-count false row m stack = omega arith

request-count : (lazy : Bool) (e : End) (m : Message) → length (request_packets lazy e m) + length (outbox_after lazy m e.outbox) ≤ length e.outbox + 1
request-count true e m = omega (arith, length-append e.outbox (m ∷ []))
request-count false e m = omega (arith, following-length e (message m))

-- Answers

lines-count : (b : Bool) (q : AnsweredRequest) (a : Answer) → length (reply_lines b q a) ≤ 1
lines-count true q a = omega arith
lines-count false q a = omega arith

packets-count : (b : Bool) (e : End) (q : AnsweredRequest) (a : Answer) (f : End) → f.outbox ≡ e.outbox → length (reply_packets b e q a) + length (end_after b f).outbox ≤ length e.outbox + 1
packets-count true e q a f same = omega (arith, following-length e (reply_packet q a))
packets-count false e q a f same = let k : length f.outbox ≡ length e.outbox = ap length same in omega arith

following-unsettled : (b : Bool) (e : End) → unsettled (end_after b e) ≡ unsettled e
following-unsettled true e = refl
following-unsettled false e = refl

used-count : (by : Answering) (e : End) → unsettled (answering.without_resolver by e) ≡ unsettled e
used-count (handled seq) e =
    let f : End = record e { stack = answering.released seq e.stack } in
    unsettled-is f ∙ (ap (λ (n : ℕ). length e.actors + (length (pending_in e.promises) + n)) (released-waits seq e.stack) ∙ sym (unsettled-is e))
used-count (kept name number) e = refl

settled-count : (seq : ℤ) (outcome : Outcome) (xs : List PromiseEntry) → length (pending_in (map (take.settled_entry seq outcome) xs)) ≤ length (pending_in xs)
settled-count seq outcome [] = omega arith
settled-count seq outcome (x ∷ xs) = by (has_number seq x.promise) (is_pending x.promise) refl (settled-count seq outcome xs)
  where
    rest : List PromiseEntry
    rest = map (take.settled_entry seq outcome) xs

    one : (y : PromiseEntry) (b c : Bool) → is_pending y.promise ≡ b → (b ≡ true → c ≡ true) → length (pending_in rest) ≤ length (pending_in xs) → length (pending_in (y ∷ rest)) ≤ length (cond c (x ∷ pending_in xs) (pending_in xs))
    one y true true is k h = subst (λ (b : Bool). length (cond b (y ∷ pending_in rest) (pending_in rest)) ≤ length (x ∷ pending_in xs)) (sym is) (omega (arith, h))
    one y true false is k h = let e : false ≡ true = k refl in cc
    one y false true is k h = subst (λ (b : Bool). length (cond b (y ∷ pending_in rest) (pending_in rest)) ≤ length (x ∷ pending_in xs)) (sym is) (omega (arith, h))
    one y false false is k h = subst (λ (b : Bool). length (cond b (y ∷ pending_in rest) (pending_in rest)) ≤ length (pending_in xs)) (sym is) h

    by : (has pending : Bool) → is_pending x.promise ≡ pending → length (pending_in rest) ≤ length (pending_in xs)
        → length (pending_in (record x { promise = cond (has && pending) (record x.promise { outcome = Some outcome }) x.promise } ∷ rest)) ≤ length (cond pending (x ∷ pending_in xs) (pending_in xs))
    by true true is h = omega (arith, h)
    by true false is h = one x false false is (λ e. e) h
    by false pending is h = one x pending pending is (λ e. e) h

-- First parts

module _ (schema : Schema) (protocol : ℕ) (e : End) where
  first-within : {p : Phase} {f : End} {ws : List What} {ps : List Packet} → FirstPart schema e ws ps f p → Within (unsettled e + 5) (length e.outbox + 2) ws ps f p
  first-within (Parts.refuses w is) = record { lines = omega arith; packets = omega arith }
  first-within (Parts.renames w is) = record { lines = omega arith; packets = omega arith }
  first-within (Parts.flushes open_is) = record { lines = omega arith; packets = omega (arith, length-map e.outbox message) }
  first-within (Parts.sends row route vs name sent) =
      let m : Message = send.request_of e row route vs in
      let f : End = Parts.sent_end row m e in
      record {
        lines = omega (arith, unsettled-is e, unsettled-is f, promised-count (makes_promise row) e.promises (promise_for m), waiting-count (is_sync_row row) row m e.stack, sync-or-promise row, fresh-one row m);
        packets = omega (arith, request-count row.lazy e m);
      }
  first-within (Parts.answers by vs r row found may ok is) = record { lines = omega (arith, used-count by e); packets = omega (arith, following-length e (message (reply_to (resolver_answered r) (answering.answer_body vs)))) }
  first-within (Parts.closes open_is none) = record { lines = omega arith; packets = omega (arith, following-length e (message goodbye)) }
  first-within (Parts.dies open_is) = record { lines = omega arith; packets = omega (arith, following-length e mark) }
  first-within (Parts.dies_silent open_is alive) = record { lines = omega arith; packets = omega arith }
  first-within (Parts.takes m sync level row vs next body found stays) = record { lines = omega (arith, fresh-one row m); packets = omega arith }
  first-within (Parts.drops m sync level row vs id replies next body found gone is) =
      let left : End = Parts.left_end e in
      let q : AnsweredRequest = request_answered m in
      let a : Answer = answer.Fault reason.ActorDestroyed in
      record { lines = omega (arith, following-unsettled replies left, lines-count replies q a); packets = omega (arith, packets-count replies e q a left refl) }
  first-within (Parts.drops_unknown m sync level vs next body none) = record { lines = omega arith; packets = omega arith }
  first-within (Parts.takes_reply m sync level a next body late) = record { lines = omega arith; packets = omega arith }
  first-within (Parts.settles m sync level row a next body found is) = record { lines = omega (arith, settled-count m.seq (Parts.reply_outcome schema e row a) e.promises); packets = omega arith }
  first-within (Parts.shuts last next is) = record { lines = omega arith; packets = omega arith }
  first-within (Parts.returns entry row vs told lost returns t l) =
      let off : End = record e { stack = drop 1 e.stack } in
      let q : AnsweredRequest = return.dispatch_answered entry in
      let a : Answer = return.return_answer schema e row entry vs in
      let r : AnsweredRequest = resolver_answered (answering.resolver_in entry) in
      let c : Answer = answer.Fault reason.ResolverDestroyed in
      let told_end : End = end_after told off in
      record {
        lines = omega (arith, length-append (reply_lines told q a) (reply_lines lost r c), lines-count told q a, lines-count lost r c, following-unsettled lost told_end, following-unsettled told off, unsettled-is e, unsettled-is off, dropped-waits e.stack);
        packets = omega (arith, length-append (reply_packets told e q a) (reply_packets lost (end_after told e) r c), packets-count told e q a e refl, packets-count lost (end_after told e) r c told_end (told-outbox told));
      }
    where
      told-outbox : (b : Bool) → (end_after b (record e { stack = drop 1 e.stack })).outbox ≡ (end_after b e).outbox
      told-outbox true = refl
      told-outbox false = refl
  first-within (Parts.resumes wait row on_top found) = record { lines = omega (arith, unsettled-is e, unsettled-is (record e { stack = drop 1 e.stack }), dropped-waits e.stack); packets = omega arith }

  own-within : {p : Phase} {f : End} {ws : List What} {ps : List Packet} → OwnParts schema e ws ps f p → AreKnown protocol (ids_of schema e) → Within (unsettled e + 5) (length e.outbox + 2) ws ps f p
  own-within (Parts.begun {ws} {vs} {ps} {qs} first rest over) known =
      let a = first-within first in
      let b = laters-within rest (first-known schema protocol first known) in
      record { lines = omega (arith, a.lines, b.lines, length-append ws vs); packets = omega (arith, a.packets, b.packets, length-append ps qs) }

-- Deliveries

-- a delivery is within the same bounds
record IsDelivered (e f : End) (ws : List What) (ps : List Packet) : Type 0 where
  lines : length ws + unsettled f ≤ unsettled e + 5
  packets : length ps + length f.outbox ≤ length e.outbox + 2

delivery-within : {schema : Schema} {packet : Packet} {p : Phase} {e f : End} {ws : List What} {ps : List Packet} → DeliveryPart schema packet e ws ps f p → IsDelivered e f ws ps
delivery-within (Parts.gets_request m row vs body found none) = record { lines = omega arith; packets = omega arith }
delivery-within {e} (Parts.replaces m row vs old sync level replies body found rep is) =
    let f : End = delivery.counted row (delivery.item_of row m) e in
    let q : AnsweredRequest = request_answered old in
    let a : Answer = answer.Fault reason.ResolverDestroyed in
    record { lines = omega (arith, following-unsettled replies f, lines-count replies q a); packets = omega (arith, packets-count replies e q a f refl) }
delivery-within {e} (Parts.gets_answer m row a body found sync) = record { lines = omega (arith, unsettled-is e, unsettled-is (delivery.answers_wait a e), answered-waits a e.stack); packets = omega arith }
delivery-within (Parts.gets_reply m row a body found async) = record { lines = omega arith; packets = omega arith }
delivery-within {e} (Parts.drains packet is) =
    let f : End = Parts.drained_end (Parts.farewell_item packet) e in
    record { lines = omega (arith, length-map (unanswered e) what.Fails, unsettled-is f, failed-waits e.stack); packets = omega arith }
delivery-within (Parts.passes_by m ordinary none) = record { lines = omega arith; packets = omega arith }

-- Steps

own-bounded : (schema : Schema) (protocol : ℕ) (e : End) (output : Output) → AreKnown protocol (ids_of schema e) → IsMadeOf (OwnParts schema e) e.side output → IsBounded e output
own-bounded schema protocol e output known made =
    let b = own-within schema protocol e made.parts known in
    let k : length output.lines ≡ length made.whats = ap length made.lines ∙ length-map made.whats (line_at e.side) in
    record { lines = omega (arith, k, b.lines); packets = omega (arith, b.packets) }

delivered-bounded : (schema : Schema) (e : End) (link : List Packet) (output : Output) → IsDeliveryOfOnePart schema e link output → IsBounded e output
delivered-bounded schema e link output (packet, is, open_is, made) =
    let b = delivery-within made.parts in
    let k : length output.lines ≡ length made.whats = ap length made.lines ∙ length-map made.whats (line_at e.side) in
    record { lines = omega (arith, k, b.lines); packets = b.packets }

pub steps_are_bounded : StepsAreBounded
steps_are_bounded schema protocol e link happened output is known = by-parts schema e link happened output (IsBounded e output) is (own-bounded schema protocol e output known) (λ same made. delivered-bounded schema e link output made)
