-- Every step keeps promises numbered.
use Rattle.std.proofs.Common.{◌≡◌, ◌≢◌, ℕ, zero, suc, ◌+◌, ◌≤◌, ℤ, Bool, true, false, ◌&&◌, cond, List, [], ◌∷◌, ◌++◌, drop, map, Some, refl, sym, ap, subst, ◌∙◌, arith}
use Rattle.std.proofs.lemmas.List.{map-append, append-nil}
use Rattle.actor_tree.specs.Tree.{lives}
use Rattle.ipdl_base.specs.declared.kinds.Reason.{Reason}
use Rattle.ipdl_base.specs.declared.kinds.Reason.TheVariants as reason
use Rattle.ipdl_base.specs.declared.kinds.Side.{Side}
use Rattle.ipdl_base.specs.declared.kinds.Side.TheVariants.{Parent, Child}
use Rattle.ipdl_base.specs.declared.line.What.{What}
use Rattle.ipdl_base.specs.declared.schema.MessageRow.{MessageRow}
use Rattle.ipdl_base.specs.declared.schema.Schema.{Schema}
use Rattle.ipdl_base.specs.declared.message.Message.{Message}
use Rattle.promise_table.specs.declared.promise.Outcome.{Outcome}
use Rattle.promise_table.specs.declared.promise.Promise.{Promise}
use Rattle.promise_table.specs.Promises.{has_number, is_pending}
use Rattle.channel_model.specs.Answers.{without_resolver}
use Rattle.channel_model.specs.Deliveries as delivery
use Rattle.channel_model.specs.Ends.{End, Packet, PromiseEntry}
use Rattle.channel_model.specs.Events.{Answering, handled, kept}
use Rattle.channel_model.specs.Falls.{passes, rejected_entry, rejected}
use Rattle.channel_model.specs.Numbers.{seq_of, makes_promise}
use Rattle.channel_model.specs.Parts
use Rattle.channel_model.specs.Parts.{FirstPart, LaterPart, DeliveryPart, end_after, falling, fallen_end, promise_for, sent_end}
use Rattle.channel_model.specs.Phases.{Phase}
use Rattle.channel_model.specs.Requests.{Requests, promise_seq, requests_of, IsSeqOf, AreNumbered}
use Rattle.channel_model.specs.Sends as sends
use Rattle.channel_model.specs.StepLaws.{NumbersStay, NextNumberIsFree}
use Rattle.channel_model.specs.Takes as takes
use Rattle.channel_model.proofs.Known.{all-map, all-append, distinct-last}
use Rattle.channel_model.proofs.StepParts.{parts-keep}

-- Numbers

pub same_seq : (side : Side) (j k : ℕ) → 1 ≤ j → 1 ≤ k → seq_of side j ≡ seq_of side k → j ≡ k
same_seq Parent j k one other e = cc
same_seq Child zero k one other e = absurd (omega arith)
same_seq Child (suc j) zero one other e = absurd (omega arith)
same_seq Child (suc j) (suc k) one other e = let f : j ≡ k = cc in ap suc f

pub more_seqs : (side : Side) (n : ℕ) (seq : ℤ) → IsSeqOf side n seq → IsSeqOf side (n + 1) seq
more_seqs side n seq (k, one, low, e) = (k, one, omega arith, e)

pub next-is_free : (side : Side) (n : ℕ) (seq : ℤ) → IsSeqOf side n seq → seq ≢ seq_of side (n + 1)
next-is_free side n seq (k, one, low, e) is = let f : k ≡ n + 1 = same_seq side k (n + 1) one (omega arith) (sym e ∙ is) in absurd (omega arith)

pub next_number_is_free : NextNumberIsFree
next_number_is_free e h = all-map (IsSeqOf e.side e.sent) (λ seq. seq ≢ sends.next_seq e) (map promise_seq e.promises) (next-is_free e.side e.sent) h.promised

numbered-sent : (r : Requests) → AreNumbered r → AreNumbered (record r { sent = r.sent + 1 })
numbered-sent r h = record { promised = all-map (IsSeqOf r.side r.sent) (IsSeqOf r.side (r.sent + 1)) r.promised (more_seqs r.side r.sent) h.promised; distinct = h.distinct }

numbered-promised : (r : Requests) → AreNumbered r → AreNumbered (record r { sent = r.sent + 1; promised = r.promised ++ seq_of r.side (r.sent + 1) ∷ [] })
numbered-promised r h = record {
  promised = all-append (IsSeqOf r.side (r.sent + 1)) r.promised (seq_of r.side (r.sent + 1) ∷ []) (numbered-sent r h).promised ((r.sent + 1, omega arith, omega arith, refl), tt);
  distinct = distinct-last r.promised (seq_of r.side (r.sent + 1)) h.distinct (all-map (IsSeqOf r.side r.sent) (λ seq. seq ≢ seq_of r.side (r.sent + 1)) r.promised (next-is_free r.side r.sent) h.promised);
}

-- Promises that are rejected or settled

rejected_one : (b : Bool) (why : Reason) (entry : PromiseEntry) → promise_seq (cond b (rejected_entry why entry) entry) ≡ promise_seq entry
rejected_one true why entry = refl
rejected_one false why entry = refl

rejected-seqs : (test : Promise → Bool) (why : Reason) (promises : List PromiseEntry) → map promise_seq (rejected test why promises) ≡ map promise_seq promises
rejected-seqs test why [] = refl
rejected-seqs test why (entry ∷ promises) =
    ap (λ (seq : ℤ). seq ∷ map promise_seq (rejected test why promises)) (rejected_one (passes test entry) why entry) ∙ ap (λ (seqs : List ℤ). promise_seq entry ∷ seqs) (rejected-seqs test why promises)

settled_one : (b : Bool) (p : Promise) (outcome : Outcome) → (cond b (record p { outcome = Some outcome }) p).seq ≡ p.seq
settled_one true p outcome = refl
settled_one false p outcome = refl

settled-seqs : (seq : ℤ) (outcome : Outcome) (promises : List PromiseEntry) → map promise_seq (map (takes.settled_entry seq outcome) promises) ≡ map promise_seq promises
settled-seqs seq outcome [] = refl
settled-seqs seq outcome (entry ∷ promises) =
    ap (λ (n : ℤ). n ∷ map promise_seq (map (takes.settled_entry seq outcome) promises)) (settled_one (has_number seq entry.promise && is_pending entry.promise) entry.promise outcome)
    ∙ ap (λ (seqs : List ℤ). promise_seq entry ∷ seqs) (settled-seqs seq outcome promises)

-- Requests that are sent

numbered_if : (b : Bool) (r : Requests) → AreNumbered r → AreNumbered (record r { sent = r.sent + 1; promised = r.promised ++ cond b (seq_of r.side (r.sent + 1) ∷ []) [] })
numbered_if true r h = numbered-promised r h
numbered_if false r h = subst (λ (seqs : List ℤ). AreNumbered (record r { sent = r.sent + 1; promised = seqs })) (sym (append-nil r.promised)) (numbered-sent r h)

promises_if : (b : Bool) (m : Message) (promises : List PromiseEntry) → map promise_seq (cond b (promises ++ promise_for m ∷ []) promises) ≡ map promise_seq promises ++ cond b (m.seq ∷ []) []
promises_if true m promises = map-append promise_seq promises (promise_for m ∷ [])
promises_if false m promises = sym (append-nil (map promise_seq promises))

sent-requests : (e : End) (row : MessageRow) (m : Message) → m.seq ≡ seq_of e.side (e.sent + 1) → AreNumbered (requests_of e) → AreNumbered (requests_of (sent_end row m e))
sent-requests e row m is h =
    let after : List ℤ → Requests = λ seqs. record { side = e.side; sent = e.sent + 1; promised = seqs } in
    subst (λ (seqs : List ℤ). AreNumbered (after seqs)) (sym (promises_if (makes_promise row) m e.promises))
    (subst (λ (seq : ℤ). AreNumbered (after (map promise_seq e.promises ++ cond (makes_promise row) (seq ∷ []) []))) (sym is) (numbered_if (makes_promise row) (requests_of e) h))

-- Parts

-- promises with the same numbers are numbered
same-promised : (e : End) (promises : List PromiseEntry) → map promise_seq promises ≡ map promise_seq e.promises → AreNumbered (requests_of e) → AreNumbered (requests_of (record e { promises = promises }))
same-promised e promises same h = subst (λ (seqs : List ℤ). AreNumbered (record (requests_of e) { promised = seqs })) (sym same) h

fallen-numbered : (id : ℤ) (e : End) → AreNumbered (requests_of e) → AreNumbered (requests_of (fallen_end id e))
fallen-numbered id e h = same-promised e (fallen_end id e).promises (rejected-seqs (λ p. lives p.actor (falling id e)) reason.ActorDestroyed e.promises) h

following-numbered : (b : Bool) (e : End) → AreNumbered (requests_of e) → AreNumbered (requests_of (end_after b e))
following-numbered true e h = h
following-numbered false e h = h

used-numbered : (by : Answering) (e : End) → AreNumbered (requests_of e) → AreNumbered (requests_of (without_resolver by e))
used-numbered (handled seq) e h = h
used-numbered (kept name number) e h = h

first-numbered : {schema : Schema} {p : Phase} {e f : End} {ws : List What} {ps : List Packet} → FirstPart schema e ws ps f p → AreNumbered (requests_of e) → AreNumbered (requests_of f)
first-numbered (Parts.refuses w is) h = h
first-numbered (Parts.renames w is) h = h
first-numbered (Parts.flushes open_is) h = h
first-numbered {e} (Parts.sends row route vs name sent) h = sent-requests e row (sends.request_of e row route vs) refl h
first-numbered {e} (Parts.answers by vs r row found may ok is) h = used-numbered by e h
first-numbered (Parts.closes open_is none) h = h
first-numbered (Parts.dies open_is) h = h
first-numbered (Parts.dies_silent open_is alive) h = h
first-numbered (Parts.takes m sync level row vs next body found stays) h = h
first-numbered {e} (Parts.drops m sync level row vs id replies next body found gone is) h = following-numbered replies (Parts.left_end e) h
first-numbered (Parts.drops_unknown m sync level vs next body none) h = h
first-numbered (Parts.takes_reply m sync level a next body late) h = h
first-numbered {schema} {e} (Parts.settles m sync level row a next body found is) h = same-promised (Parts.left_end e) _ (settled-seqs m.seq (Parts.reply_outcome schema e row a) e.promises) h
first-numbered (Parts.shuts last next is) h = h
first-numbered {e} (Parts.returns entry row vs told lost returns t l) h = let off : End = record e { stack = drop 1 e.stack } in following-numbered lost (end_after told off) (following-numbered told off h)
first-numbered (Parts.resumes wait row on_top found) h = h

later-numbered : {p q : Phase} {e f : End} {ws : List What} {ps : List Packet} → LaterPart p e ws ps f q → AreNumbered (requests_of e) → AreNumbered (requests_of f)
later-numbered (Parts.unnames name may silent) h = h
later-numbered (Parts.lets_go name r may held open_is) h = h
later-numbered (Parts.names more actors) h = h
later-numbered (Parts.releases seq closed) h = h
later-numbered (Parts.keeps seq name r held closed) h = h
later-numbered (Parts.builds id protocol rest fresh built) h = h
later-numbered {e} (Parts.deletes id cause) h = fallen-numbered id e h
later-numbered {e} (Parts.falls why cause) h = fallen-numbered _ (Parts.abandoned_end e) (same-promised e _ (rejected-seqs (λ p. true) reason.ChannelClosed e.promises) h)

delivery-numbered : {schema : Schema} {packet : Packet} {p : Phase} {e f : End} {ws : List What} {ps : List Packet} → DeliveryPart schema packet e ws ps f p → AreNumbered (requests_of e) → AreNumbered (requests_of f)
delivery-numbered (Parts.gets_request m row vs body found none) h = h
delivery-numbered {e} (Parts.replaces m row vs old sync level replies body found rep is) h = following-numbered replies (delivery.counted row (delivery.item_of row m) e) h
delivery-numbered (Parts.gets_answer m row a body found sync) h = h
delivery-numbered (Parts.gets_reply m row a body found async) h = h
delivery-numbered (Parts.drains packet is) h = h
delivery-numbered (Parts.passes_by m ordinary none) h = h

pub numbers_stay : NumbersStay
numbers_stay schema e link happened output is h = parts-keep schema (λ (e : End). AreNumbered (requests_of e)) (record { first = first-numbered; later = later-numbered; delivery = delivery-numbered }) e link happened output is h
