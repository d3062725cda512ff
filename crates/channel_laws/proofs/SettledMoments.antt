-- An end that has closed has settled each of its promises, also once it has died.
use Rattle.std.proofs.Common.{◌≡◌, ℕ, ℤ, Bool, true, false, not, ◌&&◌, ◌⊎◌, inl, inr, is_some, drop, cond, if◌then◌else◌, List, [], ◌∷◌, ◌++◌, map, Option, Some, None, refl, sym, ap, subst, ◌∙◌}
use Rattle.std.specs.List.{AllByRecursion}
use Rattle.std.proofs.lemmas.Bool.{false≢true}
use Rattle.ipdl_base.specs.declared.kinds.EndState.{EndState}
use Rattle.ipdl_base.specs.declared.kinds.EndState.TheVariants.{Open, Draining, Closed, Dead}
use Rattle.ipdl_base.specs.declared.kinds.Reason.{Reason}
use Rattle.ipdl_base.specs.declared.kinds.Reason.TheVariants.{ActorDestroyed, ChannelClosed}
use Rattle.ipdl_base.specs.declared.kinds.SendRefusal.{SendRefusal}
use Rattle.ipdl_base.specs.declared.kinds.SendRefusal.TheVariants as refusal
use Rattle.ipdl_base.specs.declared.line.What.{What}
use Rattle.ipdl_base.specs.declared.schema.MessageRow.{MessageRow}
use Rattle.ipdl_base.specs.declared.value.Values.{Values}
use Rattle.ipdl_base.specs.declared.schema.Schema.{Schema}
use Rattle.actor_tree.specs.Tree.{lives}
use Rattle.promise_table.specs.declared.promise.Outcome.{Outcome}
use Rattle.promise_table.specs.declared.promise.Promise.{Promise}
use Rattle.promise_table.specs.Promises.{is_pending, has_number, settled}
use Rattle.channel_model.specs.Answers as answering
use Rattle.channel_model.specs.Deliveries as delivery
use Rattle.ipdl_base.specs.Sides.{top_id}
use Rattle.channel_model.specs.Numbers.{protocol_of}
use Rattle.channel_model.specs.Sends as send
use Rattle.channel_model.specs.ValueActors.{lives_as}
use Rattle.channel_model.specs.Ends.{End, Packet, PromiseEntry}
use Rattle.channel_model.specs.Events.{Answering, handled, kept, Event}
use Rattle.channel_model.specs.Falls as fall
use Rattle.channel_model.specs.Outputs.{is_open, is_closed}
use Rattle.channel_model.specs.Parts
use Rattle.channel_model.specs.Parts.{OwnParts, FirstPart, LaterPart, LaterParts, DeliveryPart, end_after, left_end}
use Rattle.channel_model.specs.Phases.{Phase}
use Rattle.channel_model.specs.States.{IsSettled, IsInState}
use Rattle.channel_model.specs.Takes.{settled_entry}
use Rattle.history_reading.specs.EndReading.{EndReading, is_settled_packet}
use Rattle.history_reading.specs.Numbers.{has}
use Rattle.history_reading.specs.Reading.{after_what}
use Rattle.channel_laws.specs.EndActors.{ReadsActors}
use Rattle.channel_laws.specs.Outlines.{Over, HasOutline, outline}
use Rattle.channel_laws.specs.Rows.{HasSoundRows}
use Rattle.channel_laws.specs.Tested.{after_whats}
use Rattle.channel_laws.proofs.ActorParts.{first-begins, delivery-begins}
use Rattle.channel_laws.proofs.EffectLines.{IsEffectLine, built, answers_ok, answers_fault, fails, resolved, rejected, fell, laters-effects, effects-leave}
use Rattle.channel_laws.proofs.Growing.{whats-append}
use Rattle.channel_laws.proofs.Moves.{StepParts, acts, delivers}
use Rattle.history_reading.specs.SentPacket as told
use Rattle.history_reading.specs.SentPacket.{SentPacket, Request, requests_of}
use Rattle.history_reading.specs.Settled.{all_settled, settled_moment}
use Rattle.channel_laws.specs.Promised.{Promised, promised_in, promised_entry, IsReadPromise, PromisesAreRead}

abbrev AreSettled : List PromiseEntry → Type 0
AreSettled promises = AllByRecursion IsSettled promises

-- What is settled stays settled

settled-stays : (n : ℤ) (outcome : Outcome) (promises : List PromiseEntry) → AreSettled promises → AreSettled (map (settled_entry n outcome) promises)
settled-stays n outcome [] h = tt
settled-stays n outcome (entry ∷ promises) h = (by (has_number n entry.promise) (is_pending entry.promise) h.0, settled-stays n outcome promises h.1)
  where
    by : (b c : Bool) → c ≡ false → is_pending (if b && c then record entry.promise { outcome = Some outcome } else entry.promise) ≡ false
    by true true e = cc
    by true false e = h.0
    by false c e = h.0

rejected-stays : (test : Promise → Bool) (why : Reason) (promises : List PromiseEntry) → AreSettled promises → AreSettled (fall.rejected test why promises)
rejected-stays test why [] h = tt
rejected-stays test why (entry ∷ promises) h = (by (fall.passes test entry), rejected-stays test why promises h.1)
  where
    by : (b : Bool) → is_pending (if b then fall.rejected_entry why entry else entry).promise ≡ false
    by true = refl
    by false = h.0

following-stays : (b : Bool) (e : End) → AreSettled e.promises → AreSettled (end_after b e).promises
following-stays true e h = h
following-stays false e h = h

without-stays : (by : Answering) (e : End) → AreSettled e.promises → AreSettled (answering.without_resolver by e).promises
without-stays (handled seq) e h = h
without-stays (kept name number) e h = h

-- only an open end, which has not closed, sends
over-open : (s : EndState) (b : Bool) → is_open s ≡ true → Over s b → b ≡ false
over-open Open b is h = h
over-open Draining b is h = cc
over-open Closed b is h = cc
over-open Dead b is h = cc

accepted-open : (schema : Schema) (e : End) (row : MessageRow) (route : ℤ) (vs : Values) → send.send_refusal schema e row route vs ≡ None → is_open e.state ≡ true
accepted-open schema e row route vs accepted = by (is_open e.state) refl accepted
  where
    later : Option SendRefusal
    later = if not (lives_as e.actors (protocol_of row.number) route) then Some refusal.DeadActor else (if is_some (send.stack_refusal e row) then send.stack_refusal e row else send.send_value_refusal schema e row route vs)

    by : (b : Bool) → is_open e.state ≡ b → (if not b then Some refusal.Closed else later) ≡ None → is_open e.state ≡ true
    by true is e = is
    by false is e = cc

module _ (schema : Schema) where
  first-stays : {e f : End} {ws : List What} {ps : List Packet} {q : Phase} (own : EndReading) → FirstPart schema e ws ps f q → own.over ≡ true → HasOutline e (outline own) → AreSettled e.promises → AreSettled f.promises
  first-stays own (Parts.refuses w is) over o h = h
  first-stays own (Parts.renames w is) over o h = h
  first-stays own (Parts.flushes open_end) over o h = h
  first-stays {e} own (Parts.sends row route vs name sent) over o h = absurd (false≢true (sym (over-open e.state own.over (accepted-open schema e row route vs sent.accepted) o.over) ∙ over))
  first-stays {e} own (Parts.answers by vs r row found may ok used) over o h = without-stays by e h
  first-stays own (Parts.closes open_end waits) over o h = h
  first-stays own (Parts.dies open_end) over o h = h
  first-stays own (Parts.dies_silent open_end alive) over o h = h
  first-stays own (Parts.takes m sync level row vs next body found stays) over o h = h
  first-stays {e} own (Parts.drops m sync level row vs id replies next body found gone is) over o h = following-stays replies (left_end e) h
  first-stays own (Parts.drops_unknown m sync level vs next body found) over o h = h
  first-stays own (Parts.takes_reply m sync level a next body late) over o h = h
  first-stays {e} own (Parts.settles m sync level row a next body found awaited) over o h = settled-stays m.seq (Parts.reply_outcome schema e row a) e.promises h
  first-stays own (Parts.shuts last next is) over o h = h
  first-stays {e} own (Parts.returns entry row vs told_it lost may t l) over o h = following-stays lost (end_after told_it (record e { stack = drop 1 e.stack })) (following-stays told_it (record e { stack = drop 1 e.stack }) h)
  first-stays own (Parts.resumes wait row on_top found) over o h = h

  later-stays : {p q : Phase} {e f : End} {ws : List What} {ps : List Packet} → LaterPart p e ws ps f q → AreSettled e.promises → AreSettled f.promises
  later-stays (Parts.unnames name may silent) h = h
  later-stays (Parts.lets_go name r may held o) h = h
  later-stays (Parts.names more holds) h = h
  later-stays (Parts.releases seq is) h = h
  later-stays (Parts.keeps seq name r is o) h = h
  later-stays (Parts.builds id protocol rest fresh alive) h = h
  later-stays {e = e} (Parts.deletes id is) h = rejected-stays (λ p. lives p.actor (Parts.falling id e)) ActorDestroyed e.promises h
  later-stays {e = e} (Parts.falls why is) h = rejected-stays (λ p. lives p.actor (Parts.falling top_id e)) ActorDestroyed (Parts.abandoned_end e).promises (rejected-stays (λ p. true) ChannelClosed e.promises h)

  laters-stay : {p q : Phase} {e f : End} {ws : List What} {ps : List Packet} → LaterParts p e ws ps f q → AreSettled e.promises → AreSettled f.promises
  laters-stay Parts.done h = h
  laters-stay (Parts.then part rest) h = laters-stay rest (later-stays part h)

  delivery-stays : {packet : Packet} {q : Phase} {e f : End} {ws : List What} {ps : List Packet} → DeliveryPart schema packet e ws ps f q → AreSettled e.promises → AreSettled f.promises
  delivery-stays (Parts.gets_request m row vs body found none) h = h
  delivery-stays {e = e} (Parts.replaces m row vs old sync level replies body found is told_it) h = following-stays replies (delivery.counted row (delivery.item_of row m) e) h
  delivery-stays (Parts.gets_answer m row a body found is) h = h
  delivery-stays (Parts.gets_reply m row a body found is) h = h
  delivery-stays (Parts.drains packet is) h = h
  delivery-stays (Parts.passes_by m is found) h = h

  -- Later parts change neither the state nor whether the end has closed

  over-left : (place : ℕ) (w : What) (own : EndReading) → IsEffectLine w → (after_what schema place w own).over ≡ own.over
  over-left place w own (built id protocol) = refl
  over-left place w own (answers_ok n vs) = refl
  over-left place w own (answers_fault n reason) = refl
  over-left place w own (fails n) = refl
  over-left place w own (resolved n vs) = refl
  over-left place w own (rejected n reason) = refl
  over-left place w own (fell id why) = refl

  later-state : {p q : Phase} {e f : End} {ws : List What} {ps : List Packet} → LaterPart p e ws ps f q → f.state ≡ e.state
  later-state (Parts.unnames name may silent) = refl
  later-state (Parts.lets_go name r may held o) = refl
  later-state (Parts.names more holds) = refl
  later-state (Parts.releases seq is) = refl
  later-state (Parts.keeps seq name r is o) = refl
  later-state (Parts.builds id protocol rest fresh alive) = refl
  later-state (Parts.deletes id is) = refl
  later-state (Parts.falls why is) = refl

  laters-state : {p q : Phase} {e f : End} {ws : List What} {ps : List Packet} → LaterParts p e ws ps f q → f.state ≡ e.state
  laters-state Parts.done = refl
  laters-state (Parts.then part rest) = laters-state rest ∙ later-state part

  -- an end that closes is closed after the step, or had closed before
  own-over : HasSoundRows schema → (place : ℕ) (own : EndReading) {q : Phase} {e f : End} {ws : List What} {ps : List Packet} → OwnParts schema e ws ps f q → ReadsActors schema e own → (after_whats schema place ws own).over ≡ true → (is_closed f.state ≡ true) ⊎ (own.over ≡ true)
  own-over rows place own {f = g} (Parts.begun {f} {ws} {vs} part rest ended) actors over =
      let at = whats-append schema place ws vs own in
      let first : EndReading = after_whats schema place ws own in
      let same : (after_whats schema at.0 vs first).over ≡ first.over = effects-leave (λ (read : EndReading). read.over) schema over-left at.0 vs first (laters-effects rest) in
      elim ((first-begins schema rows place own part actors.handled).over (sym same ∙ (sym (ap (λ (read : EndReading). read.over) at.1) ∙ over))) [
        | inl closed ↦ inl (ap is_closed (laters-state rest) ∙ closed)
        | inr before ↦ inr before
      ]

  own-stays : (own : EndReading) {q : Phase} {e f : End} {ws : List What} {ps : List Packet} → OwnParts schema e ws ps f q → own.over ≡ true → HasOutline e (outline own) → AreSettled e.promises → AreSettled f.promises
  own-stays own (Parts.begun part rest ended) over o h = laters-stay rest (first-stays own part over o h)

  -- an end that has closed has settled its promises
  abbrev pub OverSettles : End → EndReading → Type 0
  OverSettles e own = own.over ≡ true → AllByRecursion IsSettled e.promises

  pub step-settles : HasSoundRows schema → (place : ℕ) (e : End) (own : EndReading) (link : List Packet) {ev : Event} {ws : List What} {ps : List Packet} {f : End} {q : Phase} → StepParts schema e link ev ws ps f q → ReadsActors schema e own → HasOutline e (outline own) → IsInState f → OverSettles e own → OverSettles f (after_whats schema place ws own)
  step-settles rows place e own link (acts same part) actors o state h over =
      elim (own-over rows place own part actors over) [
        | inl closed ↦ state.settled closed
        | inr before ↦ own-stays own part before o (h before)
      ]
  step-settles rows place e own link (delivers packet first opened part) actors o state h over =
      elim ((delivery-begins schema place own packet part actors.handled).over over) [
        | inl closed ↦ state.settled closed
        | inr before ↦ delivery-stays part (h before)
      ]

-- The moment

settled-has : (settled : List ℤ) (promises : List PromiseEntry) → AllByRecursion (IsReadPromise settled) promises → AreSettled promises → AllByRecursion (λ (p : Promised). has settled p.seq ≡ true) (map promised_entry promises)
settled-has settled [] r h = tt
settled-has settled (entry ∷ promises) r h = (by (has settled entry.promise.seq) (sym h.0 ∙ r.0), settled-has settled promises r.1 h.1)
  where
    by : (b : Bool) → false ≡ not b → b ≡ true
    by true e = refl
    by false e = cc

all-requests : (settled : List ℤ) (sent : List SentPacket) → AllByRecursion (λ (p : Promised). has settled p.seq ≡ true) (promised_in (requests_of sent)) → all_settled settled sent ≡ true
all-requests settled [] h = refl
all-requests settled (told.request r ∷ sent) h = by r.wants refl h (λ k. all-requests settled sent k)
  where
    rest : List Promised
    rest = promised_in (requests_of sent)

    by : (b : Bool) → r.wants ≡ b → AllByRecursion (λ (p : Promised). has settled p.seq ≡ true) (cond b (record { seq = r.seq; route = r.route; number = r.number } ∷ []) [] ++ rest) → (AllByRecursion (λ (p : Promised). has settled p.seq ≡ true) rest → all_settled settled sent ≡ true)
        → is_settled_packet settled (told.request r) && all_settled settled sent ≡ true
    by true is k rec = ap (λ (b : Bool). (if b then has settled r.seq else true) && all_settled settled sent) is ∙ (ap (λ (b : Bool). b && all_settled settled sent) k.0 ∙ rec k.1)
    by false is k rec = ap (λ (b : Bool). (if b then has settled r.seq else true) && all_settled settled sent) is ∙ rec k
all-requests settled (told.said n content ∷ sent) h = all-requests settled sent h
all-requests settled (told.goodbye ∷ sent) h = all-requests settled sent h
all-requests settled (told.broken ∷ sent) h = all-requests settled sent h

pub moment-settled : (schema : Schema) (e : End) (own : EndReading) → PromisesAreRead e own → OverSettles schema e own → settled_moment own ≡ true
moment-settled schema e own h over = by own.over refl
  where
    by : (b : Bool) → own.over ≡ b → (if b then all_settled own.settled own.sent else true) ≡ true
    by true is = all-requests own.settled own.sent (subst (AllByRecursion (λ (p : Promised). has own.settled p.seq ≡ true)) h.promises_are (settled-has own.settled e.promises h.outcomes (over is)))
    by false is = refl
