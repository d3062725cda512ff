-- What an end keeps of requests and replies, in its steps and in runs.
use Rattle.std.proofs.Common.{◌≡◌, ℕ, ◌+◌, ◌≤◌, ℤ, Bool, true, false, not, ◌&&◌, ◌||◌, ◌==◌, if◌then◌else◌, int_eq, find, List, [], ◌∷◌, ◌++◌, map, Option, Some, None, refl, sym, ap, subst, append_assoc, ◌∙◌, arith}
use Rattle.std.proofs.lemmas.List.{map-append}
use Rattle.ipdl_base.specs.declared.kinds.Level.{Level}
use Rattle.ipdl_base.specs.declared.kinds.Side.{Side}
use Rattle.ipdl_base.specs.declared.line.What.{What}
use Rattle.ipdl_base.specs.declared.message.Body.TheVariants.{Request, Reply, Fault, Goodbye}
use Rattle.ipdl_base.specs.declared.message.Body.{Body}
use Rattle.ipdl_base.specs.declared.message.Message.{Message}
use Rattle.ipdl_base.specs.declared.schema.Schema.{Schema}
use Rattle.ipdl_base.specs.declared.value.Values.{Values}
use Rattle.nesting_core.specs.declared.frame.Answer.{Answer}
use Rattle.pending_queue.specs.declared.item.Item.TheVariants as item
use Rattle.channel_model.specs.Ends.{End, Packet, message, StackEntry, PromiseEntry, opening_end}
use Rattle.channel_model.specs.Outputs.{body_of}
use Rattle.channel_model.specs.Parts as parts
use Rattle.channel_model.specs.Parts.{OwnParts, FirstPart, LaterPart, LaterParts, DeliveryPart, left_end}
use Rattle.channel_model.specs.Phases.{Phase}
use Rattle.channel_model.specs.Takes.{taken_next}
use Rattle.history_reading.specs.declared.parts.PacketKind.{PacketKind}
use Rattle.history_reading.specs.declared.parts.PacketKind.TheVariants as kind
use Rattle.history_reading.specs.EndReading.{EndReading, opening, is_sync_request}
use Rattle.history_reading.specs.Numbers.{has, has_packet, same_packet}
use Rattle.history_reading.specs.Prefix.{is_there, is_reply_there}
use Rattle.history_reading.specs.SentPacket.{SentPacket, Request as SentRequest, packet_kind, requests_of}
use Rattle.channel_laws.specs.AnswersOnce.{AnswersOnce, sent_kinds}
use Rattle.ipdl_base.specs.Sides.{other, sends}
use Rattle.channel_model.specs.Numbers.{is_sync_row, is_constructor}
use Rattle.channel_model.specs.Refusals.{DeliveryRefusal, wrong_direction, wrong_number, wrong_new_id, stray, expected_seq, expected_id, is_replied_to, is_waited_for, is_promised, is_expected_reply, actor_refusal, body_refusal, packet_refusal}
use Rattle.ipdl_base.specs.declared.schema.MessageRow.{MessageRow}
use Rattle.ipdl_base.specs.Sound.{message_of}
use Rattle.nesting_core.specs.declared.frame.StackFrame.{StackFrame}
use Rattle.nesting_core.specs.declared.frame.StackFrame.TheVariants.{Dispatch, Wait}
use Rattle.nesting_core.specs.Frames.{head_of, is_dispatch, is_unanswered}
use Rattle.channel_laws.specs.OwnWaits.{IsOwnWait, WaitsOneWay}
use Rattle.channel_laws.specs.Promised.{promised_entry, promise_reading}
use Rattle.channel_laws.proofs.Settling.{IsOwn, own-entries}
use Rattle.channel_model.proofs.Tests.{and-left}
use Rattle.channel_laws.proofs.Track.{all-found}
use Rattle.channel_laws.proofs.Takes.{found-passes}
use Rattle.std.proofs.lemmas.Bool.Decides.{Decides-int_eq}
use Rattle.std.specs.List.{AllByRecursion, list_any}
use Rattle.std.specs.Option.{option_map_or}
use Rattle.channel_laws.specs.Arrivals.{arrival_reading, replies_delivered, ArrivalsAreRead, IsDueBody, IsDueMessage, IsDue}
use Rattle.channel_laws.specs.Counts.{one_if, how_many, is_number, is_packet}
use Rattle.channel_laws.specs.ExchangeLaws.{EndsReadExchanges, EndsTakeOnce}
use Rattle.channel_laws.specs.Exchanges.{ReadsExchanges}
use Rattle.channel_laws.specs.Notes.{Note, note_kind, told_notes, notes}
use Rattle.channel_laws.specs.Tested.{after_whats}
use Rattle.channel_laws.specs.TwoEnds.{LinkAccount}
use Rattle.channel_laws.proofs.AnswerParts.{first-answers-once, later-answers-once, delivery-answers-once}
use Rattle.channel_laws.proofs.ArrivalParts.{first-keeps-arrivals, later-keeps-arrivals, delivery-keeps-arrivals, request-leaves, reply-is-taken}
use Rattle.channel_laws.proofs.Arriving.{Leaves, left-count}
use Rattle.channel_laws.proofs.Counting.{many-append, some-any, none-any}
use Rattle.channel_laws.proofs.Growing.{whats-append}
use Rattle.channel_laws.proofs.Leaving.{same_packet-refl}
use Rattle.channel_laws.proofs.OwnWaits.{first-waits, later-waits, delivery-waits}
use Rattle.channel_laws.proofs.NextPackets.{told-shows}
use Rattle.channel_laws.proofs.PromiseParts.{first-keeps-promises, later-keeps-promises, delivery-keeps-promises}

-- Steps

module _ (schema : Schema) where
  later-exchanges : {p q : Phase} {e f : End} {ws : List What} {ps : List Packet} (place : ℕ) (own : EndReading) → LaterPart p e ws ps f q → ReadsExchanges schema e own → ReadsExchanges schema f (after_whats schema place ws own)
  later-exchanges place own part h = record {
    arrivals = later-keeps-arrivals schema place own part h.arrivals;
    promises = later-keeps-promises schema place own part h.promises;
    answers = later-answers-once schema place own part h.answers;
    waits = later-waits schema place own part h.waits;
  }

  laters-exchanges : {p q : Phase} {e f : End} {ws : List What} {ps : List Packet} (place : ℕ) (own : EndReading) → LaterParts p e ws ps f q → ReadsExchanges schema e own → ReadsExchanges schema f (after_whats schema place ws own)
  laters-exchanges place own parts.done h = h
  laters-exchanges {f = g} place own (parts.then {f} {ws} {vs} {ps} {qs} part rest) h =
      let at = whats-append schema place ws vs own in
      subst (ReadsExchanges schema g) (sym at.1) (laters-exchanges at.0 (after_whats schema place ws own) rest (later-exchanges place own part h))

  -- the parts of an end's own step keep this
  pub own-exchanges : {q : Phase} {e f : End} {ws : List What} {ps : List Packet} (place : ℕ) (own : EndReading) → OwnParts schema e ws ps f q → ReadsExchanges schema e own → ReadsExchanges schema f (after_whats schema place ws own)
  own-exchanges {f = g} place own (parts.begun {f} {ws} {vs} {ps} {qs} part rest ended) h =
      let at = whats-append schema place ws vs own in
      subst (ReadsExchanges schema g) (sym at.1)
      (laters-exchanges at.0 (after_whats schema place ws own) rest (record {
        arrivals = first-keeps-arrivals schema place own part h.arrivals;
        promises = first-keeps-promises schema place own part h.promises;
        answers = first-answers-once schema place own part h.answers;
        waits = first-waits schema place own part h.promises h.waits;
      }))

  -- and so does the delivery of what is due
  pub delivery-exchanges : {packet : Packet} {q : Phase} {e f : End} {ws : List What} {ps : List Packet} (place : ℕ) (own : EndReading) → DeliveryPart schema packet e ws ps f q → IsDue schema e own packet → ReadsExchanges schema e own → ReadsExchanges schema f (after_whats schema place ws own)
  delivery-exchanges place own part due h = record {
    arrivals = delivery-keeps-arrivals schema place own part due h.arrivals;
    promises = delivery-keeps-promises schema place own part h.promises;
    answers = delivery-answers-once schema place own part due h.answers;
    waits = delivery-waits schema place own part h.waits;
  }

  pub opening-exchanges : (top : ℕ) (side : Side) → ReadsExchanges schema (opening_end top side) opening
  opening-exchanges top side = record {
    arrivals = record { arrived = refl; async = tt; requests = λ n. omega arith; replies = λ n. omega arith; numbered = record { once = λ n. omega arith; known = λ n low. absurd (omega arith) } };
    promises = record { promises_are = refl; outcomes = tt; numbered = record { once = λ n. omega arith; known = λ n low. absurd (omega arith) }; known = λ n e. cc };
    answers = record { numbered = record { once = λ n. omega arith; known = λ n low. absurd (omega arith) }; entries = tt };
    waits = record { waits = tt; requests = tt };
  }

-- What is taken is there

both-not : (a b c : Bool) → a ≡ true → b ≡ false → c ≡ false → a && (not b && not c) ≡ true
both-not a b c e f g = ap (λ (x : Bool). x && (not b && not c)) e ∙ (ap (λ (x : Bool). not x && not c) f ∙ ap not g)

and-not : (a b : Bool) → a ≡ true → b ≡ false → a && not b ≡ true
and-not a b e f = ap (λ (x : Bool). x && not b) e ∙ ap not f

-- a request that is taken or dropped was delivered, and is taken, dropped or replaced for the first time
pub request-there : (e : End) (own : EndReading) (m : Message) (sync : Bool) (level : Level) (vs : Values) → ArrivalsAreRead e own → taken_next e ≡ Some (item.Message m sync level) → m.body ≡ Request vs → is_there own m.seq ≡ true
request-there e own m sync level vs h next body =
    let n : ℤ = m.seq in
    let l : Leaves e.arrived (left_end e).arrived (item.Message m sync level) (kind.Request n) = request-leaves e own m sync level vs h next body in
    let there = left-count e.side e.arrived (left_end e).arrived e.delivered (arrival_reading own) (item.Message m sync level) (kind.Request n) (is_packet (kind.Request n)) h l in
    let one : one_if (same_packet (kind.Request n) (kind.Request n)) ≡ 1 = ap one_if (same_packet-refl (kind.Request n)) in
    let low = h.requests n in
    let once = h.numbered.once n in
    both-not (has_packet own.delivered (kind.Request n)) (has own.replaced n) (has own.gone n)
    (some-any (is_packet (kind.Request n)) own.delivered (omega arith))
    (none-any (is_number n) own.replaced (omega arith))
    (none-any (is_number n) own.gone (omega arith))

-- a reply that is taken was delivered, and is taken for the first time, if it was delivered once
pub reply-there : (e : End) (own : EndReading) (m : Message) (sync : Bool) (level : Level) (a : Answer) → ArrivalsAreRead e own → taken_next e ≡ Some (item.Message m sync level) → m.body ≡ body_of a → replies_delivered (arrival_reading own) m.seq ≤ 1 → is_reply_there own m.seq ≡ true
reply-there e own m sync level a h next body once =
    let n : ℤ = m.seq in
    let l : Leaves e.arrived (left_end e).arrived (item.Message m sync level) (kind.Reply n) = reply-is-taken e own m sync level a h next body in
    let there = left-count e.side e.arrived (left_end e).arrived e.delivered (arrival_reading own) (item.Message m sync level) (kind.Reply n) (is_packet (kind.Reply n)) h l in
    let one : one_if (same_packet (kind.Reply n) (kind.Reply n)) ≡ 1 = ap one_if (same_packet-refl (kind.Reply n)) in
    let low = h.replies n in
    and-not (has_packet own.delivered (kind.Reply n)) (has own.replies n)
    (some-any (is_packet (kind.Reply n)) own.delivered (omega arith))
    (none-any (is_number n) own.replies (omega arith))

-- A reply is delivered once

told-kinds : (side : Side) (sent : List SentPacket) → map note_kind (told_notes side sent) ≡ map packet_kind sent
told-kinds side [] = refl
told-kinds side (p ∷ sent) = ap (λ (k : PacketKind). k ∷ map note_kind (told_notes side sent)) (told-shows side p) ∙ ap (λ (ks : List PacketKind). packet_kind p ∷ ks) (told-kinds side sent)

pub replies-once : (schema : Schema) (theirs : End) (others own : EndReading) (link : List Packet) → LinkAccount schema theirs others own link → AnswersOnce schema theirs others → (n : ℤ) → replies_delivered (arrival_reading own) n ≤ 1
replies-once schema theirs others own link account h n =
    let test : PacketKind → Bool = is_packet (kind.Reply n) in
    let following : List Note = notes schema link ++ (notes schema (map message theirs.outbox) ++ account.sent.lost) in
    let whole : sent_kinds others ≡ own.delivered ++ map note_kind following =
    sym (told-kinds theirs.side others.sent)
    ∙ (ap (map note_kind) (account.sent.whole ∙ append_assoc account.got (notes schema link) (notes schema (map message theirs.outbox) ++ account.sent.lost))
    ∙ (map-append note_kind account.got following ∙ ap (λ (ks : List PacketKind). ks ++ map note_kind following) account.kinds)) in
    let count = ap (how_many test) whole ∙ many-append test own.delivered (map note_kind following) in
    let once = h.numbered.once n in
    omega arith

-- What an end does not refuse is due

module _ (schema : Schema) (e : End) (own : EndReading) (h : ReadsExchanges schema e own) where
  seq-is : (b c : Bool) (m : Message) (later : Option DeliveryRefusal) → int_eq m.seq (expected_seq e) ≡ c → (if b then Some wrong_direction else (if not c then Some wrong_number else later)) ≡ None → m.seq ≡ expected_seq e
  seq-is true c m later is accepted = cc
  seq-is false true m later is accepted = (Decides-int_eq m.seq (expected_seq e)).0 is
  seq-is false false m later is accepted = cc

  expected-is : (b : Bool) (n : ℤ) (later : Option DeliveryRefusal) → (if b then later else Some (stray n)) ≡ None → b ≡ true
  expected-is true n later accepted = refl
  expected-is false n later accepted = cc

  same-number : (m : Message) (seq : ℤ) (number : ℕ) (route : ℤ) → is_replied_to m seq number route ≡ true → m.seq ≡ seq
  same-number m seq number route is = (Decides-int_eq m.seq seq).0 (and-left (int_eq m.seq seq) ((m.number == number + 1) && int_eq m.route route) is)

  -- the reply that a wait waits for is to a sync request
  awaited-sync : (m : Message) → is_waited_for e m ≡ true → is_sync_request own m.seq ≡ true
  awaited-sync m is = by (find (λ entry. is_unanswered entry.frame) e.stack) refl is
    where
      no-dispatch : (f : StackFrame) → is_unanswered f ≡ true → is_dispatch f ≡ false
      no-dispatch (Dispatch head) e = cc
      no-dispatch (Wait head None) e = refl
      no-dispatch (Wait head (Some a)) e = refl

      by : (found : Option StackEntry) → find (λ entry. is_unanswered entry.frame) e.stack ≡ found → option_map_or (λ (entry : StackEntry). is_replied_to m (head_of entry.frame).seq entry.number entry.route) found false ≡ true → is_sync_request own m.seq ≡ true
      by None there is = cc
      by (Some entry) there is =
          ap (is_sync_request own) (same-number m (head_of entry.frame).seq entry.number entry.route is)
          ∙ all-found (IsOwnWait own) (λ x. is_unanswered x.frame) e.stack entry h.waits.waits there (no-dispatch entry.frame (found-passes (λ x. is_unanswered x.frame) e.stack entry there))

  -- the reply for which a promise was made is to an async request
  promised-async : (m : Message) → is_promised e m ≡ true → is_sync_request own m.seq ≡ false
  promised-async m is = each e.promises (own-entries e.side e.promises e.sent (promise_reading own) h.promises) is
    where
      one : (entry : PromiseEntry) → IsOwn (requests_of own.sent) (promised_entry entry) → m.seq ≡ entry.promise.seq → is_sync_request own m.seq ≡ false
      one entry k same =
          ap (is_sync_request own) same
          ∙ (ap (λ (o : Option SentRequest). option_map_or (λ (r : SentRequest). r.sync) o false) k.1
          ∙ all-found WaitsOneWay (λ r. int_eq r.seq entry.promise.seq) (requests_of own.sent) k.0 h.waits.requests k.1 k.2)

      each : (some : List PromiseEntry) → AllByRecursion (λ entry. IsOwn (requests_of own.sent) (promised_entry entry)) some → list_any (λ (entry : PromiseEntry). is_replied_to m entry.promise.seq entry.number entry.promise.actor) some ≡ true → is_sync_request own m.seq ≡ false
      each [] k is = cc
      each (entry ∷ some) k is = by (is_replied_to m entry.promise.seq entry.number entry.promise.actor) refl is (each some k.1)
        where
          by : (b : Bool) → is_replied_to m entry.promise.seq entry.number entry.promise.actor ≡ b → b || list_any (λ (x : PromiseEntry). is_replied_to m x.promise.seq x.number x.promise.actor) some ≡ true
              → (list_any (λ (x : PromiseEntry). is_replied_to m x.promise.seq x.number x.promise.actor) some ≡ true → is_sync_request own m.seq ≡ false) → is_sync_request own m.seq ≡ false
          by true here is rest = one entry k.0 (same-number m entry.promise.seq entry.number entry.promise.actor here)
          by false here is rest = rest is

  reply-due : (m : Message) (row : MessageRow) → is_expected_reply e m row ≡ true → is_sync_request own m.seq ≡ is_sync_row row
  reply-due m row = by (is_sync_row row)
    where
      by : (b : Bool) → (if b then is_waited_for e m else is_promised e m) ≡ true → is_sync_request own m.seq ≡ b
      by true is = awaited-sync m is
      by false is = promised-async m is

  body-due : (m : Message) (row : MessageRow) (b : Body) → m.body ≡ b → message_of schema m.number ≡ Some row → body_refusal schema e m b row ≡ None → IsDueMessage schema e own m b
  body-due m row (Request vs) is found accepted = (row, found, subst (IsDueBody e own m (is_sync_row row)) (sym is) (seq-is (not (sends (other e.side) row.direction)) (int_eq m.seq (expected_seq e)) m (if is_constructor row.kind && not (int_eq m.made (expected_id e)) then Some wrong_new_id else actor_refusal schema e row m) refl accepted))
  body-due m row (Reply vs) is found accepted = (row, found, subst (IsDueBody e own m (is_sync_row row)) (sym is) (reply-due m row (expected-is (is_expected_reply e m row) m.seq (actor_refusal schema e row m) accepted)))
  body-due m row (Fault reason) is found accepted = (row, found, subst (IsDueBody e own m (is_sync_row row)) (sym is) (reply-due m row (expected-is (is_expected_reply e m row) m.seq (actor_refusal schema e row m) accepted)))
  body-due m row Goodbye is found accepted = tt

  pub accepted-due : (m : Message) (row : MessageRow) → message_of schema m.number ≡ Some row → packet_refusal schema e (message m) ≡ None → IsDue schema e own (message m)
  accepted-due m row found accepted = body-due m row m.body refl found (sym (ap (λ (o : Option MessageRow). option_map_or (body_refusal schema e m m.body) o None) found) ∙ accepted)

-- The laws

pub ends_read_exchanges : EndsReadExchanges
ends_read_exchanges = record { begins = opening-exchanges; acts = own-exchanges; delivers = delivery-exchanges; accepts = accepted-due }

pub ends_take_once : EndsTakeOnce
ends_take_once = record {
  request = λ schema e own m sync level vs h next body. request-there e own m sync level vs h.arrivals next body;
  reply = λ schema e own m sync level a h next body once. reply-there e own m sync level a h.arrivals next body once;
}
