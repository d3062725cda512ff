-- What is known of a packet that an end does not refuse.
use Rattle.std.proofs.Common.{◌≡◌, ◌≢◌, inl, inr, ℕ, ◌+◌, ◌*◌, ◌/◌, ◌%◌, ◌==◌, ℤ, Bool, true, false, not, ◌&&◌, ◌||◌, cond, if◌then◌else◌, int_eq, find, List, [], ◌∷◌, ◌++◌, map, Option, Some, None, option_map, refl, sym, ap, subst, ◌∙◌, arith}
use Rattle.std.specs.List.{AllByRecursion, list_any, slice_get, flat_map}
use Rattle.std.specs.Option.{option_map_or}
use Rattle.std.proofs.lemmas.Bool.{eqb-true, eq-eqb, cases_Bool, false≢true, true≢false}
use Rattle.std.proofs.lemmas.Bool.Decides.{Decides-int_eq}
use Rattle.std.proofs.lemmas.List.{map-append}
use Rattle.std.proofs.lemmas.Option.{same_Some}
use Rattle.ipdl_base.specs.declared.message.Body.{Body}
use Rattle.ipdl_base.specs.declared.message.Body.TheVariants.{Request, Reply, Fault, Goodbye}
use Rattle.ipdl_base.specs.declared.message.Message.{Message}
use Rattle.ipdl_base.specs.declared.schema.MessageRow.{MessageRow}
use Rattle.ipdl_base.specs.declared.schema.ProtocolRow.{ProtocolRow}
use Rattle.ipdl_base.specs.declared.schema.Schema.{Schema}
use Rattle.ipdl_base.specs.declared.value.Values.{Values}
use Rattle.ipdl_base.specs.Sound.{IsSound, IsSoundMessage, has_reply, message_of}
use Rattle.ipdl_base.proofs.Numbers.{no_protocol, no_message, request_found, reply_found, no_reply}
use Rattle.nesting_core.specs.declared.frame.Answer.{Answer}
use Rattle.nesting_core.specs.declared.frame.Answer.TheVariants as answer
use Rattle.nesting_core.specs.declared.frame.StackFrame.{StackFrame}
use Rattle.nesting_core.specs.declared.frame.StackFrame.TheVariants.{Dispatch, Wait}
use Rattle.nesting_core.specs.Answers.{awaited}
use Rattle.nesting_core.specs.Frames.{head_of, is_dispatch, is_unanswered}
use Rattle.value_types.specs.Fits.{Fits, FitsBody, IsRequestOf, IsReplyTo}
use Rattle.channel_model.specs.Ends.{End, Packet, message, mark, StackEntry, PromiseEntry}
use Rattle.channel_model.specs.Fitting.{FitsPacket}
use Rattle.channel_model.specs.Numbers.{is_sync_row, request_row}
use Rattle.channel_model.specs.Outputs.{body_of, is_open}
use Rattle.channel_model.specs.Refusals.{DeliveryRefusal, stray, is_replied_to, is_waited_for, is_promised, is_expected_reply, actor_refusal, body_refusal, reply_refusal, packet_refusal}
use Rattle.channel_model.specs.Requests.{IsSeqOf, promise_seq}
use Rattle.channel_model.specs.Sends as send
use Rattle.channel_model.specs.Takes as take
use Rattle.channel_model.proofs.FittingRequests.{request-row, reply-of, request-of}
use Rattle.channel_model.proofs.Known.{all-map}
use Rattle.channel_model.proofs.Tests.{and-left, and-right}
use Rattle.history_reading.specs.EndReading.{EndReading, is_sync_request}
use Rattle.history_reading.specs.Numbers.{has}
use Rattle.history_reading.specs.SentPacket as told
use Rattle.history_reading.specs.SentPacket.{SentPacket, request_in, request_of, requests_of}
use Rattle.channel_laws.specs.GivenAnswers.{FrameIsOwn}
use Rattle.channel_laws.specs.Notes.{Note, RequestNote, asks, request_note, told_note, told_notes, message_note, body_note, packet_note, notes, In, here, there}
use Rattle.channel_laws.specs.Origins.{IsRequested, Origin, RepliesTo, BodyReplies, PacketReplies, BodyOrigin, PacketOrigin}
use Rattle.channel_laws.specs.OwnWaits.{IsOwnWait, WaitsOneWay, WaitsAreOwn}
use Rattle.channel_laws.specs.Promised.{Promised, promised_by, promised_in, promised_entry, promise_reading, PromisesAreRead}
use Rattle.channel_laws.proofs.Growing.{in-following}
use Rattle.channel_laws.proofs.Promising.{promises-known}
use Rattle.channel_laws.proofs.Settling.{IsOwn, own-entries, pending-unsettled}
use Rattle.channel_laws.proofs.SettledLines.{awaited-unsettled}
use Rattle.channel_laws.proofs.Takes.{found-passes}
use Rattle.channel_laws.proofs.Track.{all-found}
use Rattle.channel_laws.proofs.TwoEnds.{Awaits}
use Rattle.alone_laws.specs.KeptReplies.{wait_number, wait_numbers, WaitsReceive, KeepsReplies}
use Rattle.alone_laws.proofs.RepliesKept.{ReplyIsDue, PacketIsDue}
use Rattle.alone_laws.proofs.WaitLists.{AreRequested, waits-have}

-- The row that the number of a reply finds is that of its request

module _ (schema : Schema) (sound : IsSound schema) (n : ℕ) (row : MessageRow) (found : message_of schema n ≡ Some row) (number : n ≡ row.number + 1) where
  number-at : (protocol : ProtocolRow) (m : MessageRow) → slice_get schema.protocols (n / 65536) ≡ Some protocol → slice_get protocol.messages (n % 65536 / 2) ≡ Some m → m.number ≡ n / 65536 * 65536 + 2 * (n % 65536 / 2)
  number-at protocol m at e = ((sound.protocols (n / 65536) protocol at).messages (n % 65536 / 2) m e).number

  even-or-not : (k : Bool) → (n % 2 == 0) ≡ k → (protocol : ProtocolRow) (m : MessageRow) → slice_get schema.protocols (n / 65536) ≡ Some protocol → slice_get protocol.messages (n % 65536 / 2) ≡ Some m → message_of schema row.number ≡ Some row
  even-or-not true q protocol m at e =
      let even : n % 2 ≡ 0 = eqb-true (n % 2) 0 q in
      let same : m ≡ row = same_Some m row (request_found schema n sound protocol at m e even ∙ found) in
      let k : m.number ≡ row.number = ap (λ (x : MessageRow). x.number) same in
      let l = number-at protocol m at e in
      absurd (omega (arith, even, k, l, number))
  even-or-not false q protocol m at e =
      let odd : n % 2 ≢ 0 = λ z. let k : (n % 2 == 0) ≡ true = eq-eqb (n % 2) 0 z in let l : true ≡ false = sym k ∙ q in cc in
      by (has_reply m) refl odd
    where
      by : (b : Bool) → has_reply m ≡ b → n % 2 ≢ 0 → message_of schema row.number ≡ Some row
      by true r odd =
          let same : m ≡ row = same_Some m row (reply_found schema n sound protocol at m e odd r ∙ found) in
          let k : m.number ≡ row.number = ap (λ (x : MessageRow). x.number) same in
          let l = number-at protocol m at e in
          let protocol_is : row.number / 65536 ≡ n / 65536 = omega (arith, odd, k, l, number) in
          let message_is : row.number % 65536 / 2 ≡ n % 65536 / 2 = omega (arith, odd, k, l, number) in
          let even : row.number % 2 ≡ 0 = omega (arith, odd, k, l, number) in
          sym (request_found schema row.number sound protocol (ap (slice_get schema.protocols) protocol_is ∙ at) m (ap (slice_get protocol.messages) message_is ∙ e) even) ∙ ap (λ (x : MessageRow). Some x) same
      by false r odd = let k : None ≡ message_of schema n = no_reply schema n sound protocol at m e odd r in cc

  at-messages : (protocol : ProtocolRow) → slice_get schema.protocols (n / 65536) ≡ Some protocol → (m : Option MessageRow) → slice_get protocol.messages (n % 65536 / 2) ≡ m → message_of schema row.number ≡ Some row
  at-messages protocol at None e = let k : None ≡ message_of schema n = no_message schema n sound protocol at e in cc
  at-messages protocol at (Some m) e = even-or-not (n % 2 == 0) refl protocol m at e

  at-protocol : (p : Option ProtocolRow) → slice_get schema.protocols (n / 65536) ≡ p → message_of schema row.number ≡ Some row
  at-protocol None is = let k : None ≡ message_of schema n = no_protocol schema n sound is in cc
  at-protocol (Some protocol) is = at-messages protocol is (slice_get protocol.messages (n % 65536 / 2)) refl

  pub request-of-reply : request_row schema row.number ≡ Some row
  request-of-reply = request-row schema row.number row (at-protocol (slice_get schema.protocols (n / 65536)) refl) refl

-- What a reply answers to

-- A reply has this number, actor and message.
record Answers (m : Message) (seq : ℤ) (number : ℕ) (route : ℤ) : Type 0 where
  seq_is : m.seq ≡ seq
  number_is : m.number ≡ number + 1
  route_is : m.route ≡ route

answers : (m : Message) (seq : ℤ) (number : ℕ) (route : ℤ) → is_replied_to m seq number route ≡ true → Answers m seq number route
answers m seq number route is =
    let rest = and-right (int_eq m.seq seq) ((m.number == number + 1) && int_eq m.route route) is in
    record {
      seq_is = (Decides-int_eq m.seq seq).0 (and-left (int_eq m.seq seq) ((m.number == number + 1) && int_eq m.route route) is);
      number_is = eqb-true m.number (number + 1) (and-left (m.number == number + 1) (int_eq m.route route) rest);
      route_is = (Decides-int_eq m.route route).0 (and-right (m.number == number + 1) (int_eq m.route route) rest);
    }

-- The innermost unanswered wait

unanswered-wait : (f : StackFrame) → is_unanswered f ≡ true → wait_number f ≡ (head_of f).seq ∷ []
unanswered-wait (Dispatch head) e = cc
unanswered-wait (Wait head None) e = refl
unanswered-wait (Wait head (Some a)) e = cc

unanswered-no-dispatch : (f : StackFrame) → is_unanswered f ≡ true → is_dispatch f ≡ false
unanswered-no-dispatch (Dispatch head) e = cc
unanswered-no-dispatch (Wait head None) e = refl
unanswered-no-dispatch (Wait head (Some a)) e = refl

unanswered-own : (sent : List Note) (entry : StackEntry) (f : StackFrame) → is_unanswered f ≡ true → FrameIsOwn sent entry f → IsRequested sent (head_of f).seq entry.route entry.number
unanswered-own sent entry (Dispatch head) e h = cc
unanswered-own sent entry (Wait head None) e h = h
unanswered-own sent entry (Wait head (Some a)) e h = cc

awaited-is : (es : List StackEntry) (entry : StackEntry) → find (λ (x : StackEntry). is_unanswered x.frame) es ≡ Some entry → awaited (map (λ (x : StackEntry). x.frame) es) ≡ Some (head_of entry.frame).seq
awaited-is [] entry e = cc
awaited-is (x ∷ es) entry e = by (is_unanswered x.frame) e (awaited-is es entry)
  where
    by : (b : Bool) → cond b (Some x) (find (λ (y : StackEntry). is_unanswered y.frame) es) ≡ Some entry → (find (λ (y : StackEntry). is_unanswered y.frame) es ≡ Some entry → awaited (map (λ (y : StackEntry). y.frame) es) ≡ Some (head_of entry.frame).seq)
        → option_map (λ head. head.seq) (option_map head_of (cond b (Some x.frame) (find is_unanswered (map (λ (y : StackEntry). y.frame) es)))) ≡ Some (head_of entry.frame).seq
    by true e rec = ap (λ (o : Option StackEntry). option_map (λ (y : StackEntry). (head_of y.frame).seq) o) e
    by false e rec = rec e

-- What the end does not refuse

expected : (b : Bool) (n : ℤ) (later : Option DeliveryRefusal) → (if b then later else Some (stray n)) ≡ None → b ≡ true
expected true n later accepted = refl
expected false n later accepted = cc

reply-refused : (schema : Schema) (e : End) (m : Message) (row : MessageRow) (a : Answer) → m.body ≡ body_of a → message_of schema m.number ≡ Some row → packet_refusal schema e (message m) ≡ None → reply_refusal schema e m row ≡ None
reply-refused schema e m row (answer.Ok vs) body found accepted =
    ap (λ (b : Body). body_refusal schema e m b row) (sym body) ∙ (sym (ap (λ (r : Option MessageRow). option_map_or (body_refusal schema e m m.body) r None) found) ∙ accepted)
reply-refused schema e m row (answer.Fault why) body found accepted =
    ap (λ (b : Body). body_refusal schema e m b row) (sym body) ∙ (sym (ap (λ (r : Option MessageRow). option_map_or (body_refusal schema e m m.body) r None) found) ∙ accepted)

module _ (schema : Schema) (sound : IsSound schema) (e : End) (own : EndReading) (packets : List Packet) (failed : List ℤ) (k : KeepsReplies e packets failed (told_notes e.side own.sent)) (promises : PromisesAreRead e own) (waits : WaitsAreOwn e own) where
  abbrev sent : List Note
  sent = told_notes e.side own.sent

  -- promises

  promised-noted : (requests : List SentPacket) (seq route : ℤ) (number : ℕ) → list_any (λ (p : Promised). int_eq p.seq seq && ((p.number == number) && int_eq p.route route)) (promised_in (requests_of requests)) ≡ true → IsRequested (told_notes e.side requests) seq route number
  promised-noted [] seq route number is = cc
  promised-noted (told.request r ∷ rest) seq route number is = by r.wants is (λ h. promised-noted rest seq route number h)
    where
      later : IsRequested (told_notes e.side rest) seq route number → IsRequested (told_notes e.side (told.request r ∷ rest)) seq route number
      later h = record { request = h.request; sent_it = there h.sent_it; seq_is = h.seq_is; route_is = h.route_is; number_is = h.number_is }

      here-or : (b : Bool) → int_eq r.seq seq && ((r.number == number) && int_eq r.route route) ≡ b → b || list_any (λ (p : Promised). int_eq p.seq seq && ((p.number == number) && int_eq p.route route)) (promised_in (requests_of rest)) ≡ true
          → (list_any (λ (p : Promised). int_eq p.seq seq && ((p.number == number) && int_eq p.route route)) (promised_in (requests_of rest)) ≡ true → IsRequested (told_notes e.side rest) seq route number) → IsRequested (told_notes e.side (told.request r ∷ rest)) seq route number
      here-or true same h rec =
          let both = and-right (int_eq r.seq seq) ((r.number == number) && int_eq r.route route) same in
          record {
            request = request_note e.side r;
            sent_it = here;
            seq_is = (Decides-int_eq r.seq seq).0 (and-left (int_eq r.seq seq) ((r.number == number) && int_eq r.route route) same);
            route_is = (Decides-int_eq r.route route).0 (and-right (r.number == number) (int_eq r.route route) both);
            number_is = eqb-true r.number number (and-left (r.number == number) (int_eq r.route route) both);
          }
      here-or false same h rec = later (rec h)

      by : (w : Bool) → list_any (λ (p : Promised). int_eq p.seq seq && ((p.number == number) && int_eq p.route route)) (cond w (record { seq = r.seq; route = r.route; number = r.number } ∷ []) [] ++ promised_in (requests_of rest)) ≡ true
          → (list_any (λ (p : Promised). int_eq p.seq seq && ((p.number == number) && int_eq p.route route)) (promised_in (requests_of rest)) ≡ true → IsRequested (told_notes e.side rest) seq route number) → IsRequested (told_notes e.side (told.request r ∷ rest)) seq route number
      by true h rec = here-or (int_eq r.seq seq && ((r.number == number) && int_eq r.route route)) refl h rec
      by false h rec = later (rec h)
  promised-noted (told.said n content ∷ rest) seq route number is = let h = promised-noted rest seq route number is in record { request = h.request; sent_it = there h.sent_it; seq_is = h.seq_is; route_is = h.route_is; number_is = h.number_is }
  promised-noted (told.goodbye ∷ rest) seq route number is = let h = promised-noted rest seq route number is in record { request = h.request; sent_it = there h.sent_it; seq_is = h.seq_is; route_is = h.route_is; number_is = h.number_is }
  promised-noted (told.broken ∷ rest) seq route number is = let h = promised-noted rest seq route number is in record { request = h.request; sent_it = there h.sent_it; seq_is = h.seq_is; route_is = h.route_is; number_is = h.number_is }

  -- What is known of the request to which a reply answers.
  record AnswersOwn (m : Message) : Type 0 where
    number : ℕ
    is : m.number ≡ number + 1
    requested : IsRequested sent m.seq m.route number
    known : IsSeqOf e.side e.sent m.seq

  abbrev promise-test : Message → PromiseEntry → Bool
  promise-test m entry = is_replied_to m entry.promise.seq entry.number entry.promise.actor

  replied-promise : (m : Message) (entry : PromiseEntry) → Answers m entry.promise.seq entry.number entry.promise.actor → int_eq entry.promise.seq m.seq && ((entry.number == entry.number) && int_eq entry.promise.actor m.route) ≡ true
  replied-promise m entry a =
      both (int_eq entry.promise.seq m.seq) ((entry.number == entry.number) && int_eq entry.promise.actor m.route) ((Decides-int_eq entry.promise.seq m.seq).1 (sym a.seq_is))
      (both (entry.number == entry.number) (int_eq entry.promise.actor m.route) (eq-eqb entry.number entry.number refl) ((Decides-int_eq entry.promise.actor m.route).1 (sym a.route_is)))
    where
      both : (x y : Bool) → x ≡ true → y ≡ true → x && y ≡ true
      both true y p q = q
      both false y p q = cc

  among : (m : Message) (number : ℕ) (entry : PromiseEntry) (promises : List PromiseEntry) → In entry promises → int_eq entry.promise.seq m.seq && ((entry.number == number) && int_eq entry.promise.actor m.route) ≡ true
      → list_any (λ (p : Promised). int_eq p.seq m.seq && ((p.number == number) && int_eq p.route m.route)) (map promised_entry promises) ≡ true
  among m number entry _ (here {xs}) is = ap (λ (b : Bool). b || list_any (λ (p : Promised). int_eq p.seq m.seq && ((p.number == number) && int_eq p.route m.route)) (map promised_entry xs)) is
  among m number entry _ (there {y} {xs} i) is = or-right (int_eq y.promise.seq m.seq && ((y.number == number) && int_eq y.promise.actor m.route)) (among m number entry xs i is)
    where
      or-right : (b : Bool) {c : Bool} → c ≡ true → b || c ≡ true
      or-right true h = refl
      or-right false h = h

  answers-promise : (m : Message) (some : List PromiseEntry) → ((x : PromiseEntry) → In x some → In x e.promises) → AllByRecursion (IsSeqOf e.side e.sent) (map promise_seq some) → list_any (promise-test m) some ≡ true → AnswersOwn m
  answers-promise m [] sub known is = cc
  answers-promise m (entry ∷ some) sub known is = by (is_replied_to m entry.promise.seq entry.number entry.promise.actor) refl is (λ h. answers-promise m some (λ x i. sub x (there i)) known.1 h)
    where
      by : (b : Bool) → is_replied_to m entry.promise.seq entry.number entry.promise.actor ≡ b → b || list_any (λ (x : PromiseEntry). is_replied_to m x.promise.seq x.number x.promise.actor) some ≡ true → (list_any (λ (x : PromiseEntry). is_replied_to m x.promise.seq x.number x.promise.actor) some ≡ true → AnswersOwn m) → AnswersOwn m
      by true same h rec =
          let a : Answers m entry.promise.seq entry.number entry.promise.actor = answers m entry.promise.seq entry.number entry.promise.actor same in
          record {
            number = entry.number;
            is = a.number_is;
            requested = promised-noted own.sent m.seq m.route entry.number (ap (list_any (λ (p : Promised). int_eq p.seq m.seq && ((p.number == entry.number) && int_eq p.route m.route))) (sym promises.promises_are) ∙ among m entry.number entry e.promises (sub entry here) (replied-promise m entry a));
            known = subst (IsSeqOf e.side e.sent) (sym a.seq_is) known.0;
          }
      by false same h rec = rec h

  -- waits

  -- The wait that a reply answers.
  record AnswersWait (m : Message) : Type 0 where
    answers_own : AnswersOwn m
    awaits : awaited (send.frames_of e) ≡ Some m.seq

  answers-wait : (m : Message) → is_waited_for e m ≡ true → AnswersWait m
  answers-wait m is = by (find (λ (entry : StackEntry). is_unanswered entry.frame) e.stack) refl is
    where
      by : (found : Option StackEntry) → find (λ (entry : StackEntry). is_unanswered entry.frame) e.stack ≡ found → option_map_or (λ (entry : StackEntry). is_replied_to m (head_of entry.frame).seq entry.number entry.route) found false ≡ true → AnswersWait m
      by None at is = cc
      by (Some entry) at is =
          let a : Answers m (head_of entry.frame).seq entry.number entry.route = answers m (head_of entry.frame).seq entry.number entry.route is in
          let waits_it : is_unanswered entry.frame ≡ true = found-passes (λ (x : StackEntry). is_unanswered x.frame) e.stack entry at in
          let own_it : IsRequested sent (head_of entry.frame).seq entry.route entry.number = unanswered-own sent entry entry.frame waits_it (all-found (λ (x : StackEntry). FrameIsOwn sent x x.frame) (λ (x : StackEntry). is_unanswered x.frame) e.stack entry k.requested at) in
          record {
            answers_own = record {
              number = entry.number;
              is = a.number_is;
              requested = record { request = own_it.request; sent_it = own_it.sent_it; seq_is = own_it.seq_is ∙ sym a.seq_is; route_is = own_it.route_is ∙ sym a.route_is; number_is = own_it.number_is };
              known = subst (IsSeqOf e.side e.sent) (sym a.seq_is)
                  (all-found (λ (x : StackEntry). (n : ℤ) → wait_number x.frame ≡ n ∷ [] → IsSeqOf e.side e.sent n) (λ (x : StackEntry). is_unanswered x.frame) e.stack entry (waits-have (IsSeqOf e.side e.sent) e.stack k.waits.known) at (head_of entry.frame).seq (unanswered-wait entry.frame waits_it));
            };
            awaits = awaited-is e.stack entry at ∙ ap (λ (n : ℤ). Some n) (sym a.seq_is);
          }

  -- what is known of a reply that is not refused

  reply-own : (m : Message) (row : MessageRow) → is_expected_reply e m row ≡ true → AnswersOwn m
  reply-own m row = by (is_sync_row row)
    where
      by : (b : Bool) → (if b then is_waited_for e m else is_promised e m) ≡ true → AnswersOwn m
      by true is = (answers-wait m is).answers_own
      by false is = answers-promise m e.promises (λ x i. i) (promises-known e.side e.promises e.sent (promise_reading own) promises) is

  expected-reply : (m : Message) (row : MessageRow) (a : Answer) → m.body ≡ body_of a → message_of schema m.number ≡ Some row → packet_refusal schema e (message m) ≡ None → is_expected_reply e m row ≡ true
  expected-reply m row a body found accepted = expected (is_expected_reply e m row) m.seq (actor_refusal schema e row m) (reply-refused schema e m row a body found accepted)

  replies-to : (m : Message) (row : MessageRow) (a : Answer) → Fits schema m → m.body ≡ body_of a → message_of schema m.number ≡ Some row → packet_refusal schema e (message m) ≡ None → RepliesTo schema sent m
  replies-to m row a fits body found accepted =
      let o : AnswersOwn m = reply-own m row (expected-reply m row a body found accepted) in
      let f : IsReplyTo schema row m = (reply-of schema row m a fits body found).0 in
      let same : o.number ≡ row.number = let x = o.is in let y = f.number in omega (arith, x, y) in
      record { number = o.number; is = o.is; origin = record { row = row; found = ap (request_row schema) same ∙ request-of-reply schema sound m.number row found f.number; requested = o.requested }; replied = f.replies }

  reply-row-of : (m : Message) (a : Answer) → Fits schema m → m.body ≡ body_of a → (row : MessageRow) × (message_of schema m.number ≡ Some row)
  reply-row-of m (answer.Ok vs) fits body = let f = subst (FitsBody schema m) body fits in (f.0, f.1.found)
  reply-row-of m (answer.Fault why) fits body = let f = subst (FitsBody schema m) body fits in (f.0, f.1.found)

  pub accepted-replies : (packet : Packet) → FitsPacket schema packet → packet_refusal schema e packet ≡ None → PacketReplies schema sent packet
  accepted-replies mark fits accepted = tt
  accepted-replies (message m) fits accepted = by m.body refl
    where
      by : (b : Body) → m.body ≡ b → BodyReplies schema sent m b
      by (Request vs) is = let f = subst (FitsBody schema m) is fits in (f.0, request-row schema m.number f.0 f.1.found f.1.number)
      by (Reply vs) is = let r = reply-row-of m (answer.Ok vs) fits is in replies-to m r.0 (answer.Ok vs) fits is r.1 accepted
      by (Fault why) is = let r = reply-row-of m (answer.Fault why) fits is in replies-to m r.0 (answer.Fault why) fits is r.1 accepted
      by Goodbye is = tt

  pub accepted-awaits : (packet : Packet) → packet_refusal schema e packet ≡ None → Awaits schema e (packet ∷ [])
  accepted-awaits packet accepted m a first body open_end sync = by (message_of schema m.number) refl sync
    where
      accepted_m : packet_refusal schema e (message m) ≡ None
      accepted_m = ap (packet_refusal schema e) (sym (same_Some packet (message m) first)) ∙ accepted

      waited : (row : MessageRow) → is_sync_row row ≡ true → is_expected_reply e m row ≡ true → is_waited_for e m ≡ true
      waited row is h = sym (ap (λ (b : Bool). if b then is_waited_for e m else is_promised e m) is) ∙ h

      by : (found : Option MessageRow) → message_of schema m.number ≡ found → option_map_or is_sync_row found false ≡ true → awaited (send.frames_of e) ≡ Some m.seq
      by None found is = cc
      by (Some row) found is = (answers-wait m (waited row is (expected-reply m row a body found accepted_m))).awaits

  -- a promise that waits is of an async request
  awaited-async : (n : ℤ) → take.is_awaited n e.promises ≡ true → is_sync_request own n ≡ false
  awaited-async n awaited_n = by (request_of own.sent n) refl (and-left (option_map_or (λ (r : told.Request). r.wants) (request_of own.sent n) false) (not (has own.settled n)) unsettled)
    where
      unsettled : option_map_or (λ (r : told.Request). r.wants) (request_of own.sent n) false && not (has own.settled n) ≡ true
      unsettled = awaited-unsettled schema e.side own (promise_reading own) n e.promises (pending-unsettled e.side e.promises e.sent (promise_reading own) promises) awaited_n

      by : (found : Option told.Request) → request_of own.sent n ≡ found → option_map_or (λ (r : told.Request). r.wants) found false ≡ true → option_map_or (λ (r : told.Request). r.sync) (request_of own.sent n) false ≡ false
      by None found is = cc
      by (Some r) found is = ap (λ (o : Option told.Request). option_map_or (λ (x : told.Request). x.sync) o false) found ∙ all-found WaitsOneWay (λ (x : told.Request). int_eq x.seq n) (requests_of own.sent) r waits.requests found is

  wait-sync : (es : List StackEntry) → AllByRecursion (IsOwnWait own) es → AllByRecursion (λ (x : StackEntry). (n : ℤ) → wait_number x.frame ≡ n ∷ [] → is_sync_request own n ≡ true) es
  wait-sync [] h = tt
  wait-sync (x ∷ es) h = (by x.frame h.0, wait-sync es h.1)
    where
      first-is : (m n : ℤ) → m ∷ [] ≡ n ∷ [] → m ≡ n
      first-is m n e = cc

      by : (f : StackFrame) → (is_dispatch f ≡ false → is_sync_request own (head_of f).seq ≡ true) → (n : ℤ) → wait_number f ≡ n ∷ [] → is_sync_request own n ≡ true
      by (Dispatch head) o n is = cc
      by (Wait head a) o n is = subst (λ (m : ℤ). is_sync_request own m ≡ true) (first-is head.seq n is) (o refl)

  pub accepted-due : (packet : Packet) → packet_refusal schema e packet ≡ None → ((m : Message) (row : MessageRow) (a : Answer) → packet ≡ message m → m.body ≡ body_of a → message_of schema m.number ≡ Some row → is_sync_request own m.seq ≡ is_sync_row row) → PacketIsDue schema e packet
  accepted-due mark accepted sync = tt
  accepted-due (message m) accepted sync = λ row a body found.
      let is : is_sync_request own m.seq ≡ is_sync_row row = sync m row a refl body found in
      let h : is_expected_reply e m row ≡ true = expected-reply m row a body found accepted in
      record {
        known = (reply-own m row h).known;
        awaits = λ s. (answers-wait m (sym (ap (λ (b : Bool). if b then is_waited_for e m else is_promised e m) s) ∙ h)).awaits;
        promised = λ s n awaited_n same. true≢false (sym s ∙ (sym is ∙ (ap (is_sync_request own) same ∙ awaited-async n awaited_n)));
        waits = λ s. all-map (λ (x : StackEntry). (n : ℤ) → wait_number x.frame ≡ n ∷ [] → is_sync_request own n ≡ true) (λ (x : StackEntry). (n : ℤ) → wait_number x.frame ≡ n ∷ [] → m.seq ≢ n) e.stack
            (λ x w n number same. true≢false (sym (w n number) ∙ (ap (is_sync_request own) (sym same) ∙ (is ∙ s)))) (wait-sync e.stack waits.waits);
      }

-- a packet has its origin among the delivered packets and itself
pub accepted-origin : (schema : Schema) (packets : List Packet) (packet : Packet) → FitsPacket schema packet → PacketOrigin schema (notes schema (packets ++ packet ∷ [])) packet
accepted-origin schema packets mark fits = tt
accepted-origin schema packets (message m) fits = by m.body refl
  where
    last : In (packet_note schema (message m)) (notes schema (packets ++ message m ∷ []))
    last = subst (In (packet_note schema (message m))) (sym (map-append (packet_note schema) packets (message m ∷ []))) (in-following (notes schema packets) here)

    by : (b : Body) → m.body ≡ b → BodyOrigin schema (notes schema (packets ++ message m ∷ [])) m b
    by (Request vs) is =
        let f = subst (FitsBody schema m) is fits in
        record {
          row = f.0;
          found = request-row schema m.number f.0 f.1.found f.1.number;
          requested = record { request = message_note schema m vs; sent_it = subst (λ (b : Body). In (body_note schema m b) (notes schema (packets ++ message m ∷ []))) is last; seq_is = refl; route_is = refl; number_is = refl };
        }
    by (Reply vs) is = let f = subst (FitsBody schema m) is fits in (f.0, f.1.found)
    by (Fault why) is = let f = subst (FitsBody schema m) is fits in (f.0, f.1.found)
    by Goodbye is = tt
