-- What one end of a channel sends, the other does not refuse.
use Rattle.std.proofs.Common.{◌≡◌, ◌==◌, ℕ, ◌+◌, ℤ, Bool, true, false, not, ◌&&◌, ◌||◌, cond, if◌then◌else◌, int_eq, List, [], ◌∷◌, ◌++◌, map, Option, Some, None, is_some, option_map, refl, sym, ap, subst, ◌∙◌}
use Rattle.std.specs.List.{list_any}
use Rattle.std.specs.Option.{option_map_or}
use Rattle.std.proofs.lemmas.Bool.{eq-eqb}
use Rattle.std.proofs.lemmas.Bool.Decides.{Decides-int_eq}
use Rattle.std.proofs.lemmas.Option.{same_Some}
use Rattle.ipdl_base.specs.declared.message.Body.{Body}
use Rattle.ipdl_base.specs.declared.message.Body.TheVariants.{Request, Reply, Fault, Goodbye}
use Rattle.ipdl_base.specs.declared.message.Message.{Message}
use Rattle.ipdl_base.specs.declared.schema.MessageRow.{MessageRow}
use Rattle.ipdl_base.specs.declared.schema.Schema.{Schema}
use Rattle.ipdl_base.specs.declared.value.Values.{Values}
use Rattle.ipdl_base.specs.Sound.{IsSound, message_of}
use Rattle.history_reading.specs.EndReading.{EndReading}
use Rattle.history_reading.specs.Rows.{wants_number, wants_row}
use Rattle.history_reading.specs.SentPacket as told
use Rattle.history_reading.specs.SentPacket.{requests_of}
use Rattle.channel_model.specs.Ends.{End, Packet, message, mark}
use Rattle.ipdl_base.specs.Sides.{other, sends}
use Rattle.channel_model.specs.Numbers.{is_constructor, is_sync_row}
use Rattle.channel_model.specs.Refusals.{DeliveryRefusal, wrong_direction, wrong_number, wrong_new_id, wrong_actor, stray, expected_seq, expected_id, is_replied_to, is_waited_for, is_promised, actors_of, actor_refusal, request_refusal, is_expected_reply, reply_refusal, body_refusal, packet_refusal}
use Rattle.channel_model.specs.ValueActors.{ActorValue}
use Rattle.channel_laws.specs.Laws.{IsReply}
use Rattle.channel_laws.specs.NotedArrivals.{HasWantsOfRow, HaveWantsOfRows}
use Rattle.channel_laws.specs.Notes.{RequestNote, told_notes, In, here, there}
use Rattle.channel_laws.specs.Origins.{RepliesTo, BodyReplies, PacketReplies}
use Rattle.channel_laws.specs.Promised.{Promised, promised_by, promised_in, promised_entry, PromisesAreRead}
use Rattle.channel_laws.specs.Protocols.{Protocols, HasProtocols, PacketHasProtocols}
use Rattle.channel_laws.specs.RequestOrder.{IsNextRequest}
use Rattle.channel_laws.specs.SyncCalls.{is_sync_number}
use Rattle.channel_laws.proofs.Growing.{IsSentAs, sent-as, in-all, in-following}
use Rattle.channel_laws.proofs.ReplyRows.{reply_row-is}
use Rattle.channel_laws.proofs.Rows.{request-message}
use Rattle.channel_laws.proofs.StandsFor.{none-otherwise}

-- Promises

or-first : (a b : Bool) → a ≡ true → a || b ≡ true
or-first true b e = refl
or-first false b e = cc

or-second : (a b : Bool) → b ≡ true → a || b ≡ true
or-second true b e = refl
or-second false b e = e

in-any : {A : Type 0} {x : A} {xs : List A} (test : A → Bool) → In x xs → test x ≡ true → list_any test xs ≡ true
in-any {x} test (here {xs}) e = or-first (test x) (list_any test xs) e
in-any test (there {y} {xs} i) e = or-second (test y) (list_any test xs) (in-any test i e)

any-map : {A B : Type 0} (f : A → B) (test : B → Bool) (xs : List A) → list_any test (map f xs) ≡ list_any (λ (x : A). test (f x)) xs
any-map f test [] = refl
any-map f test (x ∷ xs) = ap (λ (b : Bool). test (f x) || b) (any-map f test xs)

promise-listed : (b : Bool) (p : Promised) (rest : List Promised) → b ≡ true → In p (cond b (p ∷ []) [] ++ rest)
promise-listed true p rest e = here
promise-listed false p rest e = cc

in-promised : {r : told.Request} {rs : List told.Request} → In r rs → r.wants ≡ true → In (record { seq = r.seq; route = r.route; number = r.number }) (promised_in rs)
in-promised {r} (here {xs}) e = promise-listed r.wants (record { seq = r.seq; route = r.route; number = r.number }) (promised_in xs) e
in-promised (there {y} i) e = in-following (promised_by y) (in-promised i e)

replied-is : (m : Message) (seq : ℤ) (number : ℕ) (route : ℤ) → seq ≡ m.seq → m.number ≡ number + 1 → route ≡ m.route → is_replied_to m seq number route ≡ true
replied-is m seq number route a b c =
    ap (λ (x : Bool). x && ((m.number == number + 1) && int_eq m.route route)) ((Decides-int_eq m.seq seq).1 (sym a))
    ∙ (ap (λ (x : Bool). x && int_eq m.route route) (eq-eqb m.number (number + 1) b) ∙ (Decides-int_eq m.route route).1 (sym c))

returned : (sync returns : Bool) → sync || returns ≡ true → sync ≡ false → not sync && returns ≡ true
returned true returns e s = cc
returned false returns e s = e

-- Refusals

passes-request : (a b c : Bool) (x y z : DeliveryRefusal) (rest : Option DeliveryRefusal) → a ≡ true → b ≡ true → c ≡ false → rest ≡ None → (if not a then Some x else (if not b then Some y else (if c then Some z else rest))) ≡ None
passes-request true true false x y z rest e f g h = h
passes-request false b c x y z rest e f g h = cc
passes-request true false c x y z rest e f g h = cc
passes-request true true true x y z rest e f g h = cc

passes-reply : (a : Bool) (x : DeliveryRefusal) (rest : Option DeliveryRefusal) → a ≡ true → rest ≡ None → (if a then rest else Some x) ≡ None
passes-reply true x rest e h = h
passes-reply false x rest e h = cc

new-id : (b c : Bool) → (b ≡ true → c ≡ true) → b && not c ≡ false
new-id true true h = refl
new-id true false h = let e : false ≡ true = h refl in cc
new-id false c h = refl

expected : (sync waited promised : Bool) → (sync ≡ true → waited ≡ true) → (sync ≡ false → promised ≡ true) → (if sync then waited else promised) ≡ true
expected true waited promised h k = h refl
expected false waited promised h k = k refl

module _ (schema : Schema) (sound : IsSound schema) where
  -- the reply to an async request is to a request with a promise
  pub reply-promised : (e : End) (own : EndReading) (m : Message) (row : MessageRow) → RepliesTo schema (told_notes e.side own.sent) m → HaveWantsOfRows schema own.sent → PromisesAreRead e own → message_of schema m.number ≡ Some row → is_sync_row row ≡ false → is_promised e m ≡ true
  reply-promised e own m row r wants h found async =
      let a : RequestNote = r.origin.requested.request in
      let s : IsSentAs e.side own.sent a = sent-as e.side own.sent a (told_notes e.side own.sent) refl r.origin.requested.sent_it in
      let number : s.request.number ≡ r.number = ap (λ (x : RequestNote). x.number) s.is ∙ r.origin.requested.number_is in
      let seq : s.request.seq ≡ m.seq = ap (λ (x : RequestNote). x.seq) s.is ∙ r.origin.requested.seq_is in
      let route : s.request.route ≡ m.route = ap (λ (x : RequestNote). x.route) s.is ∙ r.origin.requested.route_is in
      let row_is : row ≡ r.origin.row = reply_row-is schema sound r.number r.origin.row r.origin.found row (ap (message_of schema) (sym r.is) ∙ found) in
      let makes : wants_row r.origin.row ≡ true = returned (is_sync_row r.origin.row) (is_some r.origin.row.returns) r.replied (ap is_sync_row (sym row_is) ∙ async) in
      let wanted : s.request.wants ≡ true = in-all (HasWantsOfRow schema) s.there wants ∙ (ap (wants_number schema) number ∙ (ap (λ (o : Option MessageRow). option_map_or wants_row o false) (request-message schema r.number r.origin.row r.origin.found) ∙ makes)) in
      let test : Promised → Bool = λ (p : Promised). is_replied_to m p.seq p.number p.route in
      let any : list_any test (promised_in (requests_of own.sent)) ≡ true = in-any test (in-promised s.there wanted) (replied-is m s.request.seq s.request.number s.request.route seq (r.is ∙ ap (λ (n : ℕ). n + 1) (sym number)) route) in
      sym (any-map promised_entry test e.promises) ∙ (ap (list_any test) h.promises_are ∙ any)

  -- What is known of a packet that comes to an end: a request is the next of the other end, a sync reply is awaited.
  pub record Comes (made : Protocols) (e : End) (own : EndReading) (packet : Packet) : Type 0 where
    pub keeps : HasProtocols schema made e
    pub protocols : PacketHasProtocols schema made packet
    pub next : (m : Message) (vs : Values) → packet ≡ message m → m.body ≡ Request vs → IsNextRequest schema (other e.side) m e.delivered e.constructors_delivered
    pub waited : (m : Message) → packet ≡ message m → IsReply m.body → is_sync_number schema m.number ≡ true → is_waited_for e m ≡ true
    pub replies : PacketReplies schema (told_notes e.side own.sent) packet
    pub wants : HaveWantsOfRows schema own.sent
    pub promises : PromisesAreRead e own

  -- so the end does not refuse it
  pub comes-accepted : (made : Protocols) (e : End) (own : EndReading) (packet : Packet) → Comes made e own packet → packet_refusal schema e packet ≡ None
  comes-accepted made e own mark h = refl
  comes-accepted made e own (message m) h = at (message_of schema m.number) refl
    where
      actors : (row : MessageRow) → message_of schema m.number ≡ Some row → actor_refusal schema e row m ≡ None
      actors row found = ap (option_map (λ (a : ActorValue). wrong_actor a.id m.number)) (none-otherwise made e.actors h.keeps.actors (actors_of schema row m m.body) (h.protocols row found).actors)

      request : (row : MessageRow) (vs : Values) → message_of schema m.number ≡ Some row → m.body ≡ Request vs → request_refusal schema e m row ≡ None
      request row vs found body =
          let n : IsNextRequest schema (other e.side) m e.delivered e.constructors_delivered = h.next m vs refl body in
          let row_is : n.row ≡ row = same_Some n.row row (sym n.found ∙ found) in
          passes-request (sends (other e.side) row.direction) (int_eq m.seq (expected_seq e)) (is_constructor row.kind && not (int_eq m.made (expected_id e))) wrong_direction wrong_number wrong_new_id (actor_refusal schema e row m)
          (ap (λ (r : MessageRow). sends (other e.side) r.direction) (sym row_is) ∙ n.direction)
          ((Decides-int_eq m.seq (expected_seq e)).1 n.seq_is)
          (new-id (is_constructor row.kind) (int_eq m.made (expected_id e)) (λ k. (Decides-int_eq m.made (expected_id e)).1 (n.made_is (ap (λ (r : MessageRow). is_constructor r.kind) row_is ∙ k))))
          (actors row found)

      reply : (row : MessageRow) → message_of schema m.number ≡ Some row → IsReply m.body → RepliesTo schema (told_notes e.side own.sent) m → reply_refusal schema e m row ≡ None
      reply row found is r =
          passes-reply (is_expected_reply e m row) (stray m.seq) (actor_refusal schema e row m)
          (expected (is_sync_row row) (is_waited_for e m) (is_promised e m) (λ s. h.waited m refl is (ap (λ (o : Option MessageRow). option_map_or is_sync_row o false) found ∙ s)) (λ s. reply-promised e own m row r h.wants h.promises found s))
          (actors row found)

      body : (b : Body) (row : MessageRow) → m.body ≡ b → message_of schema m.number ≡ Some row → body_refusal schema e m b row ≡ None
      body (Request vs) row is found = request row vs found is
      body (Reply vs) row is found = reply row found (subst IsReply (sym is) tt) (subst (BodyReplies schema (told_notes e.side own.sent) m) is h.replies)
      body (Fault reason) row is found = reply row found (subst IsReply (sym is) tt) (subst (BodyReplies schema (told_notes e.side own.sent) m) is h.replies)
      body Goodbye row is found = refl

      at : (found : Option MessageRow) → message_of schema m.number ≡ found → option_map_or (body_refusal schema e m m.body) (message_of schema m.number) None ≡ None
      at None is = ap (λ (o : Option MessageRow). option_map_or (body_refusal schema e m m.body) o None) is
      at (Some row) is = ap (λ (o : Option MessageRow). option_map_or (body_refusal schema e m m.body) o None) is ∙ body m.body row refl is
