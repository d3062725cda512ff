-- The id that an event may still build is the one that its request makes, as lines show it.
use Rattle.std.proofs.Common.{◌≡◌, ℕ, ℤ, pos, Bool, true, false, ◌&&◌, cond, if◌then◌else◌, int_eq, List, [], ◌∷◌, ◌++◌, find, map, Option, Some, None, refl, sym, ap, subst, ◌∙◌}
use Rattle.std.specs.Option.{option_map_or}
use Rattle.ipdl_base.specs.declared.kinds.Side.{Side}
use Rattle.ipdl_base.specs.declared.kinds.Side.TheVariants.{Parent, Child}
use Rattle.ipdl_base.specs.declared.line.What.{What}
use Rattle.ipdl_base.specs.declared.message.Body.{Body}
use Rattle.ipdl_base.specs.declared.message.Body.TheVariants.{Request}
use Rattle.ipdl_base.specs.declared.message.Message.{Message}
use Rattle.ipdl_base.specs.declared.schema.Schema.{Schema}
use Rattle.ipdl_base.specs.declared.value.Values.{Values}
use Rattle.pending_queue.specs.declared.item.Item.TheVariants as item
use Rattle.pending_queue.specs.DeferralContext.{is_free}
use Rattle.nesting_core.specs.Top.{top_of}
use Rattle.history_reading.specs.EndReading.{EndReading, own_request}
use Rattle.ipdl_base.specs.Sides.{other}
use Rattle.history_reading.specs.Living.{made_id, event_makes}
use Rattle.history_reading.specs.SentPacket as told
use Rattle.history_reading.specs.SentPacket.{SentPacket, requests_of, request_of}
use Rattle.channel_model.specs.Ends.{End, Packet, message}
use Rattle.channel_model.specs.Numbers.{is_constructor}
use Rattle.channel_model.specs.Outputs.{is_open}
use Rattle.channel_model.specs.Parts
use Rattle.channel_model.specs.Parts.{FirstPart, LaterPart, outbox_after, request_packets, sent_end}
use Rattle.channel_model.specs.Phases as phase
use Rattle.channel_model.specs.Phases.{Phase, EventStart}
use Rattle.channel_model.specs.Sends as send
use Rattle.channel_model.specs.Takes as take
use Rattle.channel_laws.specs.EndActors.{actor_reading, shown_event, built_ids, IsPending, KeepsActors}
use Rattle.channel_laws.specs.NotedArrivals.{ItemIsNoted, ArrivalsAreNoted}
use Rattle.channel_laws.specs.Notes.{RequestNote, Note, asks, body_note, packet_note, message_note, request_note, told_notes, notes, In, here, there}
use Rattle.channel_laws.specs.SentAccounts.{EndAccount}
use Rattle.channel_laws.specs.Tested.{after_whats}
use Rattle.channel_laws.proofs.Growing.{grows, in-before, in-following, own-request}
use Rattle.channel_laws.proofs.SentAccounts.{requests-append}
use Rattle.channel_laws.proofs.Track.{all-found}

-- the request of a note is the one of its number
pub record IsAsked (side : Side) (sender : EndReading) (a : RequestNote) : Type 0 where
  pub request : told.Request
  pub found : own_request sender a.seq ≡ Some request
  pub is : request_note side request ≡ a

pub asked-of : (schema : Schema) (side : Side) (e : End) (sender : EndReading) (left : List Note) (a : RequestNote) → e.side ≡ side → EndAccount schema e sender left → In (asks a) (told_notes side sender.sent) → IsAsked side sender a
asked-of schema side e sender left a is k i =
    let r = own-request schema e.side (is_open e.state) e.outbox e.sent sender.sent left a k (subst (λ (s : Side). In (asks a) (told_notes s sender.sent)) (sym is) i) in
    record { request = r.0; found = r.1.0; is = ap (λ (s : Side). request_note s r.0) (sym is) ∙ r.1.1.0 }

made-id : (side : Side) (r : told.Request) → made_id side r ≡ (request_note side r).made
made-id Parent r = refl
made-id Child r = refl

-- a request of a number is there, and makes this id
pub record RequestMakes (side : Side) (sender : EndReading) (seq : ℤ) (id : ℤ) : Type 0 where
  pub request : told.Request
  pub found : own_request sender seq ≡ Some request
  pub makes : made_id side request ≡ id

asked-makes : (side : Side) (sender : EndReading) (a : RequestNote) → IsAsked side sender a → RequestMakes side sender a.seq a.made
asked-makes side sender a h = record { request = h.request; found = h.found; makes = made-id side h.request ∙ ap (λ (x : RequestNote). x.made) h.is }

module _ (schema : Schema) (side : Side) (others : EndReading) where
  -- the request of an event makes this id
  abbrev pub EventMakes : EndReading → EventStart → ℤ → Type 0
  EventMakes own (phase.sends seq route) id = RequestMakes side own seq id
  EventMakes own (phase.takes seq route) id = RequestMakes (other side) others seq id
  EventMakes own phase.ends id = ⊥
  EventMakes own phase.closes id = ⊥
  EventMakes own phase.other id = ⊥

  -- the id that may still be built is the one that the event's request makes
  abbrev pub FreshIsMade : EndReading → Phase → Type 0
  FreshIsMade own p = (id : ℤ) (rest : List ℤ) → p.fresh ≡ id ∷ rest → EventMakes own p.start id

  pub event-makes : (own : EndReading) (start : EventStart) (id : ℤ) → EventMakes own start id → event_makes side own others (shown_event start) ≡ id
  event-makes own (phase.sends seq route) id h = ap (λ (o : Option told.Request). option_map_or (made_id side) o (pos 0)) h.found ∙ h.makes
  event-makes own (phase.takes seq route) id h = ap (λ (o : Option told.Request). option_map_or (made_id (other side)) o (pos 0)) h.found ∙ h.makes
  event-makes own phase.ends id h = absurd h
  event-makes own phase.closes id h = absurd h
  event-makes own phase.other id h = absurd h

  -- What is sent is there

  in-last : (m : Message) (ms : List Message) → In (packet_note schema (message m)) (notes schema (map message (ms ++ m ∷ [])))
  in-last m [] = here
  in-last m (x ∷ ms) = there (in-last m ms)

  in-packets : (m : Message) (ms : List Message) → In (packet_note schema (message m)) (notes schema (map message ms ++ message m ∷ []))
  in-packets m [] = here
  in-packets m (x ∷ ms) = there (in-packets m ms)

  sent-noted : (lazy : Bool) (e : End) (m : Message) (left lost : List Note) → In (packet_note schema (message m)) ((left ++ notes schema (request_packets lazy e m)) ++ (notes schema (map message (outbox_after lazy m e.outbox)) ++ lost))
  sent-noted true e m left lost = in-following (left ++ []) (in-before lost (in-last m e.outbox))
  sent-noted false e m left lost = in-before lost (in-following left (in-packets m e.outbox))

  fresh-only : (b : Bool) (made id : ℤ) (rest : List ℤ) → (if b then made ∷ [] else []) ≡ id ∷ rest → made ≡ id
  fresh-only true made id rest e = cc
  fresh-only false made id rest e = cc

  taken-noted : (e : End) (m : Message) (sync : Bool) (level : _) (vs : Values) → ArrivalsAreNoted schema (told_notes (other side) others.sent) e → take.taken_next e ≡ Some (item.Message m sync level) → m.body ≡ Request vs → In (asks (message_note schema m vs)) (told_notes (other side) others.sent)
  taken-noted e m sync level vs noted next body = subst (λ (b : Body). In (body_note schema m b) (told_notes (other side) others.sent)) body (by (take.takes_in_state e.state && take.takes_under (top_of (send.frames_of e))) next)
    where
      by : (b : Bool) → cond b (take.first_free e) None ≡ Some (item.Message m sync level) → ItemIsNoted schema (told_notes (other side) others.sent) (item.Message m sync level)
      by true is = all-found (ItemIsNoted schema (told_notes (other side) others.sent)) (is_free (take.deferral_context_of e)) e.arrived (item.Message m sync level) noted is
      by false is = cc

  -- the request that is taken, as the other end's lines show it
  pub taken-asked : (e theirs : End) (left : List Note) (m : Message) (sync : Bool) (level : _) (vs : Values) → theirs.side ≡ other side → EndAccount schema theirs others left → ArrivalsAreNoted schema (told_notes (other side) others.sent) e → take.taken_next e ≡ Some (item.Message m sync level) → m.body ≡ Request vs → IsAsked (other side) others (message_note schema m vs)
  taken-asked e theirs left m sync level vs is account noted next body = asked-of schema (other side) theirs others left (message_note schema m vs) is account (taken-noted e m sync level vs noted next body)

  -- After a first part

  pub first-made : {e f : End} {ws : List What} {ps : List Packet} {p : Phase} (own : EndReading) (theirs : End) (left their_left : List Note) → FirstPart schema e ws ps f p → f.side ≡ side → theirs.side ≡ other side → EndAccount schema f own (left ++ notes schema ps) → EndAccount schema theirs others their_left
      → ArrivalsAreNoted schema (told_notes (other side) others.sent) e → FreshIsMade own p
  first-made own theirs left their_left (Parts.refuses w is) s t k l n id rest e = cc
  first-made own theirs left their_left (Parts.renames w is) s t k l n id rest e = cc
  first-made own theirs left their_left (Parts.flushes o) s t k l n id rest e = cc
  first-made {e = sender} own theirs left their_left (Parts.sends row route vs name sent) s t k l n id rest e =
      let m : Message = send.request_of sender row route vs in
      let noted : In (asks (message_note schema m vs)) (told_notes side own.sent) = subst (λ (x : Side). In (asks (message_note schema m vs)) (told_notes x own.sent)) s (subst (In (asks (message_note schema m vs))) (sym k.whole) (sent-noted row.lazy sender m left k.lost)) in
      subst (RequestMakes side own m.seq) (fresh-only (is_constructor row.kind) m.made id rest e) (asked-makes side own (message_note schema m vs) (asked-of schema side (sent_end row m sender) own (left ++ notes schema (request_packets row.lazy sender m)) (message_note schema m vs) s k noted))
  first-made own theirs left their_left (Parts.answers by vs r row found may accepted used) s t k l n id rest e = cc
  first-made own theirs left their_left (Parts.closes o waits) s t k l n id rest e = cc
  first-made own theirs left their_left (Parts.dies o) s t k l n id rest e = cc
  first-made own theirs left their_left (Parts.dies_silent o alive) s t k l n id rest e = cc
  first-made {e = taker} own theirs left their_left (Parts.takes m sync level row vs next body found stays) s t k l n id rest e =
      subst (RequestMakes (other side) others m.seq) (fresh-only (is_constructor row.kind) m.made id rest e) (asked-makes (other side) others (message_note schema m vs) (taken-asked taker theirs their_left m sync level vs t l n next body))
  first-made own theirs left their_left (Parts.drops m sync level row vs gone replies next body found dropped is) s t k l n id rest e = cc
  first-made own theirs left their_left (Parts.drops_unknown m sync level vs next body found) s t k l n id rest e = cc
  first-made own theirs left their_left (Parts.takes_reply m sync level a next body settles) s t k l n id rest e = cc
  first-made own theirs left their_left (Parts.settles m sync level row a next body found is) s t k l n id rest e = cc
  first-made own theirs left their_left (Parts.shuts last next is) s t k l n id rest e = cc
  first-made own theirs left their_left (Parts.returns entry row vs told lost is x y) s t k l n id rest e = cc
  first-made own theirs left their_left (Parts.resumes wait row on_top found) s t k l n id rest e = cc

  -- After the parts that follow

  find-grows : (test : told.Request → Bool) (rs more : List told.Request) (r : told.Request) → find test rs ≡ Some r → find test (rs ++ more) ≡ Some r
  find-grows test [] more r e = cc
  find-grows test (x ∷ rs) more r e = by (test x) e (find-grows test rs more r)
    where
      by : (b : Bool) → cond b (Some x) (find test rs) ≡ Some r → (find test rs ≡ Some r → find test (rs ++ more) ≡ Some r) → cond b (Some x) (find test (rs ++ more)) ≡ Some r
      by true e rec = e
      by false e rec = rec e

  makes-grows : (own next : EndReading) (more : List SentPacket) (start : EventStart) (id : ℤ) → next.sent ≡ own.sent ++ more → EventMakes own start id → EventMakes next start id
  makes-grows own next more (phase.sends seq route) id is h = record {
    request = h.request;
    found = ap (λ (sent : List SentPacket). request_of sent seq) is ∙ (ap (find (λ (r : told.Request). int_eq r.seq seq)) (requests-append own.sent more) ∙ find-grows (λ (r : told.Request). int_eq r.seq seq) (requests_of own.sent) (requests_of more) h.request h.found);
    makes = h.makes;
  }
  makes-grows own next more (phase.takes seq route) id is h = h
  makes-grows own next more phase.ends id is h = h
  makes-grows own next more phase.closes id is h = h
  makes-grows own next more phase.other id is h = h

  made-following : (place : ℕ) (ws : List What) (own : EndReading) (p : Phase) → FreshIsMade own p → FreshIsMade (after_whats schema place ws own) p
  made-following place ws own p h id rest e = let g = grows schema place ws own in makes-grows own (after_whats schema place ws own) g.0 p.start id g.1 (h id rest e)

  pub later-made : {p q : Phase} {e f : End} {ws : List What} {ps : List Packet} (place : ℕ) (own : EndReading) → LaterPart p e ws ps f q → KeepsActors schema p e (actor_reading own) → FreshIsMade own p → FreshIsMade (after_whats schema place ws own) q
  later-made {p} {ws} place own (Parts.unnames name may silent) k h = made-following place [] own p h
  later-made {p} {ws} place own (Parts.lets_go name r may is o) k h = made-following place ws own p h
  later-made {p} place own (Parts.names more a) k h = h
  later-made {p} place own (Parts.releases seq closed) k h = h
  later-made {p} place own (Parts.keeps seq name r is goes) k h = h
  later-made {p} {e = builder} place own (Parts.builds id protocol rest fresh built) k h = λ next more e.
      let pending : IsPending (built_ids schema builder own.built) (id ∷ rest) = subst (IsPending (built_ids schema builder own.built)) fresh k.ids.pending in
      let none : [] ≡ next ∷ more = sym pending.3 ∙ e in
      cc
  later-made {p} {ws} place own (Parts.deletes id cause) k h = made-following place ws own p h
  later-made {p} {ws} place own (Parts.falls why cause) k h = made-following place ws own p h
