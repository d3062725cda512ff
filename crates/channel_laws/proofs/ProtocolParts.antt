-- After each part all that an end keeps and sends has the protocols of the ids.
use Rattle.std.proofs.Common.{◌≡◌, ◌==◌, inr, ℕ, ◌+◌, ℤ, Bool, true, false, not, ◌&&◌, ◌||◌, cond, if◌then◌else◌, int_eq, List, [], ◌∷◌, ◌++◌, drop, find, map, Option, Some, None, is_none, is_some, option_and_then, option_map, refl, sym, ap, subst, ◌∙◌}
use Rattle.std.specs.List.{AllByRecursion}
use Rattle.std.specs.Option.{option_map_or}
use Rattle.std.proofs.lemmas.Bool.{eqb-true}
use Rattle.std.proofs.lemmas.Option.{same_Some}
use Rattle.actor_tree.specs.Tree.{lives}
use Rattle.ipdl_base.specs.declared.kinds.Level.{Level}
use Rattle.ipdl_base.specs.declared.kinds.Reason.TheVariants.{ActorDestroyed, ResolverDestroyed, HandlerRejected}
use Rattle.ipdl_base.specs.declared.kinds.SendRefusal.{SendRefusal}
use Rattle.ipdl_base.specs.declared.kinds.SendRefusal.TheVariants as refusal
use Rattle.ipdl_base.specs.declared.line.What.{What}
use Rattle.ipdl_base.specs.declared.message.Body.{Body}
use Rattle.ipdl_base.specs.declared.message.Body.TheVariants.{Request, Reply, Fault, Goodbye}
use Rattle.ipdl_base.specs.declared.message.Message.{Message}
use Rattle.ipdl_base.specs.declared.schema.Kind.{Kind}
use Rattle.ipdl_base.specs.declared.schema.MessageRow.{MessageRow}
use Rattle.ipdl_base.specs.declared.schema.ParamRow.{ParamRow}
use Rattle.ipdl_base.specs.declared.schema.Schema.{Schema}
use Rattle.ipdl_base.specs.declared.value.Values.{Values}
use Rattle.ipdl_base.specs.declared.value.Values.TheVariants.{Nothing}
use Rattle.ipdl_base.specs.Signatures.{returns_of_row}
use Rattle.ipdl_base.specs.Sound.{IsSound, message_of}
use Rattle.nesting_core.specs.declared.frame.Answer.{Answer}
use Rattle.nesting_core.specs.declared.frame.Answer.TheVariants as answer
use Rattle.nesting_core.specs.declared.frame.StackFrame.{StackFrame}
use Rattle.nesting_core.specs.declared.frame.StackFrame.TheVariants.{Dispatch, Wait}
use Rattle.nesting_core.specs.Answers.{with_answer}
use Rattle.nesting_core.specs.Frames.{head_of, is_unanswered}
use Rattle.nesting_core.specs.Top.{top_of}
use Rattle.nesting_laws.specs.Calls.{ReplyHead}
use Rattle.pending_queue.specs.declared.item.Item.{Item}
use Rattle.pending_queue.specs.declared.item.Item.TheVariants as item
use Rattle.pending_queue.specs.Compression.{is_request, is_request_of, replaced, staying}
use Rattle.pending_queue.specs.DeferralContext.{is_free, without_first}
use Rattle.channel_model.specs.Acts.{goodbye}
use Rattle.channel_model.specs.Answers as answering
use Rattle.channel_model.specs.Deliveries as delivery
use Rattle.channel_model.specs.Ends.{End, Packet, message, mark, StackEntry, NameContent, actor, resolver, Naming, Resolver}
use Rattle.channel_model.specs.Events.{Answering, handled, kept}
use Rattle.channel_model.specs.Names.{has_name, held_by_name, is_actor}
use Rattle.ipdl_base.specs.Sides.{top_id}
use Rattle.channel_model.specs.Numbers.{counting, protocol_of, is_sync_row, makes_promise, request_row, is_constructor}
use Rattle.channel_model.specs.Outputs.{is_open, AnsweredRequest, request_answered, resolver_answered, reply_to, body_of}
use Rattle.channel_model.specs.Parts
use Rattle.channel_model.specs.Parts.{FirstPart, LaterPart, LaterParts, OwnParts, DeliveryPart, HoldsActor, after_outbox, reply_packet, reply_packets, end_after, left_end, outbox_after, request_packets, promise_for}
use Rattle.channel_model.specs.Phases.{Phase, manager_of, quiet, sending}
use Rattle.channel_model.specs.Returns as return
use Rattle.channel_model.specs.Sends as send
use Rattle.channel_model.specs.Takes as take
use Rattle.channel_model.specs.ValueActors.{actors_in_parts, lives_as, has_dead}
use Rattle.channel_model.proofs.Known.{all-append, all-filter}
use Rattle.channel_model.proofs.SendParts.{passed-first}
use Rattle.channel_model.proofs.Sublists.{all-sublist, without_first-sublist, staying-sublist}
use Rattle.channel_model.proofs.FittingEnds.{all-drop}
use Rattle.channel_model.proofs.FittingSends.{accepted-values}
use Rattle.channel_laws.specs.Laws.{IsReply, awaited_reply}
use Rattle.channel_laws.specs.Protocols.{Protocols, HasItsProtocol, HaveTheirProtocols, route_actor, MakesItsProtocol, IsRightMessage, MessageHasProtocols, KeptRequest, AnswerHasProtocols, FrameHasProtocols, EntryHasProtocols, ContentHasProtocols, NamingHasProtocols, ItemHasProtocols, PacketHasProtocols, ActorHasProtocol, HasProtocols}
use Rattle.channel_laws.specs.SyncCalls.{is_sync_number, reply_head}
use Rattle.channel_laws.proofs.ListedItems.{all-messages, replaced-is}
use Rattle.channel_laws.proofs.ReplyRows.{reply_protocol, reply_row-is}
use Rattle.channel_laws.proofs.Rows.{request-message}
use Rattle.channel_model.proofs.Tests.{and-left, and-right}
use Rattle.channel_laws.proofs.StandsFor.{lives-stands, none-dead}
use Rattle.channel_laws.proofs.Track.{all-found}

-- Refusals

past-stack : (refused : Option SendRefusal) (rest : Option SendRefusal) → (if is_some refused then refused else rest) ≡ None → rest ≡ None
past-stack None rest e = e
past-stack (Some cause) rest e = cc

-- the row whose request a resolver answers
answered-request : (schema : Schema) (e : End) (by : Answering) (row : MessageRow) (r : Resolver) → answering.answered_row schema e by ≡ Some row → answering.resolver_used e by ≡ Some r → request_row schema r.number ≡ Some row
answered-request schema e (handled seq) row r found used = ap (option_and_then (λ (x : Resolver). request_row schema x.number)) (sym used) ∙ found
answered-request schema e (kept name number) row r found used = ap (request_row schema) (number-is (held_by_name name e.names) used) ∙ row-is (request_row schema number) found
  where
    row-is : (o : Option MessageRow) → option_and_then (λ (x : MessageRow). if makes_promise x then Some x else None) o ≡ Some row → o ≡ Some row
    row-is None f = cc
    row-is (Some x) f = by (makes_promise x) f
      where
        by : (b : Bool) → cond b (Some x) None ≡ Some row → Some x ≡ Some row
        by true f = f
        by false f = cc

    number-is : (content : Option NameContent) → option_and_then (answering.resolver_of number) content ≡ Some r → r.number ≡ number
    number-is None f = cc
    number-is (Some (actor id)) f = cc
    number-is (Some (resolver s)) f = by (s.number == number) refl f
      where
        by : (b : Bool) → (s.number == number) ≡ b → cond b (Some s) None ≡ Some r → r.number ≡ number
        by true is f = ap (λ (x : Resolver). x.number) (sym (same_Some s r f)) ∙ eqb-true s.number number is
        by false is f = cc

-- the id that a constructor makes is fresh
fresh-right : (P : ℤ → Type 0) (b : Bool) (id : ℤ) → P id → AllByRecursion P (if b then id ∷ [] else [])
fresh-right P true id h = (h, tt)
fresh-right P false id h = tt

-- what a first part needs of ids: the id that a request makes has its protocol
abbrev pub SendsRight : {schema : Schema} {e f : End} {ws : List What} {ps : List Packet} {p : Phase} → Protocols → FirstPart schema e ws ps f p → Type 0
SendsRight {e} made (Parts.sends row route vs name sent) = MakesItsProtocol made row.kind (send.next_made e row.kind)
SendsRight made _ = Unit {0}

abbrev pub OwnSendsRight : {schema : Schema} {e f : End} {ws : List What} {ps : List Packet} {q : Phase} → Protocols → OwnParts schema e ws ps f q → Type 0
OwnSendsRight made (Parts.begun part rest ended) = SendsRight made part

-- the reply to a sync request that is delivered is the one that is awaited
abbrev pub IsAwaited : Schema → Packet → End → Type 0
IsAwaited schema packet e = (m : Message) → packet ≡ message m → IsReply m.body → is_sync_number schema m.number ≡ true → awaited_reply e.stack ≡ Some (reply_head m)

-- After a part what the end keeps and has sent has its protocols, and so has what it may still build.
pub record Right (schema : Schema) (made : Protocols) (f : End) (ps : List Packet) (q : Phase) : Type 0 where
  pub keeps : HasProtocols schema made f
  pub packets : AllByRecursion (PacketHasProtocols schema made) ps
  pub fresh : AllByRecursion (MakesItsProtocol made q.kind) q.fresh

module _ (schema : Schema) (sound : IsSound schema) (made : Protocols) where
  -- Messages

  reply-right : (q : AnsweredRequest) (a : Answer) → KeptRequest schema made q.route q.number → AnswerHasProtocols schema made q.number a → PacketHasProtocols schema made (reply_packet q a)
  reply-right q a k h row found = by a h
    where
      route : HasItsProtocol made (route_actor q.route (q.number + 1))
      route = subst (λ (p : ℕ). HasItsProtocol made (record { id = q.route; protocol = p; nullable = false })) (sym (reply_protocol schema sound q.number k.row k.found)) k.actor_is

      by : (a : Answer) → AnswerHasProtocols schema made q.number a → IsRightMessage schema made (reply_to q (body_of a)) row (body_of a)
      by (answer.Ok vs) h = record {
        actors = (route, subst (λ (r : MessageRow). HaveTheirProtocols made (actors_in_parts schema (returns_of_row r) vs)) (sym (reply_row-is schema sound q.number k.row k.found row found)) (h k.row k.found));
        request = tt;
      }
      by (answer.Fault reason) h = record { actors = (route, tt); request = tt }

  outbox-right : (e : End) → HasProtocols schema made e → AllByRecursion (PacketHasProtocols schema made) (map message e.outbox)
  outbox-right e k = all-messages (PacketHasProtocols schema made) (MessageHasProtocols schema made) e.outbox (λ m h. h) k.outbox

  following-right : (e : End) (p : Packet) → HasProtocols schema made e → PacketHasProtocols schema made p → AllByRecursion (PacketHasProtocols schema made) (after_outbox e p)
  following-right e p k h = all-append (PacketHasProtocols schema made) (map message e.outbox) (p ∷ []) (outbox-right e k) (h, tt)

  replies-right : (b : Bool) (e : End) (q : AnsweredRequest) (a : Answer) → HasProtocols schema made e → KeptRequest schema made q.route q.number → AnswerHasProtocols schema made q.number a → AllByRecursion (PacketHasProtocols schema made) (reply_packets b e q a)
  replies-right true e q a k r h = following-right e (reply_packet q a) k (reply-right q a r h)
  replies-right false e q a k r h = tt

  sent-following : (b : Bool) (e : End) → HasProtocols schema made e → HasProtocols schema made (end_after b e)
  sent-following true e k = record { actors = k.actors; entries = k.entries; names = k.names; arrived = k.arrived; outbox = tt }
  sent-following false e k = k

  -- Stacks

  released-one : (b : Bool) (x : StackEntry) → EntryHasProtocols schema made x → EntryHasProtocols schema made (cond b (record x { resolves = false }) x)
  released-one true x h = record { request = h.request; frame = h.frame }
  released-one false x h = h

  released-right : (seq : ℤ) (es : List StackEntry) → AllByRecursion (EntryHasProtocols schema made) es → AllByRecursion (EntryHasProtocols schema made) (answering.released seq es)
  released-right seq [] h = tt
  released-right seq (x ∷ xs) h = (released-one (answering.has_resolver seq x) x h.0, released-right seq xs h.1)

  failed-frame : (number : ℕ) (f : StackFrame) → FrameHasProtocols schema made number f → FrameHasProtocols schema made number (delivery.failed f)
  failed-frame number (Dispatch head) h = tt
  failed-frame number (Wait head None) h = tt
  failed-frame number (Wait head (Some a)) h = h

  failed-right : (es : List StackEntry) → AllByRecursion (EntryHasProtocols schema made) es → AllByRecursion (EntryHasProtocols schema made) (map delivery.with_failed_wait es)
  failed-right [] h = tt
  failed-right (x ∷ xs) h = (record { request = h.0.request; frame = failed-frame x.number x.frame h.0.frame }, failed-right xs h.1)

  same-right : (es : List StackEntry) → AllByRecursion (EntryHasProtocols schema made) es → AllByRecursion (EntryHasProtocols schema made) (delivery.with_frames (map (λ (x : StackEntry). x.frame) es) es)
  same-right [] h = tt
  same-right (x ∷ xs) h = (h.0, same-right xs h.1)

  -- the reply that the innermost wait waits for is to its request
  answered-right : (m : Message) (a : Answer) (es : List StackEntry) → ((n : ℕ) → n + 1 ≡ m.number → AnswerHasProtocols schema made n a) → awaited_reply es ≡ Some (reply_head m) → AllByRecursion (EntryHasProtocols schema made) es
      → AllByRecursion (EntryHasProtocols schema made) (delivery.with_frames (with_answer a (map (λ (x : StackEntry). x.frame) es)) es)
  answered-right m a [] fits e h = tt
  answered-right m a (x ∷ xs) fits e h = by x.frame refl e (λ (rest : awaited_reply xs ≡ Some (reply_head m)). answered-right m a xs fits rest h.1)
    where
      frames : List StackFrame
      frames = map (λ (x : StackEntry). x.frame) xs

      by : (f : StackFrame) → x.frame ≡ f → option_map (λ (entry : StackEntry). record { seq = (head_of entry.frame).seq; route = entry.route; number = entry.number + 1 }) (cond (is_unanswered f) (Some x) (find (λ (entry : StackEntry). is_unanswered entry.frame) xs)) ≡ Some (reply_head m)
          → (awaited_reply xs ≡ Some (reply_head m) → AllByRecursion (EntryHasProtocols schema made) (delivery.with_frames (with_answer a frames) xs))
          → AllByRecursion (EntryHasProtocols schema made) (delivery.with_frames (with_answer a (f ∷ frames)) (x ∷ xs))
      by (Dispatch head) is e rec = (subst (λ (g : StackFrame). EntryHasProtocols schema made (record x { frame = g })) is h.0, rec e)
      by (Wait head None) is e rec = (record { request = h.0.request; frame = fits x.number (ap (λ (r : ReplyHead). r.number) (same_Some (record { seq = (head_of x.frame).seq; route = x.route; number = x.number + 1 }) (reply_head m) e)) }, same-right xs h.1)
      by (Wait head (Some b)) is e rec = (subst (λ (g : StackFrame). EntryHasProtocols schema made (record x { frame = g })) is h.0, rec e)

  reply-fits : (m : Message) (row : MessageRow) (a : Answer) → message_of schema m.number ≡ Some row → IsRightMessage schema made m row (body_of a) → (n : ℕ) → n + 1 ≡ m.number → AnswerHasProtocols schema made n a
  reply-fits m row (answer.Ok vs) found h n is = λ r request. subst (λ (x : MessageRow). HaveTheirProtocols made (actors_in_parts schema (returns_of_row x) vs)) (reply_row-is schema sound n r request row (ap (message_of schema) is ∙ found)) h.actors.1
  reply-fits m row (answer.Fault reason) found h n is = tt

  top-right : (es : List StackEntry) (entry : StackEntry) → return.dispatch_on_top es ≡ Some entry → AllByRecursion (EntryHasProtocols schema made) es → EntryHasProtocols schema made entry
  top-right [] entry is h = cc
  top-right (x ∷ xs) entry is h = by x.frame is
    where
      by : (f : StackFrame) → elim f as (λ y. Option StackEntry) [ Dispatch head ↦ Some x | Wait head a ↦ None ] ≡ Some entry → EntryHasProtocols schema made entry
      by (Dispatch head) e = subst (EntryHasProtocols schema made) (same_Some x entry e) h.0
      by (Wait head a) e = cc

  -- Resolvers

  handled-right : (e : End) (seq : ℤ) (r : Resolver) → HasProtocols schema made e → answering.handled_resolver e seq ≡ Some r → KeptRequest schema made r.route r.number
  handled-right e seq r k is = by (find (answering.has_resolver seq) e.stack) refl is
    where
      by : (found : Option StackEntry) → find (answering.has_resolver seq) e.stack ≡ found → option_map answering.resolver_in found ≡ Some r → KeptRequest schema made r.route r.number
      by None f x = cc
      by (Some entry) f x = subst (λ (s : Resolver). KeptRequest schema made s.route s.number) (same_Some (answering.resolver_in entry) r x) (all-found (EntryHasProtocols schema made) (answering.has_resolver seq) e.stack entry k.entries f).request

  held-right : (name : List ℕ) (names : List Naming) (content : NameContent) → AllByRecursion (NamingHasProtocols schema made) names → held_by_name name names ≡ Some content → ContentHasProtocols schema made content
  held-right name names content k is = by (find (has_name name) names) refl is
    where
      by : (found : Option Naming) → find (has_name name) names ≡ found → option_map (λ (n : Naming). n.holds) found ≡ Some content → ContentHasProtocols schema made content
      by None f x = cc
      by (Some n) f x = subst (ContentHasProtocols schema made) (same_Some n.holds content x) (all-found (NamingHasProtocols schema made) (has_name name) names n k f)

  used-right : (e : End) (by : Answering) (r : Resolver) → HasProtocols schema made e → answering.resolver_used e by ≡ Some r → KeptRequest schema made r.route r.number
  used-right e (handled seq) r k is = handled-right e seq r k is
  used-right e (kept name number) r k is = at (held_by_name name e.names) refl is
    where
      resolver-is : (b : Bool) (s : Resolver) → cond b (Some s) None ≡ Some r → s ≡ r
      resolver-is true s x = same_Some s r x
      resolver-is false s x = cc

      at : (content : Option NameContent) → held_by_name name e.names ≡ content → option_and_then (answering.resolver_of number) content ≡ Some r → KeptRequest schema made r.route r.number
      at None f x = cc
      at (Some (actor id)) f x = cc
      at (Some (resolver s)) f x = subst (λ (t : Resolver). KeptRequest schema made t.route t.number) (resolver-is (s.number == number) s x) (held-right name e.names (resolver s) k.names f)

  without-right : (by : Answering) (e : End) → HasProtocols schema made e → HasProtocols schema made (record (answering.without_resolver by e) { outbox = [] })
  without-right (handled seq) e k = record { actors = k.actors; entries = released-right seq e.stack k.entries; names = k.names; arrived = k.arrived; outbox = tt }
  without-right (kept name number) e k = record { actors = k.actors; entries = k.entries; names = all-filter (NamingHasProtocols schema made) (λ naming. not (has_name name naming)) e.names k.names; arrived = k.arrived; outbox = tt }

  actor-names : (more : List Naming) → AllByRecursion HoldsActor more → AllByRecursion (NamingHasProtocols schema made) more
  actor-names [] h = tt
  actor-names (n ∷ ns) h = (by n.holds h.0, actor-names ns h.1)
    where
      by : (x : NameContent) → elim x as (λ y. Type 0) [ actor id ↦ Unit {0} | resolver r ↦ ⊥ ] → ContentHasProtocols schema made x
      by (actor id) h = tt
      by (resolver r) h = absurd h

  -- Items

  request-kept : (m : Message) (row : MessageRow) (vs : Values) → IsRightMessage schema made m row (Request vs) → KeptRequest schema made m.route m.number
  request-kept m row vs h = record { row = row; found = h.request.found; actor_is = h.actors.0 }

  taken-right : (e : End) (x : Item) → HasProtocols schema made e → take.taken_next e ≡ Some x → ItemHasProtocols schema made x
  taken-right e x k next = by (take.takes_in_state e.state && take.takes_under (top_of (send.frames_of e))) next
    where
      by : (b : Bool) → cond b (take.first_free e) None ≡ Some x → ItemHasProtocols schema made x
      by true is = all-found (ItemHasProtocols schema made) (is_free (take.deferral_context_of e)) e.arrived x k.arrived is
      by false is = cc

  pub taken-request : (e : End) (m : Message) (sync : Bool) (level : Level) (row : MessageRow) (vs : Values) → HasProtocols schema made e → take.taken_next e ≡ Some (item.Message m sync level) → m.body ≡ Request vs → message_of schema m.number ≡ Some row → IsRightMessage schema made m row (Request vs)
  taken-request e m sync level row vs k next body found = subst (IsRightMessage schema made m row) body (taken-right e (item.Message m sync level) k next row found)

  left-right : (e : End) → HasProtocols schema made e → HasProtocols schema made (left_end e)
  left-right e k = record {
    actors = k.actors;
    entries = k.entries;
    names = k.names;
    arrived = all-sublist (ItemHasProtocols schema made) (without_first (is_free (take.deferral_context_of e)) e.arrived) e.arrived (without_first-sublist (is_free (take.deferral_context_of e)) e.arrived) k.arrived;
    outbox = k.outbox;
  }

  counted-right : (e : End) (row : MessageRow) (m : Message) → MessageHasProtocols schema made m → HasProtocols schema made e → HasProtocols schema made (delivery.counted row (delivery.item_of row m) e)
  counted-right e row m new k = record {
    actors = k.actors;
    entries = k.entries;
    names = k.names;
    arrived = all-append (ItemHasProtocols schema made) (staying row.compress (delivery.item_of row m) e.arrived) (delivery.item_of row m ∷ []) (all-sublist (ItemHasProtocols schema made) (staying row.compress (delivery.item_of row m) e.arrived) e.arrived (staying-sublist row.compress (delivery.item_of row m) e.arrived) k.arrived) (new, tt);
    outbox = k.outbox;
  }

  -- a request that is replaced
  old-kept : (e : End) (row : MessageRow) (m old : Message) (sync : Bool) (level : Level) → HasProtocols schema made e → message_of schema m.number ≡ Some row → replaced row.compress (delivery.item_of row m) e.arrived ≡ Some (item.Message old sync level) → KeptRequest schema made old.route old.number
  old-kept e row m old sync level k found rep =
      let r = replaced-is (ItemHasProtocols schema made) row.compress (delivery.item_of row m) e.arrived (item.Message old sync level) k.arrived rep in
      let alike : is_request old.body && old.number == m.number ≡ true = and-left (is_request old.body && old.number == m.number) (int_eq old.route m.route) (and-right (is_request m.body) (is_request_of m.number m.route (item.Message old sync level)) r.1) in
      let number : old.number ≡ m.number = eqb-true old.number m.number (and-right (is_request old.body) (old.number == m.number) alike) in
      by old.body (and-left (is_request old.body) (old.number == m.number) alike) (r.0 row (ap (message_of schema) number ∙ found))
    where
      by : (b : Body) → is_request b ≡ true → IsRightMessage schema made old row b → KeptRequest schema made old.route old.number
      by (Request vs) is h = request-kept old row vs h
      by (Reply vs) is h = cc
      by (Fault reason) is h = cc
      by Goodbye is h = cc

  -- Answers

  nothing-right : (fields : List ParamRow) → HaveTheirProtocols made (actors_in_parts schema fields Nothing)
  nothing-right [] = tt
  nothing-right (field ∷ fields) = tt

  -- values without a dead actor, as an answer
  alive-right : (e : End) (row : MessageRow) (number : ℕ) (vs : Values) → HasProtocols schema made e → request_row schema number ≡ Some row → has_dead schema e.actors (returns_of_row row) vs ≡ false → AnswerHasProtocols schema made number (answer.Ok vs)
  alive-right e row number vs k found alive r request =
      subst (λ (x : MessageRow). HaveTheirProtocols made (actors_in_parts schema (returns_of_row x) vs)) (same_Some row r (sym found ∙ request)) (none-dead made e.actors k.actors (actors_in_parts schema (returns_of_row row) vs) alive)

  return-right : (e : End) (row : MessageRow) (entry : StackEntry) (vs : Option Values) → HasProtocols schema made e → request_row schema entry.number ≡ Some row → AnswerHasProtocols schema made entry.number (return.return_answer schema e row entry vs)
  return-right e row entry vs k found = by (is_none row.returns)
    where
      given : (vs : Option Values) → AnswerHasProtocols schema made entry.number (return.given_answer schema e row entry vs)
      given None = tt
      given (Some us) = at (send.is_too_large schema (reply_to (return.dispatch_answered entry) (Reply us))) (has_dead schema e.actors (returns_of_row row) us) refl
        where
          at : (large dead : Bool) → has_dead schema e.actors (returns_of_row row) us ≡ dead → AnswerHasProtocols schema made entry.number (if large || dead then answer.Fault HandlerRejected else answer.Ok us)
          at true dead is = tt
          at false true is = tt
          at false false is = alive-right e row entry.number us k found is

      by : (b : Bool) → AnswerHasProtocols schema made entry.number (if b then answer.Ok Nothing else return.given_answer schema e row entry vs)
      by true = λ r request. nothing-right (returns_of_row r)
      by false = given vs

  used-answer : (e : End) (by : Answering) (row : MessageRow) (r : Resolver) (vs : Option Values) → HasProtocols schema made e → answering.answered_row schema e by ≡ Some row → answering.answer_refusal schema e row by vs ≡ None → answering.resolver_used e by ≡ Some r
      → PacketHasProtocols schema made (message (reply_to (resolver_answered r) (answering.answer_body vs)))
  used-answer e by row r vs k found accepted used = at vs ((passed-first (is_open e.state) refusal.Closed (answering.resolver_refusal schema e row vs (answering.resolver_used e by)) accepted).1)
    where
      at : (vs : Option Values) → answering.resolver_refusal schema e row vs (answering.resolver_used e by) ≡ None → PacketHasProtocols schema made (message (reply_to (resolver_answered r) (answering.answer_body vs)))
      at None h = reply-right (resolver_answered r) (answer.Fault HandlerRejected) (used-right e by r k used) tt
      at (Some us) h =
          let none : send.value_refusal (answering.is_reply_too_large schema r us) (has_dead schema e.actors (returns_of_row row) us) ≡ None = ap (answering.resolver_refusal schema e row (Some us)) (sym used) ∙ h in
          reply-right (resolver_answered r) (answer.Ok us) (used-right e by r k used)
          (alive-right e row r.number us k (answered-request schema e by row r found used) (accepted-values (answering.is_reply_too_large schema r us) (has_dead schema e.actors (returns_of_row row) us) none))

  -- the request that is sent
  sent-right : (e : End) (row : MessageRow) (route : ℤ) (vs : Values) (name : Option (List ℕ)) → HasProtocols schema made e → Parts.IsSent schema e row route vs name → MakesItsProtocol made row.kind (send.next_made e row.kind)
      → IsRightMessage schema made (send.request_of e row route vs) row (Request vs)
  sent-right e row route vs name k sent makes =
      let opens = passed-first (is_open e.state) refusal.Closed (if not (lives_as e.actors (protocol_of row.number) route) then Some refusal.DeadActor else (if is_some (send.stack_refusal e row) then send.stack_refusal e row else send.send_value_refusal schema e row route vs)) sent.accepted in
      let alive = passed-first (lives_as e.actors (protocol_of row.number) route) refusal.DeadActor (if is_some (send.stack_refusal e row) then send.stack_refusal e row else send.send_value_refusal schema e row route vs) opens.1 in
      let none = past-stack (send.stack_refusal e row) (send.send_value_refusal schema e row route vs) alive.1 in
      record {
        actors = (
          inr (lives-stands made e.actors k.actors (protocol_of row.number) route alive.0),
          none-dead made e.actors k.actors (actors_in_parts schema row.params vs) (accepted-values (send.is_too_large schema (send.request_of e row route vs)) (has_dead schema e.actors row.params vs) none),
        );
        request = record { found = sent.found; makes = makes };
      }

  sent-message : (e : End) (row : MessageRow) (route : ℤ) (vs : Values) (name : Option (List ℕ)) → HasProtocols schema made e → Parts.IsSent schema e row route vs name → MakesItsProtocol made row.kind (send.next_made e row.kind)
      → MessageHasProtocols schema made (send.request_of e row route vs)
  sent-message e row route vs name k sent makes r found =
      subst (λ (x : MessageRow). IsRightMessage schema made (send.request_of e row route vs) x (Request vs)) (same_Some row r (sym (request-message schema row.number row sent.found) ∙ found)) (sent-right e row route vs name k sent makes)

  -- Every part

  quiet-right : (f : End) (ps : List Packet) → HasProtocols schema made f → AllByRecursion (PacketHasProtocols schema made) ps → Right schema made f ps quiet
  quiet-right f ps k h = record { keeps = k; packets = h; fresh = tt }

  farewell-right : (packet : Packet) → PacketHasProtocols schema made packet → ItemHasProtocols schema made (Parts.farewell_item packet)
  farewell-right (message m) h = h
  farewell-right mark h = tt

  goodbye-right : MessageHasProtocols schema made goodbye
  goodbye-right row found = record { actors = tt; request = tt }

  pub first-right : {p : Phase} {e f : End} {ws : List What} {ps : List Packet} (part : FirstPart schema e ws ps f p) → SendsRight made part → HasProtocols schema made e → Right schema made f ps p
  first-right {e} (Parts.refuses w is) new k = quiet-right e [] k tt
  first-right (Parts.renames w is) new k = record { keeps = k; packets = tt; fresh = tt }
  first-right {e} (Parts.flushes o) new k = record { keeps = record { actors = k.actors; entries = k.entries; names = k.names; arrived = k.arrived; outbox = tt }; packets = outbox-right e k; fresh = tt }
  first-right {e} (Parts.sends row route vs name sent) new k = by row.lazy (is_sync_row row) (makes_promise row)
    where
      m : Message
      m = send.request_of e row route vs

      right : IsRightMessage schema made (send.request_of e row route vs) row (Request vs)
      right = sent-right e row route vs name k sent new

      waiting : EntryHasProtocols schema made (send.wait_for row (send.request_of e row route vs))
      waiting = record { request = record { row = row; found = sent.found; actor_is = right.actors.0 }; frame = tt }

      outgoing : MessageHasProtocols schema made (send.request_of e row route vs)
      outgoing = sent-message e row route vs name k sent new

      by : (lazy sync wants : Bool) → Right schema made (record e { sent = e.sent + 1; constructors_sent = counting row.kind e.constructors_sent; outbox = outbox_after lazy (send.request_of e row route vs) e.outbox; stack = cond sync (send.wait_for row (send.request_of e row route vs) ∷ e.stack) e.stack; promises = cond wants (e.promises ++ promise_for (send.request_of e row route vs) ∷ []) e.promises }) (request_packets lazy e (send.request_of e row route vs)) (sending row (send.request_of e row route vs))
      by true true wants = record { keeps = record { actors = k.actors; entries = (waiting, k.entries); names = k.names; arrived = k.arrived; outbox = all-append (MessageHasProtocols schema made) e.outbox (send.request_of e row route vs ∷ []) k.outbox (outgoing, tt) }; packets = tt; fresh = fresh-right (MakesItsProtocol made row.kind) (is_constructor row.kind) (send.next_made e row.kind) new }
      by true false wants = record { keeps = record { actors = k.actors; entries = k.entries; names = k.names; arrived = k.arrived; outbox = all-append (MessageHasProtocols schema made) e.outbox (send.request_of e row route vs ∷ []) k.outbox (outgoing, tt) }; packets = tt; fresh = fresh-right (MakesItsProtocol made row.kind) (is_constructor row.kind) (send.next_made e row.kind) new }
      by false true wants = record { keeps = record { actors = k.actors; entries = (waiting, k.entries); names = k.names; arrived = k.arrived; outbox = tt }; packets = following-right e (message (send.request_of e row route vs)) k outgoing; fresh = fresh-right (MakesItsProtocol made row.kind) (is_constructor row.kind) (send.next_made e row.kind) new }
      by false false wants = record { keeps = record { actors = k.actors; entries = k.entries; names = k.names; arrived = k.arrived; outbox = tt }; packets = following-right e (message (send.request_of e row route vs)) k outgoing; fresh = fresh-right (MakesItsProtocol made row.kind) (is_constructor row.kind) (send.next_made e row.kind) new }
  first-right {e} (Parts.answers by vs r row found may accepted used) new k =
      quiet-right (record (answering.without_resolver by e) { outbox = [] }) (after_outbox e (message (reply_to (resolver_answered r) (answering.answer_body vs)))) (without-right by e k) (following-right e (message (reply_to (resolver_answered r) (answering.answer_body vs))) k (used-answer e by row r vs k found accepted used))
  first-right {e} (Parts.closes o waits) new k = record {
    keeps = record { actors = k.actors; entries = k.entries; names = all-filter (NamingHasProtocols schema made) is_actor e.names k.names; arrived = tt; outbox = tt };
    packets = following-right e (message goodbye) k goodbye-right;
    fresh = tt;
  }
  first-right {e} (Parts.dies o) new k = record { keeps = record { actors = k.actors; entries = tt; names = k.names; arrived = tt; outbox = tt }; packets = following-right e mark k tt; fresh = tt }
  first-right {e} (Parts.dies_silent o alive) new k = record { keeps = record { actors = k.actors; entries = tt; names = k.names; arrived = tt; outbox = k.outbox }; packets = tt; fresh = tt }
  first-right {e} (Parts.takes m sync level row vs next body found stays) new k =
      let l : HasProtocols schema made (left_end e) = left-right e k in
      let r : IsRightMessage schema made m row (Request vs) = taken-request e m sync level row vs k next body found in
      record {
        keeps = record { actors = l.actors; entries = (record { request = request-kept m row vs r; frame = tt }, l.entries); names = l.names; arrived = l.arrived; outbox = l.outbox };
        packets = tt;
        fresh = fresh-right (MakesItsProtocol made row.kind) (is_constructor row.kind) m.made r.request.makes;
      }
  first-right {e} (Parts.drops m sync level row vs id replies next body found gone is) new k =
      quiet-right (end_after replies (left_end e)) (reply_packets replies e (request_answered m) (answer.Fault ActorDestroyed)) (sent-following replies (left_end e) (left-right e k))
      (replies-right replies e (request_answered m) (answer.Fault ActorDestroyed) k (request-kept m row vs (taken-request e m sync level row vs k next body found)) tt)
  first-right {e} (Parts.drops_unknown m sync level vs next body found) new k = quiet-right (left_end e) [] (left-right e k) tt
  first-right {e} (Parts.takes_reply m sync level a next body settles) new k = quiet-right (left_end e) [] (left-right e k) tt
  first-right {e} (Parts.settles m sync level row a next body found is) new k =
      let l : HasProtocols schema made (left_end e) = left-right e k in
      record { keeps = record { actors = l.actors; entries = l.entries; names = l.names; arrived = l.arrived; outbox = l.outbox }; packets = tt; fresh = tt }
  first-right {e} (Parts.shuts last next is) new k = record { keeps = record { actors = k.actors; entries = k.entries; names = all-filter (NamingHasProtocols schema made) is_actor e.names k.names; arrived = tt; outbox = k.outbox }; packets = tt; fresh = tt }
  first-right {e} (Parts.returns entry row vs told lost is t l) new k =
      let top : EntryHasProtocols schema made entry = top-right e.stack entry is.on_top k.entries in
      let popped : HasProtocols schema made (record e { stack = drop 1 e.stack }) = record { actors = k.actors; entries = all-drop (EntryHasProtocols schema made) e.stack k.entries; names = k.names; arrived = k.arrived; outbox = k.outbox } in
      record {
        keeps = sent-following lost (end_after told (record e { stack = drop 1 e.stack })) (sent-following told (record e { stack = drop 1 e.stack }) popped);
        packets = all-append (PacketHasProtocols schema made) (reply_packets told e (return.dispatch_answered entry) (return.return_answer schema e row entry vs)) (reply_packets lost (end_after told e) (resolver_answered (answering.resolver_in entry)) (answer.Fault ResolverDestroyed))
            (replies-right told e (return.dispatch_answered entry) (return.return_answer schema e row entry vs) k top.request (return-right e row entry vs k is.found))
            (replies-right lost (end_after told e) (resolver_answered (answering.resolver_in entry)) (answer.Fault ResolverDestroyed) (sent-following told e k) top.request tt);
        fresh = tt;
      }
  first-right {e} (Parts.resumes wait row on_top found) new k = quiet-right (record e { stack = drop 1 e.stack }) [] (record { actors = k.actors; entries = all-drop (EntryHasProtocols schema made) e.stack k.entries; names = k.names; arrived = k.arrived; outbox = k.outbox }) tt

  later-right : {p q : Phase} {e f : End} {ws : List What} {ps : List Packet} → LaterPart p e ws ps f q → AllByRecursion (MakesItsProtocol made p.kind) p.fresh → HasProtocols schema made e → Right schema made f ps q
  later-right {e} (Parts.unnames name may silent) n k = record { keeps = record { actors = k.actors; entries = k.entries; names = all-filter (NamingHasProtocols schema made) (λ naming. not (has_name name naming)) e.names k.names; arrived = k.arrived; outbox = k.outbox }; packets = tt; fresh = n }
  later-right {e} (Parts.lets_go name r may is o) n k = record {
    keeps = record { actors = k.actors; entries = k.entries; names = all-filter (NamingHasProtocols schema made) (λ naming. not (has_name name naming)) e.names k.names; arrived = k.arrived; outbox = tt };
    packets = following-right e (reply_packet (resolver_answered r) (answer.Fault ResolverDestroyed)) k (reply-right (resolver_answered r) (answer.Fault ResolverDestroyed) (held-right name e.names (resolver r) k.names is) tt);
    fresh = n;
  }
  later-right {e} (Parts.names more a) n k = record { keeps = record { actors = k.actors; entries = k.entries; names = all-append (NamingHasProtocols schema made) e.names more k.names (actor-names more a); arrived = k.arrived; outbox = k.outbox }; packets = tt; fresh = n }
  later-right {e} (Parts.releases seq closed) n k = record { keeps = record { actors = k.actors; entries = released-right seq e.stack k.entries; names = k.names; arrived = k.arrived; outbox = k.outbox }; packets = tt; fresh = n }
  later-right {e} (Parts.keeps seq name r is goes) n k = record {
    keeps = record { actors = k.actors; entries = released-right seq e.stack k.entries; names = all-append (NamingHasProtocols schema made) e.names (record { name = name; holds = resolver r } ∷ []) k.names (handled-right e seq r k is, tt); arrived = k.arrived; outbox = k.outbox };
    packets = tt;
    fresh = n;
  }
  later-right {p} {e} (Parts.builds id protocol rest fresh built) n k =
      let all : AllByRecursion (MakesItsProtocol made p.kind) (id ∷ rest) = subst (AllByRecursion (MakesItsProtocol made p.kind)) fresh n in
      record {
        keeps = record {
          actors = all-append (ActorHasProtocol made) e.actors (record { id = id; protocol = protocol; manager = manager_of p.start } ∷ []) k.actors (subst (λ (kind : Kind). MakesItsProtocol made kind id) built.made all.0, tt);
          entries = k.entries;
          names = k.names;
          arrived = k.arrived;
          outbox = k.outbox;
        };
        packets = tt;
        fresh = all.1;
      }
  later-right {e} (Parts.deletes id cause) n k = record { keeps = record { actors = all-filter (ActorHasProtocol made) (λ a. not (lives a.id (Parts.falling id e))) e.actors k.actors; entries = k.entries; names = k.names; arrived = k.arrived; outbox = k.outbox }; packets = tt; fresh = n }
  later-right {e} (Parts.falls why cause) n k = record { keeps = record { actors = all-filter (ActorHasProtocol made) (λ a. not (lives a.id (Parts.falling top_id e))) e.actors k.actors; entries = k.entries; names = k.names; arrived = k.arrived; outbox = k.outbox }; packets = tt; fresh = n }

  laters-right : {p q : Phase} {e f : End} {ws : List What} {ps : List Packet} → LaterParts p e ws ps f q → AllByRecursion (MakesItsProtocol made p.kind) p.fresh → HasProtocols schema made e → Right schema made f ps q
  laters-right Parts.done n k = record { keeps = k; packets = tt; fresh = n }
  laters-right (Parts.then {ps} {qs} part rest) n k =
      let a = later-right part n k in
      let b = laters-right rest a.fresh a.keeps in
      record { keeps = b.keeps; packets = all-append (PacketHasProtocols schema made) ps qs a.packets b.packets; fresh = b.fresh }

  -- an end's own step
  pub own-right : {q : Phase} {e f : End} {ws : List What} {ps : List Packet} (parts : OwnParts schema e ws ps f q) → OwnSendsRight made parts → HasProtocols schema made e → Right schema made f ps q
  own-right (Parts.begun {ps} {qs} part rest ended) new k =
      let a = first-right part new k in
      let b = laters-right rest a.fresh a.keeps in
      record { keeps = b.keeps; packets = all-append (PacketHasProtocols schema made) ps qs a.packets b.packets; fresh = b.fresh }

  is-reply : (m : Message) (a : Answer) → m.body ≡ body_of a → IsReply m.body
  is-reply m (answer.Ok vs) e = subst IsReply (sym e) tt
  is-reply m (answer.Fault reason) e = subst IsReply (sym e) tt

  -- a delivery
  pub delivery-right : {packet : Packet} {q : Phase} {e f : End} {ws : List What} {ps : List Packet} → DeliveryPart schema packet e ws ps f q → IsAwaited schema packet e → PacketHasProtocols schema made packet → HasProtocols schema made e → Right schema made f ps q
  delivery-right {e} (Parts.gets_request m row vs body found none) aw h k = quiet-right (delivery.counted row (delivery.item_of row m) e) [] (counted-right e row m h k) tt
  delivery-right {e} (Parts.replaces m row vs old sync level replies body found rep is) aw h k =
      quiet-right (end_after replies (delivery.counted row (delivery.item_of row m) e)) (reply_packets replies e (request_answered old) (answer.Fault ResolverDestroyed)) (sent-following replies (delivery.counted row (delivery.item_of row m) e) (counted-right e row m h k))
      (replies-right replies e (request_answered old) (answer.Fault ResolverDestroyed) k (old-kept e row m old sync level k found rep) tt)
  delivery-right {e} (Parts.gets_answer m row a body found sync) aw h k =
      let right : IsRightMessage schema made m row (body_of a) = subst (IsRightMessage schema made m row) body (h row found) in
      let awaited : awaited_reply e.stack ≡ Some (reply_head m) = aw m refl (is-reply m a body) (ap (λ (o : Option MessageRow). option_map_or is_sync_row o false) found ∙ sync) in
      quiet-right (delivery.answers_wait a e) [] (record { actors = k.actors; entries = answered-right m a e.stack (reply-fits m row a found right) awaited k.entries; names = k.names; arrived = k.arrived; outbox = k.outbox }) tt
  delivery-right {e} (Parts.gets_reply m row a body found sync) aw h k =
      quiet-right (delivery.arrives (delivery.item_of row m) e) [] (record { actors = k.actors; entries = k.entries; names = k.names; arrived = all-append (ItemHasProtocols schema made) e.arrived (delivery.item_of row m ∷ []) k.arrived (h, tt); outbox = k.outbox }) tt
  delivery-right {e} (Parts.drains packet is) aw h k = record {
    keeps = record { actors = k.actors; entries = failed-right e.stack k.entries; names = k.names; arrived = all-append (ItemHasProtocols schema made) e.arrived (Parts.farewell_item packet ∷ []) k.arrived (farewell-right packet h, tt); outbox = tt };
    packets = tt;
    fresh = tt;
  }
  delivery-right {e} (Parts.passes_by m other found) aw h k = quiet-right e [] k tt
