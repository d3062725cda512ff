-- The parts that steps of an end are made of, each with its lines, its packets and the end after it. A part is a
-- piece of a step whose lines, packets and changes belong together.
use Rattle.std.specs.Prelude.{◌≡◌, ℕ, ◌+◌, ℤ, Bool, true, false, ◌&&◌, ◌||◌, cond, List, [], ◌∷◌, ◌++◌, drop, flat_map, length, map, Option, Some, None, is_some}
use Rattle.std.specs.List.{AllByRecursion}
use Rattle.actor_tree.specs.declared.actor.Actor.{Actor}
use Rattle.actor_tree.specs.Fall.{post_order, others}
use Rattle.actor_tree.specs.Tree.{lives}
use Rattle.ipdl_base.specs.declared.kinds.Destroy.{Destroy}
use Rattle.ipdl_base.specs.declared.kinds.Destroy.TheVariants.{NormalShutdown, AbnormalShutdown}
use Rattle.ipdl_base.specs.declared.kinds.EndState.TheVariants.{Draining, Closed, Dead}
use Rattle.ipdl_base.specs.declared.kinds.Level.{Level}
use Rattle.ipdl_base.specs.declared.kinds.Level.TheVariants.{Not}
use Rattle.ipdl_base.specs.declared.kinds.Reason.TheVariants.{ActorDestroyed, ChannelClosed, ResolverDestroyed}
use Rattle.ipdl_base.specs.declared.line.What.{What}
use Rattle.ipdl_base.specs.declared.line.What.TheVariants as what
use Rattle.ipdl_base.specs.declared.message.Body.{Body}
use Rattle.ipdl_base.specs.declared.message.Body.TheVariants.{Request, Reply, Fault, Goodbye}
use Rattle.ipdl_base.specs.declared.message.Message.{Message}
use Rattle.ipdl_base.specs.declared.schema.Kind.TheVariants.{Constructor}
use Rattle.ipdl_base.specs.declared.schema.MessageRow.{MessageRow}
use Rattle.ipdl_base.specs.declared.schema.Schema.{Schema}
use Rattle.ipdl_base.specs.declared.value.Values.{Values}
use Rattle.ipdl_base.specs.Sound.{message_of}
use Rattle.nesting_core.specs.declared.frame.Answer.{Answer}
use Rattle.nesting_core.specs.declared.frame.Answer.TheVariants as answer
use Rattle.nesting_core.specs.Frames.{head_of, has_wait}
use Rattle.pending_queue.specs.declared.item.Item.{Item}
use Rattle.pending_queue.specs.declared.item.Item.TheVariants as item
use Rattle.pending_queue.specs.Compression.{replaced}
use Rattle.pending_queue.specs.DeferralContext.{is_free, without_first}
use Rattle.promise_table.specs.declared.promise.Outcome.{Outcome}
use Rattle.promise_table.specs.Promises as promises
use Rattle.channel_model.specs.Acts.{goodbye}
use Rattle.channel_model.specs.Answers as answering
use Rattle.channel_model.specs.Deliveries as delivery
use Rattle.channel_model.specs.Ends.{End, Packet, message, mark, StackEntry, PromiseEntry, Naming, NameContent, actor, resolver, Resolver}
use Rattle.channel_model.specs.Events.{Answering}
use Rattle.channel_model.specs.Falls as fall
use Rattle.channel_model.specs.Names.{held_by_name, without_name, without_resolvers}
use Rattle.ipdl_base.specs.Sides.{top_id}
use Rattle.channel_model.specs.Numbers.{counting, is_sync_row, makes_promise, request_row}
use Rattle.channel_model.specs.Outputs.{is_open, is_closed, is_dead_end, AnsweredRequest, request_answered, resolver_answered, reply_to, body_of, answer_line}
use Rattle.channel_model.specs.Phases.{Phase, nobody, deletion, closing, manager_of, quiet, renaming, ending, shutting, sending, taking, returning, IsOver}
use Rattle.channel_model.specs.Returns as return
use Rattle.channel_model.specs.Sends as send
use Rattle.channel_model.specs.States.{is_farewell}
use Rattle.channel_model.specs.Takes as take
use Rattle.channel_model.specs.ValueActors.{nulled, received}

-- Packets and lines

-- a packet with all that waits in the outbox before it
abbrev pub after_outbox : End → Packet → List Packet
after_outbox e packet = map message e.outbox ++ packet ∷ []

-- the packet that answers a request
abbrev pub reply_packet : AnsweredRequest → Answer → Packet
reply_packet q a = message (reply_to q (body_of a))

-- the lines of an answer, if there is one
abbrev pub reply_lines : Bool → AnsweredRequest → Answer → List What
reply_lines true q a = answer_line q.seq a ∷ []
reply_lines false q a = []

-- the packets of an answer, if there is one
abbrev pub reply_packets : Bool → End → AnsweredRequest → Answer → List Packet
reply_packets true e q a = after_outbox e (reply_packet q a)
reply_packets false e q a = []

-- the end after a packet, if there is one: its outbox is empty
abbrev pub end_after : Bool → End → End
end_after true e = record e { outbox = [] }
end_after false e = e

-- the line of a refused send, close or answer
abbrev pub IsRefusal : Schema → What → Type 0
IsRefusal schema (what.RefusedSend cause number) = (row : MessageRow) × (request_row schema number ≡ Some row)
IsRefusal schema (what.RefusedClose cause) = Unit {0}
IsRefusal schema (what.RefusedResolve cause) = Unit {0}
IsRefusal schema (what.RefusedReject cause) = Unit {0}
IsRefusal schema _ = ⊥

-- a line after which a name gets a new content
abbrev pub IsRenaming : What → Type 0
IsRenaming (what.Keep seq name) = Unit {0}
IsRenaming (what.Let name id) = Unit {0}
IsRenaming _ = ⊥

-- Sends

-- the outbox after a request, lazy or not
abbrev pub outbox_after : Bool → Message → List Message → List Message
outbox_after true m ms = ms ++ m ∷ []
outbox_after false m ms = []

-- what a request puts on the link, lazy or not
abbrev pub request_packets : Bool → End → Message → List Packet
request_packets true e m = []
request_packets false e m = after_outbox e (message m)

-- the promise that a request makes
abbrev pub promise_for : Message → PromiseEntry
promise_for m = record { promise = promises.made m.seq m.route; number = m.number }

-- the end after a request, except for names and actors
abbrev pub sent_end : MessageRow → Message → End → End
sent_end row m e = record e {
  sent = e.sent + 1;
  constructors_sent = counting row.kind e.constructors_sent;
  outbox = outbox_after row.lazy m e.outbox;
  stack = cond (is_sync_row row) (send.wait_for row m ∷ e.stack) e.stack;
  promises = cond (makes_promise row) (e.promises ++ promise_for m ∷ []) e.promises;
}

-- The conditions on a request that is sent, with or without a name for its actor.
pub record IsSent (schema : Schema) (e : End) (row : MessageRow) (route : ℤ) (vs : Values) (name : Option (List ℕ)) : Type 0 where
  pub found : request_row schema row.number ≡ Some row
  pub may : send.may_send schema e row vs name ≡ true
  pub accepted : send.send_refusal schema e row route vs ≡ None

-- Names

-- the content of a name may be dropped without an answer: there is no resolver, or the end is not open
abbrev pub IsSilent : End → Option NameContent → Type 0
IsSilent e None = Unit {0}
IsSilent e (Some (actor id)) = Unit {0}
IsSilent e (Some (resolver r)) = is_open e.state ≡ false

-- a naming that is for an actor
abbrev pub HoldsActor : Naming → Type 0
HoldsActor naming = elim naming.holds [ actor id ↦ Unit {0} | resolver r ↦ ⊥ ]

-- Falls and closing

-- the actors that fall with an id
abbrev pub falling : ℤ → End → List Actor
falling id e = post_order id e.actors

-- the lines of a subtree that falls
abbrev pub fall_lines : ℤ → (ℤ → Destroy) → End → List What
fall_lines id why e = flat_map (fall.fall_lines why e.promises) (falling id e)

-- the end after a subtree has fallen
abbrev pub fallen_end : ℤ → End → End
fallen_end id e = record e { actors = others (falling id e) e.actors; promises = fall.rejected (λ p. lives p.actor (falling id e)) ActorDestroyed e.promises }

-- the lines that reject all pending promises
abbrev pub abandoned_lines : End → List What
abandoned_lines e = fall.rejections (λ p. true) ChannelClosed e.promises

-- the end after all pending promises are rejected
abbrev pub abandoned_end : End → End
abandoned_end e = record e { promises = fall.rejected (λ p. true) ChannelClosed e.promises }

-- the end after it closes, except for promises and actors
abbrev pub shut_end : End → End
shut_end e = record e { state = Closed; arrived = []; names = without_resolvers e.names }

-- the line of a farewell that is taken
abbrev pub shut_line : Item → What
shut_line (item.Message m sync level) = what.ShutNormal
shut_line item.Broken = what.ShutAbnormal

-- the reason for which the end then closes
abbrev pub shut_reason : Item → Destroy
shut_reason (item.Message m sync level) = NormalShutdown
shut_reason item.Broken = AbnormalShutdown

-- Takes and returns

-- the end after the item that it takes next has left
abbrev pub left_end : End → End
left_end e = record e { arrived = without_first (is_free (take.deferral_context_of e)) e.arrived }

-- whether a request needs a reply when it has been handled
abbrev pub owes_reply : MessageRow → Bool
owes_reply row = is_sync_row row || makes_promise row

-- whether a promise waits for a reply of a message of the schema
abbrev pub is_settling : Schema → End → Message → Bool
is_settling schema e m = is_some (message_of schema m.number) && take.is_awaited m.seq e.promises

-- the outcome that a reply gives to its promise
abbrev pub reply_outcome : Schema → End → MessageRow → Answer → Outcome
reply_outcome schema e row a = take.outcome_of (received schema e.actors row a)

-- The conditions on a handler that returns: it is the handler of the dispatch on top, and may return these values.
pub record IsReturn (schema : Schema) (e : End) (entry : StackEntry) (row : MessageRow) (vs : Option Values) : Type 0 where
  pub on_top : return.dispatch_on_top e.stack ≡ Some entry
  pub found : request_row schema entry.number ≡ Some row
  pub may : return.may_return schema row vs ≡ true

-- Deliveries

-- no message is replaced
abbrev pub IsNoMessage : Option Item → Type 0
IsNoMessage None = Unit {0}
IsNoMessage (Some item.Broken) = Unit {0}
IsNoMessage (Some (item.Message m sync level)) = ⊥

-- a goodbye or a mark as it arrives
abbrev pub farewell_item : Packet → Item
farewell_item (message m) = item.Message m false Not
farewell_item mark = item.Broken

-- the line of the delivery of a farewell
abbrev pub farewell_line : Packet → What
farewell_line (message m) = what.DeliverGoodbye
farewell_line mark = what.DeliverBroken

-- the end after a farewell
abbrev pub drained_end : Item → End → End
drained_end last e = record (delivery.arrives last e) { state = Draining; outbox = []; stack = map delivery.with_failed_wait e.stack }

-- the line of the delivery of a message that is not in the schema
abbrev pub unknown_line : ℤ → Body → What
unknown_line seq (Request vs) = what.DeliverRequest seq
unknown_line seq (Reply vs) = what.DeliverReply seq
unknown_line seq (Fault reason) = what.DeliverReply seq
unknown_line seq Goodbye = what.DeliverGoodbye

-- The parts that a step of an end's own begins with.
pub data FirstPart (schema : Schema) : End → List What → List Packet → End → Phase → Type 0 where
  -- a send, a close or an answer is refused
  refuses : {e : End} (w : What) → IsRefusal schema w → FirstPart schema e (w ∷ []) [] e quiet
  -- a name gets a new content
  renames : {e : End} (w : What) → IsRenaming w → FirstPart schema e (w ∷ []) [] e renaming
  -- the outbox goes onto the link
  flushes : {e : End} → is_open e.state ≡ true → FirstPart schema e (what.Flush (length e.outbox) ∷ []) (map message e.outbox) (record e { outbox = [] }) quiet
  -- a request is sent, with its counts, its wait and its promise
  sends : {e : End} (row : MessageRow) (route : ℤ) (vs : Values) (name : Option (List ℕ)) → IsSent schema e row route vs name
      → FirstPart schema e (send.send_line row (send.request_of e row route vs) vs ∷ []) (request_packets row.lazy e (send.request_of e row route vs)) (sent_end row (send.request_of e row route vs) e) (sending row (send.request_of e row route vs))
  -- a resolver is used
  answers : {e : End} (by : Answering) (vs : Option Values) (r : Resolver) (row : MessageRow) → answering.answered_row schema e by ≡ Some row → answering.may_answer schema e row vs ≡ true → answering.answer_refusal schema e row by vs ≡ None → answering.resolver_used e by ≡ Some r
      → FirstPart schema e (answering.answering_line r.seq vs ∷ []) (after_outbox e (message (reply_to (resolver_answered r) (answering.answer_body vs)))) (record (answering.without_resolver by e) { outbox = [] }) quiet
  -- an open end closes: its goodbye goes onto the link
  closes : {e : End} → is_open e.state ≡ true → has_wait (send.frames_of e) ≡ false → FirstPart schema e (what.Close ∷ []) (after_outbox e (message goodbye)) (shut_end (record e { outbox = [] })) (shutting NormalShutdown)
  -- an open end dies: its mark goes onto the link
  dies : {e : End} → is_open e.state ≡ true → FirstPart schema e (what.Die ∷ []) (after_outbox e mark) (record e { state = Dead; stack = []; arrived = []; outbox = [] }) quiet
  -- an end that was not open dies
  dies_silent : {e : End} → is_open e.state ≡ false → is_dead_end e.state ≡ false → FirstPart schema e (what.Die ∷ []) [] (record e { state = Dead; stack = []; arrived = [] }) quiet
  -- a request is handled
  takes : {e : End} (m : Message) (sync : Bool) (level : Level) (row : MessageRow) (vs : Values) → take.taken_next e ≡ Some (item.Message m sync level) → m.body ≡ Request vs → message_of schema m.number ≡ Some row → take.dropped_for schema e row m vs ≡ None
      → FirstPart schema e (what.Take m.seq m.route m.number (nulled schema e.actors row.params vs) ∷ []) [] (record (left_end e) { stack = take.dispatch_of row m ∷ e.stack }) (taking row m)
  -- a request is dropped, and answered if it needs a reply
  drops : {e : End} (m : Message) (sync : Bool) (level : Level) (row : MessageRow) (vs : Values) (id : ℤ) (replies : Bool) → take.taken_next e ≡ Some (item.Message m sync level) → m.body ≡ Request vs → message_of schema m.number ≡ Some row → take.dropped_for schema e row m vs ≡ Some id
      → replies ≡ (is_open e.state && owes_reply row)
      → FirstPart schema e (what.Drop m.seq m.route m.number id ∷ reply_lines replies (request_answered m) (answer.Fault ActorDestroyed)) (reply_packets replies e (request_answered m) (answer.Fault ActorDestroyed)) (end_after replies (left_end e)) quiet
  -- a request of a message that is not in the schema is dropped
  drops_unknown : {e : End} (m : Message) (sync : Bool) (level : Level) (vs : Values) → take.taken_next e ≡ Some (item.Message m sync level) → m.body ≡ Request vs → message_of schema m.number ≡ None
      → FirstPart schema e (what.Drop m.seq m.route m.number m.route ∷ []) [] (left_end e) quiet
  -- a reply that comes too late, or is not of a message of the schema, is taken
  takes_reply : {e : End} (m : Message) (sync : Bool) (level : Level) (a : Answer) → take.taken_next e ≡ Some (item.Message m sync level) → m.body ≡ body_of a → is_settling schema e m ≡ false
      → FirstPart schema e (what.TakeReply m.seq ∷ []) [] (left_end e) quiet
  -- a reply is taken and settles its promise
  settles : {e : End} (m : Message) (sync : Bool) (level : Level) (row : MessageRow) (a : Answer) → take.taken_next e ≡ Some (item.Message m sync level) → m.body ≡ body_of a → message_of schema m.number ≡ Some row → take.is_awaited m.seq e.promises ≡ true
      → FirstPart schema e (what.TakeReply m.seq ∷ take.settle_line m.seq (reply_outcome schema e row a) ∷ []) [] (record (left_end e) { promises = map (take.settled_entry m.seq (reply_outcome schema e row a)) e.promises }) quiet
  -- a farewell is taken, and the end closes
  shuts : {e : End} (last : Item) → take.taken_next e ≡ Some last → is_farewell last ≡ true → FirstPart schema e (shut_line last ∷ []) [] (shut_end e) (shutting (shut_reason last))
  -- a handler returns: a sync request is answered, and a resolver that is still there is destroyed
  returns : {e : End} (entry : StackEntry) (row : MessageRow) (vs : Option Values) (told lost : Bool) → IsReturn schema e entry row vs
      → told ≡ (is_open e.state && is_sync_row row) → lost ≡ (is_open e.state && entry.resolves)
      → FirstPart schema e (what.Return (head_of entry.frame).seq ∷ reply_lines told (return.dispatch_answered entry) (return.return_answer schema e row entry vs) ++ reply_lines lost (resolver_answered (answering.resolver_in entry)) (answer.Fault ResolverDestroyed))
      (reply_packets told e (return.dispatch_answered entry) (return.return_answer schema e row entry vs) ++ reply_packets lost (end_after told e) (resolver_answered (answering.resolver_in entry)) (answer.Fault ResolverDestroyed))
      (end_after lost (end_after told (record e { stack = drop 1 e.stack }))) (returning row entry.route)
  -- a call continues with its answer
  resumes : {e : End} (wait : return.AnsweredWait) (row : MessageRow) → return.answered_wait_on_top e.stack ≡ Some wait → request_row schema wait.number ≡ Some row
      → FirstPart schema e (return.resume_line wait.seq (received schema e.actors row wait.given) ∷ []) [] (record e { stack = drop 1 e.stack }) quiet

-- The conditions on an actor that is built: its manager lives, and it is of the protocol that the request makes.
pub record IsBuilt (p : Phase) (e : End) (protocol : ℕ) : Type 0 where
  pub alive : lives (manager_of p.start) e.actors ≡ true
  pub made : p.kind ≡ Constructor protocol

-- The parts that follow in the same step.
pub data LaterPart : Phase → End → List What → List Packet → End → Phase → Type 0 where
  -- a name loses its content, and no packet is sent
  unnames : {p : Phase} {e : End} (name : List ℕ) → p.renames ≡ true → IsSilent e (held_by_name name e.names) → LaterPart p e [] [] (record e { names = without_name name e.names }) (record p { renames = false })
  -- a name loses its resolver, which is answered
  lets_go : {p : Phase} {e : End} (name : List ℕ) (r : Resolver) → p.renames ≡ true → held_by_name name e.names ≡ Some (resolver r) → is_open e.state ≡ true
      → LaterPart p e (what.AnswerFault r.seq ResolverDestroyed ∷ []) (after_outbox e (reply_packet (resolver_answered r) (answer.Fault ResolverDestroyed))) (record e { outbox = []; names = without_name name e.names }) (record p { renames = false })
  -- names get actors
  names : {p : Phase} {e : End} (more : List Naming) → AllByRecursion HoldsActor more → LaterPart p e [] [] (record e { names = e.names ++ more }) p
  -- the resolver of a handler is kept at a closed end, which keeps nothing
  releases : {p : Phase} {e : End} (seq : ℤ) → is_closed e.state ≡ true → LaterPart p e [] [] (record e { stack = answering.released seq e.stack }) p
  -- the resolver of a handler gets a name
  keeps : {p : Phase} {e : End} (seq : ℤ) (name : List ℕ) (r : Resolver) → answering.handled_resolver e seq ≡ Some r → is_closed e.state ≡ false
      → LaterPart p e [] [] (record e { stack = answering.released seq e.stack; names = e.names ++ record { name = name; holds = resolver r } ∷ [] }) p
  -- an actor is built under the one that the request went to
  builds : {p : Phase} {e : End} (id : ℤ) (protocol : ℕ) (rest : List ℤ) → p.fresh ≡ id ∷ rest → IsBuilt p e protocol
      → LaterPart p e (what.Built id protocol ∷ []) [] (record e { actors = e.actors ++ record { id = id; protocol = protocol; manager = manager_of p.start } ∷ [] }) (record p { fresh = rest })
  -- the actor of a destructor falls with all below it
  deletes : {p : Phase} {e : End} (id : ℤ) → p.due ≡ deletion id → LaterPart p e (fall_lines id (fall.why_deleted id) e) [] (fallen_end id e) (record p { due = nobody })
  -- an end that closes rejects its promises, and all its actors fall
  falls : {p : Phase} {e : End} (why : Destroy) → p.due ≡ closing why
      → LaterPart p e (abandoned_lines e ++ fall_lines top_id (λ id. why) (abandoned_end e)) [] (fallen_end top_id (abandoned_end e)) (record p { due = nobody })

-- later parts, one after another
pub data LaterParts : Phase → End → List What → List Packet → End → Phase → Type 0 where
  done : {p : Phase} {e : End} → LaterParts p e [] [] e p
  then : {p q r : Phase} {e f g : End} {ws vs : List What} {ps qs : List Packet} → LaterPart p e ws ps f q → LaterParts q f vs qs g r → LaterParts p e (ws ++ vs) (ps ++ qs) g r

-- The parts of an end's own step: the first part, and those that follow until nothing is left to do.
pub data OwnParts (schema : Schema) : End → List What → List Packet → End → Phase → Type 0 where
  begun : {p q : Phase} {e f g : End} {ws vs : List What} {ps qs : List Packet} → FirstPart schema e ws ps f p → LaterParts p f vs qs g q → IsOver q → OwnParts schema e (ws ++ vs) (ps ++ qs) g q

-- The single part of the delivery of a packet.
pub data DeliveryPart (schema : Schema) : Packet → End → List What → List Packet → End → Phase → Type 0 where
  -- a request arrives and replaces no other
  gets_request : {e : End} (m : Message) (row : MessageRow) (vs : Values) → m.body ≡ Request vs → message_of schema m.number ≡ Some row → IsNoMessage (replaced row.compress (delivery.item_of row m) e.arrived)
      → DeliveryPart schema (message m) e (what.DeliverRequest m.seq ∷ []) [] (delivery.counted row (delivery.item_of row m) e) quiet
  -- a request arrives and replaces another, which is answered if it has a promise
  replaces : {e : End} (m : Message) (row : MessageRow) (vs : Values) (old : Message) (sync : Bool) (level : Level) (replies : Bool) → m.body ≡ Request vs → message_of schema m.number ≡ Some row → replaced row.compress (delivery.item_of row m) e.arrived ≡ Some (item.Message old sync level) → replies ≡ makes_promise row
      → DeliveryPart schema (message m) e (what.DeliverRequest m.seq ∷ what.Replaced old.seq ∷ reply_lines replies (request_answered old) (answer.Fault ResolverDestroyed)) (reply_packets replies e (request_answered old) (answer.Fault ResolverDestroyed)) (end_after replies (delivery.counted row (delivery.item_of row m) e)) quiet
  -- the reply to a sync request goes into the innermost wait without an answer
  gets_answer : {e : End} (m : Message) (row : MessageRow) (a : Answer) → m.body ≡ body_of a → message_of schema m.number ≡ Some row → is_sync_row row ≡ true
      → DeliveryPart schema (message m) e (what.DeliverReply m.seq ∷ []) [] (delivery.answers_wait a e) quiet
  -- another reply arrives
  gets_reply : {e : End} (m : Message) (row : MessageRow) (a : Answer) → m.body ≡ body_of a → message_of schema m.number ≡ Some row → is_sync_row row ≡ false
      → DeliveryPart schema (message m) e (what.DeliverReply m.seq ∷ []) [] (delivery.arrives (delivery.item_of row m) e) quiet
  -- the other end has ended: all waits fail, and the outbox is dropped
  drains : {e : End} (packet : Packet) → is_farewell (farewell_item packet) ≡ true
      → DeliveryPart schema packet e (farewell_line packet ∷ map what.Fails (delivery.unanswered e)) [] (drained_end (farewell_item packet) e) ending
  -- a message that has no row in the schema changes nothing
  passes_by : {e : End} (m : Message) → is_farewell (farewell_item (message m)) ≡ false → message_of schema m.number ≡ None → DeliveryPart schema (message m) e (unknown_line m.seq m.body ∷ []) [] e quiet
