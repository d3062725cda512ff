-- The effects that an event must have: actors that it builds or that fall, answers that it gives, and promises that
-- it settles.
use Rattle.std.specs.Prelude.{◌≡◌, ℕ, ℤ, pos, Bool, true, false, ◌&&◌, if◌then◌else◌, ◌⊎◌, List, [], ◌∷◌, ◌++◌, find, map, Option, Some, None, option_and_then}
use Rattle.std.specs.List.{AllByRecursion}
use Rattle.actor_tree.specs.declared.actor.Actor.{Actor}
use Rattle.actor_tree.specs.Fall.{post_order}
use Rattle.actor_tree.specs.Tree.{lives, top}
use Rattle.ipdl_base.specs.declared.kinds.Level.{Level}
use Rattle.ipdl_base.specs.declared.kinds.Reason.TheVariants.{ActorDestroyed, ResolverDestroyed}
use Rattle.ipdl_base.specs.declared.kinds.SendRefusal.{SendRefusal}
use Rattle.ipdl_base.specs.declared.kinds.Side.{Side}
use Rattle.ipdl_base.specs.declared.line.What.{What}
use Rattle.ipdl_base.specs.declared.line.What.TheVariants as what
use Rattle.ipdl_base.specs.declared.message.Body.TheVariants.{Request}
use Rattle.ipdl_base.specs.declared.message.Message.{Message}
use Rattle.ipdl_base.specs.declared.schema.Kind.{Kind}
use Rattle.ipdl_base.specs.declared.schema.Kind.TheVariants.{Normal, Constructor, Delete}
use Rattle.ipdl_base.specs.declared.schema.MessageRow.{MessageRow}
use Rattle.ipdl_base.specs.declared.schema.Schema.{Schema}
use Rattle.ipdl_base.specs.declared.value.Values.{Values}
use Rattle.ipdl_base.specs.Sound.{message_of, IsSound}
use Rattle.nesting_core.specs.declared.frame.Answer.{Answer}
use Rattle.nesting_core.specs.declared.frame.Answer.TheVariants as answer
use Rattle.nesting_core.specs.Frames.{head_of}
use Rattle.pending_queue.specs.declared.item.Item.TheVariants as item
use Rattle.pending_queue.specs.Compression.{replaced}
use Rattle.promise_table.specs.declared.promise.Outcome.{Outcome}
use Rattle.promise_table.specs.Promises.{has_number}
use Rattle.channel_model.specs.Acts.{close_refusal, is_positive}
use Rattle.channel_model.specs.Answers.{answer_refusal, answered_row, refused_line, resolver_in}
use Rattle.channel_model.specs.Deliveries.{item_of}
use Rattle.channel_model.specs.Ends.{End, end_of, Packet, message, StackEntry, PromiseEntry, NameContent, actor, resolver}
use Rattle.channel_model.specs.Events.{Answering, Move}
use Rattle.channel_model.specs.Events as event
use Rattle.channel_model.specs.Falls.{why_deleted}
use Rattle.channel_model.specs.Names.{held_by_name}
use Rattle.channel_model.specs.Numbers.{request_row, is_sync_row, makes_promise}
use Rattle.channel_model.specs.Outputs.{Output, is_open, line_at, request_answered, resolver_answered, body_of}
use Rattle.channel_model.specs.Parts.{reply_lines, reply_packets, end_after, fall_lines, owes_reply, reply_outcome}
use Rattle.channel_model.specs.Returns.{dispatch_on_top, dispatch_answered, return_answer}
use Rattle.channel_model.specs.Sends.{send_refusal, send_line, request_of}
use Rattle.channel_model.specs.Steps.{step, first_packet}
use Rattle.channel_model.specs.Takes.{taken_next, dropped_for, is_awaited, settle_line}
use Rattle.channel_model.specs.ValueActors.{nulled}
use Rattle.channel_laws.specs.Laws.{world_of}

-- the lines and packets of an output, at the end where the event began
pub record HasLines (e : End) (output : Output) (whats : List What) (packets : List Packet) : Type 0 where
  pub said : output.lines ≡ map (line_at e.side) whats
  pub sent : output.packets ≡ packets

-- The item that is taken is a request of a row, with these values.
pub record TakesRequest (schema : Schema) (e : End) (m : Message) (row : MessageRow) (vs : Values) : Type 0 where
  pub sync : Bool
  pub level : Level
  pub next : taken_next e ≡ Some (item.Message m sync level)
  pub body : m.body ≡ Request vs
  pub found : message_of schema m.number ≡ Some row

-- a request of a row is sent and is not refused
pub record SendsRequest (schema : Schema) (e : End) (row : MessageRow) (route : ℤ) (number : ℕ) (vs : Values) : Type 0 where
  pub found : request_row schema number ≡ Some row
  pub accepted : send_refusal schema e row route vs ≡ None

-- Destructors

-- An actor does not live after an event, and no actor of its subtree does.
pub record IsDeleted (id : ℤ) (e : End) (output : Output) : Type 0 where
  pub gone : lives id output.end.actors ≡ false
  pub below : AllByRecursion (λ a. lives a.id output.end.actors ≡ false) (post_order id e.actors)

-- After a destructor is sent and not refused, its actor and its subtree do not live at that end. After the handler of
-- a destructor has returned, they do not live at the other end.
pub record DestructorsDelete : Type 0 where
  pub sends : (schema : Schema) (e : End) (link : List Packet) (row : MessageRow) (route : ℤ) (number : ℕ) (vs : Values) (name : Option (List ℕ)) (output : Output)
      → SendsRequest schema e row route number vs → row.kind ≡ Delete → step schema e link (event.send route number vs name) ≡ Some output → IsDeleted route e output
  pub returns : (schema : Schema) (e : End) (link : List Packet) (entry : StackEntry) (row : MessageRow) (vs : Option Values) (output : Output)
      → dispatch_on_top e.stack ≡ Some entry → request_row schema entry.number ≡ Some row → row.kind ≡ Delete → step schema e link (event.return vs) ≡ Some output → IsDeleted entry.route e output

-- an actor is the top one, or its manager lives
abbrev pub IsManaged : List Actor → Actor → Type 0
IsManaged actors a = (a ≡ top a.protocol) ⊎ (lives a.manager actors ≡ true)

-- In every run each living actor is the top one, or its manager lives. So no actor lives below an actor that does
-- not.
abbrev pub ManagersLive : Type 0
ManagersLive = (schema : Schema) → IsSound schema → (protocol : ℕ) (moves : List Move) (side : Side) → AllByRecursion (IsManaged (end_of side (world_of schema protocol moves)).actors) (end_of side (world_of schema protocol moves)).actors

-- Constructors

-- the lines for a content that a name loses: a resolver is answered where the end is open
abbrev pub let_go_lines : Bool → Option NameContent → List What
let_go_lines b None = []
let_go_lines b (Some (actor id)) = []
let_go_lines b (Some (resolver r)) = reply_lines b (resolver_answered r) (answer.Fault ResolverDestroyed)

abbrev pub let_go_packets : Bool → End → Option NameContent → List Packet
let_go_packets b e None = []
let_go_packets b e (Some (actor id)) = []
let_go_packets b e (Some (resolver r)) = reply_packets b e (resolver_answered r) (answer.Fault ResolverDestroyed)

-- the content of a name, if there is a name and it has one
abbrev pub held_by : Option (List ℕ) → End → Option NameContent
held_by name e = option_and_then (λ name. held_by_name name e.names) name

-- An event has its own line, the answer for what a name loses, and the line of this one actor, and no other. The
-- actor comes last of those that live, and is the only change to them.
pub record Builds (e : End) (output : Output) (first : What) (lost : List What) (id : ℤ) (protocol : ℕ) (route : ℤ) : Type 0 where
  pub lines : output.lines ≡ map (line_at e.side) (first ∷ (lost ++ what.Built id protocol ∷ []))
  pub actors : output.end.actors ≡ e.actors ++ record { id = id; protocol = protocol; manager = route } ∷ []
  pub alive : lives id output.end.actors ≡ true

-- The event that sends a constructor and is not refused, or takes one and does not drop it, builds its actor and no
-- other.
pub record ConstructorsBuild : Type 0 where
  pub sends : (schema : Schema) (e : End) (link : List Packet) (row : MessageRow) (route : ℤ) (number : ℕ) (vs : Values) (name : Option (List ℕ)) (protocol : ℕ) (output : Output)
      → SendsRequest schema e row route number vs → row.kind ≡ Constructor protocol → step schema e link (event.send route number vs name) ≡ Some output
      → Builds e output (send_line row (request_of e row route vs) vs) (let_go_lines (is_open e.state) (held_by name e)) (request_of e row route vs).made protocol route
  pub takes : (schema : Schema) (e : End) (link : List Packet) (m : Message) (row : MessageRow) (vs : Values) (protocol : ℕ) (output : Output)
      → TakesRequest schema e m row vs → row.kind ≡ Constructor protocol → dropped_for schema e row m vs ≡ None → step schema e link event.take ≡ Some output
      → Builds e output (what.Take m.seq m.route m.number (nulled schema e.actors row.params vs)) [] m.made protocol m.route

-- Promises

-- the outcome of the promise of a number, if it was made and is settled
abbrev pub outcome_in : ℤ → List PromiseEntry → Option Outcome
outcome_in seq promises = option_and_then (λ entry. entry.promise.outcome) (find (λ entry. has_number seq entry.promise) promises)

-- A reply that is taken settles its promise if that is pending, as its one effect; otherwise it has no effect.
pub record RepliesSettle : Type 0 where
  pub settles : (schema : Schema) (e : End) (link : List Packet) (m : Message) (sync : Bool) (level : Level) (row : MessageRow) (a : Answer) (output : Output)
      → taken_next e ≡ Some (item.Message m sync level) → m.body ≡ body_of a → message_of schema m.number ≡ Some row → is_awaited m.seq e.promises ≡ true → step schema e link event.take ≡ Some output
      → HasLines e output (what.TakeReply m.seq ∷ settle_line m.seq (reply_outcome schema e row a) ∷ []) [] × (outcome_in m.seq output.end.promises ≡ Some (reply_outcome schema e row a))
  pub late : (schema : Schema) (e : End) (link : List Packet) (m : Message) (sync : Bool) (level : Level) (a : Answer) (output : Output)
      → taken_next e ≡ Some (item.Message m sync level) → m.body ≡ body_of a → is_awaited m.seq e.promises ≡ false → step schema e link event.take ≡ Some output
      → HasLines e output (what.TakeReply m.seq ∷ []) [] × (output.end.promises ≡ e.promises)

-- Answers

-- the lines of a subtree that falls when a destructor's handler returns
abbrev pub deleted_lines : Kind → ℤ → End → List What
deleted_lines Normal route e = []
deleted_lines (Constructor protocol) route e = []
deleted_lines Delete route e = fall_lines route (why_deleted route) e

abbrev pub destroyed : Answer
destroyed = answer.Fault ResolverDestroyed

-- An event answers each request to which it owes an answer in that event, by a line and a packet, if its end is open,
-- and answers none at an end that is not open. These are all lines and packets of these events.
pub record DueAnswersAreGiven : Type 0 where
  -- the drop of a request that needs a reply
  pub drops : (schema : Schema) (e : End) (link : List Packet) (m : Message) (row : MessageRow) (vs : Values) (id : ℤ) (output : Output)
      → TakesRequest schema e m row vs → dropped_for schema e row m vs ≡ Some id → step schema e link event.take ≡ Some output
      → HasLines e output (what.Drop m.seq m.route m.number id ∷ reply_lines (is_open e.state && owes_reply row) (request_answered m) (answer.Fault ActorDestroyed))
      (reply_packets (is_open e.state && owes_reply row) e (request_answered m) (answer.Fault ActorDestroyed))
  -- the delivery of a request that replaces one with a promise
  pub replaces : (schema : Schema) (e : End) (link : List Packet) (m : Message) (row : MessageRow) (vs : Values) (old : Message) (sync : Bool) (level : Level) (output : Output)
      → first_packet link ≡ Some (message m) → m.body ≡ Request vs → message_of schema m.number ≡ Some row → replaced row.compress (item_of row m) e.arrived ≡ Some (item.Message old sync level) → step schema e link event.deliver ≡ Some output
      → HasLines e output (what.DeliverRequest m.seq ∷ what.Replaced old.seq ∷ reply_lines (makes_promise row) (request_answered old) destroyed) (reply_packets (makes_promise row) e (request_answered old) destroyed)
  -- the return of a handler: the answer to a sync request, a resolver that is still there, and the actors that fall
  pub returns : (schema : Schema) (e : End) (link : List Packet) (entry : StackEntry) (row : MessageRow) (vs : Option Values) (output : Output)
      → dispatch_on_top e.stack ≡ Some entry → request_row schema entry.number ≡ Some row → step schema e link (event.return vs) ≡ Some output
      → HasLines e output
      (what.Return (head_of entry.frame).seq
      ∷ (reply_lines (is_open e.state && is_sync_row row) (dispatch_answered entry) (return_answer schema e row entry vs)
      ++ (reply_lines (is_open e.state && entry.resolves) (resolver_answered (resolver_in entry)) destroyed
      ++ deleted_lines row.kind entry.route e)))
      (reply_packets (is_open e.state && is_sync_row row) e (dispatch_answered entry) (return_answer schema e row entry vs)
      ++ reply_packets (is_open e.state && entry.resolves) (end_after (is_open e.state && is_sync_row row) e) (resolver_answered (resolver_in entry)) destroyed)
  -- a name that gets a new content, and was for a resolver
  pub names : (schema : Schema) (e : End) (link : List Packet) (name : List ℕ) (id : ℤ) (output : Output) → step schema e link (event.name name id) ≡ Some output
      → HasLines e output (what.Let name (if is_positive id then id else pos 0) ∷ let_go_lines (is_open e.state) (held_by_name name e.names)) (let_go_packets (is_open e.state) e (held_by_name name e.names))
  pub keeps : (schema : Schema) (e : End) (link : List Packet) (seq : ℤ) (name : List ℕ) (output : Output) → step schema e link (event.keep seq name) ≡ Some output
      → HasLines e output (what.Keep seq name ∷ let_go_lines (is_open e.state) (held_by_name name e.names)) (let_go_packets (is_open e.state) e (held_by_name name e.names))

-- Refusals

-- An act was refused: it prints this one line, and the end and what it sends are as they were.
pub record IsRefused (e : End) (output : Output) (refusal : What) : Type 0 where
  pub end : output.end ≡ e
  pub lines : output.lines ≡ line_at e.side refusal ∷ []
  pub packets : output.packets ≡ []

-- An act that is refused prints the cause, and changes nothing.
pub record RefusedActsChangeNothing : Type 0 where
  pub sends : (schema : Schema) (e : End) (link : List Packet) (row : MessageRow) (route : ℤ) (number : ℕ) (vs : Values) (name : Option (List ℕ)) (cause : SendRefusal) (output : Output)
      → request_row schema number ≡ Some row → send_refusal schema e row route vs ≡ Some cause → step schema e link (event.send route number vs name) ≡ Some output → IsRefused e output (what.RefusedSend cause row.number)
  pub answers : (schema : Schema) (e : End) (link : List Packet) (row : MessageRow) (by : Answering) (vs : Option Values) (cause : SendRefusal) (output : Output)
      → answered_row schema e by ≡ Some row → answer_refusal schema e row by vs ≡ Some cause → step schema e link (event.answer by vs) ≡ Some output → IsRefused e output (refused_line cause vs)
  pub closes : (schema : Schema) (e : End) (link : List Packet) (cause : SendRefusal) (output : Output) → close_refusal e ≡ Some cause → step schema e link event.close ≡ Some output → IsRefused e output (what.RefusedClose cause)
