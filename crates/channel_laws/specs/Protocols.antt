-- Which protocol each id has, and that all that refers to an actor in a world uses the protocol of its type.
use Rattle.std.specs.Prelude.{◌≡◌, ◌⊎◌, ℕ, ◌+◌, ℤ, pos, false, List, ◌∷◌, ◌++◌, length, Some, None}
use Rattle.std.specs.List.{AllByRecursion}
use Rattle.actor_tree.specs.declared.actor.Actor.{Actor}
use Rattle.ipdl_base.specs.declared.kinds.Side.{Side}
use Rattle.ipdl_base.specs.declared.kinds.Side.TheVariants.{Parent, Child}
use Rattle.ipdl_base.specs.declared.message.Body.{Body}
use Rattle.ipdl_base.specs.declared.message.Body.TheVariants.{Request, Reply, Fault, Goodbye}
use Rattle.ipdl_base.specs.declared.message.Message.{Message}
use Rattle.ipdl_base.specs.declared.schema.Kind.{Kind}
use Rattle.ipdl_base.specs.declared.schema.Kind.TheVariants.{Normal, Constructor, Delete}
use Rattle.ipdl_base.specs.declared.schema.MessageRow.{MessageRow}
use Rattle.ipdl_base.specs.declared.schema.Schema.{Schema}
use Rattle.ipdl_base.specs.Signatures.{returns_of_row}
use Rattle.ipdl_base.specs.Sound.{message_of}
use Rattle.nesting_core.specs.declared.frame.Answer.{Answer}
use Rattle.nesting_core.specs.declared.frame.Answer.TheVariants as answer
use Rattle.nesting_core.specs.declared.frame.StackFrame.{StackFrame}
use Rattle.nesting_core.specs.declared.frame.StackFrame.TheVariants.{Dispatch, Wait}
use Rattle.pending_queue.specs.declared.item.Item.{Item}
use Rattle.pending_queue.specs.declared.item.Item.TheVariants as item
use Rattle.channel_model.specs.Ends.{End, World, Packet, message, mark, StackEntry, NameContent, actor, resolver, Naming}
use Rattle.ipdl_base.specs.Sides.{other, top_id}
use Rattle.channel_model.specs.Numbers.{id_of, protocol_of, request_row}
use Rattle.channel_model.specs.Refusals.{actors_of}
use Rattle.channel_model.specs.ValueActors.{ActorValue, actors_in_parts}

-- The protocol of the top actor, and those of the actors that each side has constructed, in order.
pub record Protocols : Type 0 where
  pub top : ℕ
  pub parent : List ℕ
  pub child : List ℕ

-- An id is that of an actor of a protocol, by its place among the actors that a side has constructed.
pub record IsConstructed (side : Side) (protocols : List ℕ) (id : ℤ) (protocol : ℕ) : Type 0 where
  pub before : List ℕ
  pub after : List ℕ
  pub place : protocols ≡ before ++ protocol ∷ after
  pub id_is : id ≡ id_of side (length before + 1)

-- an id belongs to an actor of a protocol: the top actor, or one that a side has constructed
abbrev pub StandsFor : Protocols → ℤ → ℕ → Type 0
StandsFor made id protocol = ((id ≡ top_id) × (protocol ≡ made.top)) ⊎ (IsConstructed Parent made.parent id protocol ⊎ IsConstructed Child made.child id protocol)

-- an actor in a value is null, or its id belongs to one of the protocol of its type
abbrev pub HasItsProtocol : Protocols → ActorValue → Type 0
HasItsProtocol made a = (a.id ≡ pos 0) ⊎ StandsFor made a.id a.protocol

abbrev pub HaveTheirProtocols : Protocols → List ActorValue → Type 0
HaveTheirProtocols made actors = AllByRecursion (HasItsProtocol made) actors

-- the actor of a request, as its message names it
abbrev pub route_actor : ℤ → ℕ → ActorValue
route_actor route number = record { id = route; protocol = protocol_of number; nullable = false }

-- the id of the actor that a constructor makes belongs to the protocol that it constructs
abbrev pub MakesItsProtocol : Protocols → Kind → ℤ → Type 0
MakesItsProtocol made Normal id = Unit {0}
MakesItsProtocol made (Constructor protocol) id = StandsFor made id protocol
MakesItsProtocol made Delete id = Unit {0}

-- A request has the request number of its message, and makes an actor of the protocol that it constructs.
pub record IsRightRequest (schema : Schema) (made : Protocols) (row : MessageRow) (m : Message) : Type 0 where
  pub found : request_row schema m.number ≡ Some row
  pub makes : MakesItsProtocol made row.kind m.made

abbrev pub IsRightBody : Schema → Protocols → MessageRow → Message → Body → Type 0
IsRightBody schema made row m (Request vs) = IsRightRequest schema made row m
IsRightBody schema made row m (Reply vs) = Unit {0}
IsRightBody schema made row m (Fault reason) = Unit {0}
IsRightBody schema made row m Goodbye = Unit {0}

-- A message of a row: all actors that it refers to have their protocols.
pub record IsRightMessage (schema : Schema) (made : Protocols) (m : Message) (row : MessageRow) (body : Body) : Type 0 where
  pub actors : HaveTheirProtocols made (actors_of schema row m body)
  pub request : IsRightBody schema made row m body

-- a message is right as one of its row, if it has one
abbrev pub MessageHasProtocols : Schema → Protocols → Message → Type 0
MessageHasProtocols schema made m = (row : MessageRow) → message_of schema m.number ≡ Some row → IsRightMessage schema made m row m.body

-- A request that an end has taken or sent has a row, and the actor that it went to has the protocol of that row.
pub record KeptRequest (schema : Schema) (made : Protocols) (route : ℤ) (number : ℕ) : Type 0 where
  pub row : MessageRow
  pub found : request_row schema number ≡ Some row
  pub actor_is : HasItsProtocol made (route_actor route number)

-- the actors in an answer to a request have the protocols of the returns
abbrev pub AnswerHasProtocols : Schema → Protocols → ℕ → Answer → Type 0
AnswerHasProtocols schema made number (answer.Ok vs) = (row : MessageRow) → request_row schema number ≡ Some row → HaveTheirProtocols made (actors_in_parts schema (returns_of_row row) vs)
AnswerHasProtocols schema made number (answer.Fault reason) = Unit {0}

abbrev pub FrameHasProtocols : Schema → Protocols → ℕ → StackFrame → Type 0
FrameHasProtocols schema made number (Dispatch head) = Unit {0}
FrameHasProtocols schema made number (Wait head None) = Unit {0}
FrameHasProtocols schema made number (Wait head (Some a)) = AnswerHasProtocols schema made number a

-- A frame's request, and the answer of a wait, have the protocols of their message.
pub record EntryHasProtocols (schema : Schema) (made : Protocols) (entry : StackEntry) : Type 0 where
  pub request : KeptRequest schema made entry.route entry.number
  pub frame : FrameHasProtocols schema made entry.number entry.frame

abbrev pub ContentHasProtocols : Schema → Protocols → NameContent → Type 0
ContentHasProtocols schema made (actor id) = Unit {0}
ContentHasProtocols schema made (resolver r) = KeptRequest schema made r.route r.number

abbrev pub NamingHasProtocols : Schema → Protocols → Naming → Type 0
NamingHasProtocols schema made naming = ContentHasProtocols schema made naming.holds

abbrev pub ItemHasProtocols : Schema → Protocols → Item → Type 0
ItemHasProtocols schema made (item.Message m sync level) = MessageHasProtocols schema made m
ItemHasProtocols schema made item.Broken = Unit {0}

abbrev pub PacketHasProtocols : Schema → Protocols → Packet → Type 0
PacketHasProtocols schema made (message m) = MessageHasProtocols schema made m
PacketHasProtocols schema made mark = Unit {0}

-- the id of a living actor belongs to its protocol
abbrev pub ActorHasProtocol : Protocols → Actor → Type 0
ActorHasProtocol made a = StandsFor made a.id a.protocol

-- All that an end keeps has the protocols of the ids.
pub record HasProtocols (schema : Schema) (made : Protocols) (e : End) : Type 0 where
  pub actors : AllByRecursion (ActorHasProtocol made) e.actors
  pub entries : AllByRecursion (EntryHasProtocols schema made) e.stack
  pub names : AllByRecursion (NamingHasProtocols schema made) e.names
  pub arrived : AllByRecursion (ItemHasProtocols schema made) e.arrived
  pub outbox : AllByRecursion (MessageHasProtocols schema made) e.outbox

-- the number of actors that a side has constructed
abbrev pub constructed_count : Side → Protocols → ℕ
constructed_count Parent made = length made.parent
constructed_count Child made = length made.child

-- Each id has one protocol, which both ends, the first that of a side, and all packets between them use for it.
pub record EndsHaveProtocols (schema : Schema) (top : ℕ) (side : Side) (mine theirs : End) (to_me to_them : List Packet) : Type 0 where
  pub made : Protocols
  pub top_is : made.top ≡ top
  pub count : constructed_count side made ≡ mine.constructors_sent
  pub their_count : constructed_count (other side) made ≡ theirs.constructors_sent
  pub keeps : HasProtocols schema made mine
  pub their_keeps : HasProtocols schema made theirs
  pub comes : AllByRecursion (PacketHasProtocols schema made) to_me
  pub goes : AllByRecursion (PacketHasProtocols schema made) to_them

abbrev pub WorldHasProtocols : Schema → ℕ → World → Type 0
WorldHasProtocols schema top w = EndsHaveProtocols schema top Parent w.parent w.child w.to_parent w.to_child
