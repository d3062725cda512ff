-- Worlds in which all living actors can be built, and all requests can be sent.
use Rattle.std.specs.Prelude.{◌≡◌, ℕ, true, Bool, List, Some}
use Rattle.std.specs.List.{AllByRecursion}
use Rattle.actor_tree.specs.declared.actor.Actor.{Actor}
use Rattle.ipdl_base.specs.declared.kinds.Level.{Level}
use Rattle.ipdl_base.specs.declared.kinds.Side.{Side}
use Rattle.ipdl_base.specs.declared.kinds.Side.TheVariants.{Parent, Child}
use Rattle.ipdl_base.specs.declared.message.Body.{Body}
use Rattle.ipdl_base.specs.declared.message.Body.TheVariants.{Request, Reply, Fault, Goodbye}
use Rattle.ipdl_base.specs.declared.message.Message.{Message}
use Rattle.ipdl_base.specs.declared.schema.MessageRow.{MessageRow}
use Rattle.ipdl_base.specs.declared.schema.Schema.{Schema}
use Rattle.ipdl_base.specs.Sound.{message_of}
use Rattle.nesting_core.specs.declared.frame.StackFrame.{StackFrame}
use Rattle.nesting_core.specs.declared.frame.StackFrame.TheVariants.{Dispatch, Wait}
use Rattle.nesting_core.specs.Frames.{head_of}
use Rattle.pending_queue.specs.declared.item.Item.{Item}
use Rattle.pending_queue.specs.declared.item.Item.TheVariants as item
use Rattle.channel_model.specs.Ends.{End, World, Packet, message, mark, StackEntry}
use Rattle.channel_model.specs.Events.{Move}
use Rattle.ipdl_base.specs.Sides.{other, sends}
use Rattle.channel_model.specs.Numbers.{is_sync_row, request_row}
use Rattle.channel_laws.specs.Laws.{world_of}
use Rattle.wait_report.specs.Sendable.{IsBuildable, IsSendable}

-- A request of a number that an end of a side has sent: its message can be sent, and that side sends it.
pub record IsSentBy (schema : Schema) (top : ℕ) (side : Side) (number : ℕ) : Type 0 where
  pub row : MessageRow
  pub found : request_row schema number ≡ Some row
  pub sendable : IsSendable schema top row
  pub way : sends side row.direction ≡ true

abbrev pub BodyIsSendable : Schema → ℕ → Side → ℕ → Body → Type 0
BodyIsSendable schema top side number (Request vs) = IsSentBy schema top side number
BodyIsSendable schema top side number (Reply vs) = Unit {0}
BodyIsSendable schema top side number (Fault reason) = Unit {0}
BodyIsSendable schema top side number Goodbye = Unit {0}

-- a message, if it is a request, is one that a side has sent
abbrev pub MessageIsSendable : Schema → ℕ → Side → Message → Type 0
MessageIsSendable schema top side m = BodyIsSendable schema top side m.number m.body

abbrev pub PacketIsSendable : Schema → ℕ → Side → Packet → Type 0
PacketIsSendable schema top side (message m) = MessageIsSendable schema top side m
PacketIsSendable schema top side mark = Unit {0}

-- an item has the semantics and the level of its message
abbrev pub IsOfRow : Schema → ℕ → Bool → Level → Type 0
IsOfRow schema number sync level = (row : MessageRow) → message_of schema number ≡ Some row → (sync ≡ is_sync_row row) × (level ≡ row.level)

abbrev pub BodyArrives : Schema → Message → Bool → Level → Body → Type 0
BodyArrives schema m sync level (Request vs) = IsOfRow schema m.number sync level
BodyArrives schema m sync level (Reply vs) = Unit {0}
BodyArrives schema m sync level (Fault reason) = Unit {0}
BodyArrives schema m sync level Goodbye = Unit {0}

-- a request that has arrived is one that a side has sent, with the sync and level of its row
abbrev pub ItemIsSendable : Schema → ℕ → Side → Item → Type 0
ItemIsSendable schema top side (item.Message m sync level) = MessageIsSendable schema top side m × BodyArrives schema m sync level m.body
ItemIsSendable schema top side item.Broken = Unit {0}

-- A wait is for a sync request that the end has sent, and a dispatch is of a request that the other end has sent.
abbrev pub FrameGoes : Side → MessageRow → StackFrame → Type 0
FrameGoes side row (Dispatch head) = sends (other side) row.direction ≡ true
FrameGoes side row (Wait head answer) = (sends side row.direction ≡ true) × (is_sync_row row ≡ true)

-- A frame is of a request that can be sent.
pub record EntryIsSendable (schema : Schema) (top : ℕ) (side : Side) (entry : StackEntry) : Type 0 where
  pub row : MessageRow
  pub found : request_row schema entry.number ≡ Some row
  pub sendable : IsSendable schema top row
  pub level : (head_of entry.frame).level ≡ row.level
  pub goes : FrameGoes side row entry.frame

-- an actor is of a protocol that can be built
abbrev pub ActorIsBuildable : Schema → ℕ → Actor → Type 0
ActorIsBuildable schema top a = IsBuildable schema top a.protocol

-- All actors that live at an end can be built, and all requests that it has sent, handles or has received can be
-- sent.
pub record IsSendableEnd (schema : Schema) (top : ℕ) (side : Side) (e : End) : Type 0 where
  pub side_is : e.side ≡ side
  pub actors : AllByRecursion (ActorIsBuildable schema top) e.actors
  pub entries : AllByRecursion (EntryIsSendable schema top side) e.stack
  pub arrived : AllByRecursion (ItemIsSendable schema top (other side)) e.arrived
  pub outbox : AllByRecursion (MessageIsSendable schema top side) e.outbox

-- Both ends are sendable, and so is each packet on the links.
pub record IsSendableWorld (schema : Schema) (top : ℕ) (w : World) : Type 0 where
  pub parent : IsSendableEnd schema top Parent w.parent
  pub child : IsSendableEnd schema top Child w.child
  pub to_parent : AllByRecursion (PacketIsSendable schema top Child) w.to_parent
  pub to_child : AllByRecursion (PacketIsSendable schema top Parent) w.to_child

-- In every run all actors that live can be built, and all requests can be sent.
abbrev pub SendableInEveryRun : Type 0
SendableInEveryRun = (schema : Schema) (top : ℕ) (moves : List Move) → IsSendableWorld schema top (world_of schema top moves)
