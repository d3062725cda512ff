-- Open ends: all that they keep of requests agrees with the rows of those requests.
use Rattle.std.specs.Prelude.{◌≡◌, ℕ, ◌+◌, Bool, true, false, List, [], map, Some}
use Rattle.std.specs.List.{AllByRecursion}
use Rattle.ipdl_base.specs.declared.kinds.EndState.TheVariants.{Open}
use Rattle.ipdl_base.specs.declared.kinds.Level.{Level}
use Rattle.ipdl_base.specs.declared.message.Body.{Body}
use Rattle.ipdl_base.specs.declared.message.Body.TheVariants.{Request, Reply, Fault, Goodbye}
use Rattle.ipdl_base.specs.declared.message.Message.{Message}
use Rattle.ipdl_base.specs.declared.schema.MessageRow.{MessageRow}
use Rattle.ipdl_base.specs.declared.schema.Schema.{Schema}
use Rattle.nesting_core.specs.Frames.{head_of}
use Rattle.pending_queue.specs.declared.item.Item.{Item}
use Rattle.pending_queue.specs.declared.item.Item.TheVariants as item
use Rattle.nesting_laws.specs.Calls.{SyncFrame}
use Rattle.channel_model.specs.Ends.{End, StackEntry, Naming, NameContent, actor, resolver, Packet, message, mark}
use Rattle.channel_model.specs.Numbers.{request_row, is_sync_row}
use Rattle.channel_laws.specs.SyncCalls.{is_sync_number, sync_packets}
use Rattle.channel_laws.specs.SyncStack.{Shows}

-- The request of a frame has a row, and the frame is sync as that row is; only a frame that is not sync has a
-- resolver.
pub record EntryAgrees (schema : Schema) (entry : StackEntry) : Type 0 where
  pub row : MessageRow
  pub found : request_row schema entry.number ≡ Some row
  pub is_sync : is_sync_row row ≡ (head_of entry.frame).sync
  pub resolves : entry.resolves ≡ true → (head_of entry.frame).sync ≡ false

-- A number of a request of the schema.
pub record IsRequestNumber (schema : Schema) (number : ℕ) : Type 0 where
  pub row : MessageRow
  pub found : request_row schema number ≡ Some row

-- a request on a link has the number of a request of the schema
abbrev pub BodyAgrees : Schema → Message → Body → Type 0
BodyAgrees schema m (Request vs) = IsRequestNumber schema m.number
BodyAgrees schema m (Reply vs) = Unit {0}
BodyAgrees schema m (Fault reason) = Unit {0}
BodyAgrees schema m Goodbye = Unit {0}

-- the same for a packet; a mark agrees
abbrev pub PacketAgrees : Schema → Packet → Type 0
PacketAgrees schema (message m) = BodyAgrees schema m m.body
PacketAgrees schema mark = Unit {0}

-- A request that has arrived has the sync and level of its row.
pub record RequestAgrees (schema : Schema) (m : Message) (sync : Bool) (level : Level) : Type 0 where
  pub row : MessageRow
  pub found : request_row schema m.number ≡ Some row
  pub is_sync : is_sync_row row ≡ sync
  pub has_level : row.level ≡ level

-- what has arrived at an open end agrees with its row, and is no goodbye
abbrev pub ArrivedAgrees : Schema → Message → Bool → Level → Body → Type 0
ArrivedAgrees schema m sync level (Request vs) = RequestAgrees schema m sync level
ArrivedAgrees schema m sync level (Reply vs) = Unit {0}
ArrivedAgrees schema m sync level (Fault reason) = Unit {0}
ArrivedAgrees schema m sync level Goodbye = ⊥

-- the same for an item, which is not a mark
abbrev pub ItemAgrees : Schema → Item → Type 0
ItemAgrees schema (item.Message m sync level) = ArrivedAgrees schema m sync level m.body
ItemAgrees schema item.Broken = ⊥

-- a resolver that has a name is of an async request
abbrev pub ContentAgrees : Schema → NameContent → Type 0
ContentAgrees schema (actor id) = Unit {0}
ContentAgrees schema (resolver r) = is_sync_number schema (r.number + 1) ≡ false

-- the same for a naming
abbrev pub NamingAgrees : Schema → Naming → Type 0
NamingAgrees schema naming = ContentAgrees schema naming.holds

-- An open end whose stack shows these sync frames, and whose outbox has no sync packet.
pub record IsOpenEnd (schema : Schema) (e : End) (stack : List SyncFrame) : Type 0 where
  pub state : e.state ≡ Open
  pub shows : Shows e.side e.stack stack
  pub entries : AllByRecursion (EntryAgrees schema) e.stack
  pub arrived : AllByRecursion (ItemAgrees schema) e.arrived
  pub names : AllByRecursion (NamingAgrees schema) e.names
  pub outbox : sync_packets schema (map message e.outbox) ≡ []
  pub waiting : AllByRecursion (PacketAgrees schema) (map message e.outbox)
