-- What an end handles, keeps or answers comes from requests of the other end.
use Rattle.std.specs.Prelude.{◌≡◌, ℕ, ◌+◌, ℤ, true, List, Some}
use Rattle.std.specs.List.{AllByRecursion}
use Rattle.ipdl_base.specs.declared.message.Body.{Body}
use Rattle.ipdl_base.specs.declared.message.Body.TheVariants.{Request, Reply, Fault, Goodbye}
use Rattle.ipdl_base.specs.declared.message.Message.{Message}
use Rattle.ipdl_base.specs.declared.schema.MessageRow.{MessageRow}
use Rattle.ipdl_base.specs.declared.schema.Schema.{Schema}
use Rattle.ipdl_base.specs.Sound.{message_of, has_reply}
use Rattle.nesting_core.specs.Frames.{head_of, is_dispatch}
use Rattle.pending_queue.specs.declared.item.Item.{Item}
use Rattle.pending_queue.specs.declared.item.Item.TheVariants as item
use Rattle.channel_model.specs.Ends.{End, Packet, message, mark, StackEntry, Naming, NameContent, actor, resolver, Resolver}
use Rattle.channel_model.specs.Numbers.{makes_promise, request_row}
use Rattle.channel_laws.specs.Notes.{RequestNote, Note, asks, In}

-- A request with this number, actor and message was sent.
pub record IsRequested (sent : List Note) (seq : ℤ) (route : ℤ) (number : ℕ) : Type 0 where
  pub request : RequestNote
  pub sent_it : In (asks request) sent
  pub seq_is : request.seq ≡ seq
  pub route_is : request.route ≡ route
  pub number_is : request.number ≡ number

-- A request with this number, actor and message was sent, and its message has a row.
pub record Origin (schema : Schema) (sent : List Note) (seq : ℤ) (route : ℤ) (number : ℕ) : Type 0 where
  pub row : MessageRow
  pub found : request_row schema number ≡ Some row
  pub requested : IsRequested sent seq route number

-- The request of a frame has a row, and a resolver only where it makes a promise; a dispatch is of a request that was
-- sent.
pub record EntryOrigin (schema : Schema) (sent : List Note) (entry : StackEntry) : Type 0 where
  pub row : MessageRow
  pub found : request_row schema entry.number ≡ Some row
  pub resolves : entry.resolves ≡ true → makes_promise row ≡ true
  pub requested : is_dispatch entry.frame ≡ true → IsRequested sent (head_of entry.frame).seq entry.route entry.number

-- A resolver is of a request that was sent and makes a promise.
pub record ResolverOrigin (schema : Schema) (sent : List Note) (r : Resolver) : Type 0 where
  pub origin : Origin schema sent r.seq r.route r.number
  pub promised : makes_promise origin.row ≡ true

abbrev pub ContentOrigin : Schema → List Note → NameContent → Type 0
ContentOrigin schema sent (actor id) = Unit {0}
ContentOrigin schema sent (resolver r) = ResolverOrigin schema sent r

abbrev pub NamingOrigin : Schema → List Note → Naming → Type 0
NamingOrigin schema sent naming = ContentOrigin schema sent naming.holds

-- a number has a row
abbrev pub HasRow : Schema → ℕ → Type 0
HasRow schema number = (row : MessageRow) × (message_of schema number ≡ Some row)

-- a message on the link is a request that was sent, or a reply with a row
abbrev pub BodyOrigin : Schema → List Note → Message → Body → Type 0
BodyOrigin schema sent m (Request vs) = Origin schema sent m.seq m.route m.number
BodyOrigin schema sent m (Reply vs) = HasRow schema m.number
BodyOrigin schema sent m (Fault r) = HasRow schema m.number
BodyOrigin schema sent m Goodbye = Unit {0}

abbrev pub ItemOrigin : Schema → List Note → Item → Type 0
ItemOrigin schema sent (item.Message m sync level) = BodyOrigin schema sent m m.body
ItemOrigin schema sent item.Broken = Unit {0}

abbrev pub PacketOrigin : Schema → List Note → Packet → Type 0
PacketOrigin schema sent (message m) = BodyOrigin schema sent m m.body
PacketOrigin schema sent mark = Unit {0}

-- A reply is to a request that was sent and has a reply.
pub record RepliesTo (schema : Schema) (sent : List Note) (m : Message) : Type 0 where
  pub number : ℕ
  pub is : m.number ≡ number + 1
  pub origin : Origin schema sent m.seq m.route number
  pub replied : has_reply origin.row ≡ true

-- what is sent is a request with a row, or a reply to what the other end has sent
abbrev pub BodyReplies : Schema → List Note → Message → Body → Type 0
BodyReplies schema sent m (Request vs) = (row : MessageRow) × (request_row schema m.number ≡ Some row)
BodyReplies schema sent m (Reply vs) = RepliesTo schema sent m
BodyReplies schema sent m (Fault r) = RepliesTo schema sent m
BodyReplies schema sent m Goodbye = Unit {0}

abbrev pub PacketReplies : Schema → List Note → Packet → Type 0
PacketReplies schema sent (message m) = BodyReplies schema sent m m.body
PacketReplies schema sent mark = Unit {0}

-- what waits in an outbox is a request with a row
abbrev pub IsRequestBody : Schema → Body → ℕ → Type 0
IsRequestBody schema (Request vs) number = (row : MessageRow) × (request_row schema number ≡ Some row)
IsRequestBody schema (Reply vs) number = ⊥
IsRequestBody schema (Fault r) number = ⊥
IsRequestBody schema Goodbye number = ⊥

abbrev pub IsRequestMessage : Schema → Message → Type 0
IsRequestMessage schema m = IsRequestBody schema m.body m.number

-- All that an end handles, keeps or may answer comes from what the other end has sent.
pub record HasOrigins (schema : Schema) (sent : List Note) (e : End) : Type 0 where
  pub entries : AllByRecursion (EntryOrigin schema sent) e.stack
  pub names : AllByRecursion (NamingOrigin schema sent) e.names
  pub arrived : AllByRecursion (ItemOrigin schema sent) e.arrived
  pub outbox : AllByRecursion (IsRequestMessage schema) e.outbox
