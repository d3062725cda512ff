-- What has arrived at an end, by its lines: each request once, and each reply once for each that was delivered.
use Rattle.std.specs.Prelude.{◌≡◌, ℕ, ◌+◌, ◌≤◌, ℤ, Bool, false, List, map, Some}
use Rattle.std.specs.List.{AllByRecursion}
use Rattle.ipdl_base.specs.declared.kinds.Side.{Side}
use Rattle.ipdl_base.specs.declared.message.Body.{Body}
use Rattle.ipdl_base.specs.declared.message.Body.TheVariants.{Request, Reply, Fault, Goodbye}
use Rattle.ipdl_base.specs.declared.message.Message.{Message}
use Rattle.ipdl_base.specs.declared.schema.MessageRow.{MessageRow}
use Rattle.ipdl_base.specs.declared.schema.Schema.{Schema}
use Rattle.ipdl_base.specs.Sound.{message_of}
use Rattle.pending_queue.specs.declared.item.Item.{Item}
use Rattle.pending_queue.specs.declared.item.Item.TheVariants as item
use Rattle.channel_model.specs.Ends.{End, Packet, message, mark}
use Rattle.ipdl_base.specs.Sides.{other}
use Rattle.channel_model.specs.Numbers.{is_sync_row}
use Rattle.channel_model.specs.Refusals.{expected_seq}
use Rattle.history_reading.specs.declared.parts.PacketKind.{PacketKind}
use Rattle.history_reading.specs.declared.parts.PacketKind.TheVariants as kind
use Rattle.history_reading.specs.EndReading.{EndReading, is_sync_request}
use Rattle.channel_laws.specs.Delivered.{body_kind}
use Rattle.channel_laws.specs.Counts.{how_many, is_number, is_packet, AreNumberedOnce}

-- what lines show of an item that has arrived
abbrev pub item_kind : Item → PacketKind
item_kind (item.Message m sync level) = body_kind m.seq m.body
item_kind item.Broken = kind.Broken

-- What is read of deliveries and takes.
pub record ArrivalReading : Type 0 where
  pub delivered : List PacketKind
  pub arrived : List PacketKind
  pub gone : List ℤ
  pub replaced : List ℤ
  pub replies : List ℤ

abbrev pub arrival_reading : EndReading → ArrivalReading
arrival_reading own = record { delivered = own.delivered; arrived = own.arrived; gone = own.gone; replaced = own.replaced; replies = own.replies }

-- the number of times that the request of a number has arrived, or was taken, dropped or replaced, and the number of
-- times that it was delivered
abbrev pub requests_in : ArrivalReading → ℤ → ℕ
requests_in a n = how_many (is_packet (kind.Request n)) a.arrived + (how_many (is_number n) a.gone + how_many (is_number n) a.replaced)

abbrev pub requests_delivered : ArrivalReading → ℤ → ℕ
requests_delivered a n = how_many (is_packet (kind.Request n)) a.delivered

-- the number of replies to the request of a number that have arrived or were taken, and the number that were
-- delivered
abbrev pub replies_in : ArrivalReading → ℤ → ℕ
replies_in a n = how_many (is_packet (kind.Reply n)) a.arrived + how_many (is_number n) a.replies

abbrev pub replies_delivered : ArrivalReading → ℤ → ℕ
replies_delivered a n = how_many (is_packet (kind.Reply n)) a.delivered

-- an item is not the reply to a sync request

abbrev pub IsAsyncReply : Bool → Body → Type 0
IsAsyncReply sync (Request vs) = Unit {0}
IsAsyncReply sync (Reply vs) = sync ≡ false
IsAsyncReply sync (Fault reason) = sync ≡ false
IsAsyncReply sync Goodbye = Unit {0}

abbrev pub IsNoSyncReply : Item → Type 0
IsNoSyncReply (item.Message m sync level) = IsAsyncReply sync m.body
IsNoSyncReply item.Broken = Unit {0}

-- The items that have arrived at a side are those that its lines show, and each request and reply was delivered. The
-- requests that were delivered are among the first `count` of the other side, none twice.
pub record HasArrivals (side : Side) (items : List Item) (count : ℕ) (a : ArrivalReading) : Type 0 where
  pub arrived : a.arrived ≡ map item_kind items
  pub async : AllByRecursion IsNoSyncReply items
  pub requests : (n : ℤ) → requests_in a n ≤ requests_delivered a n
  pub replies : (n : ℤ) → replies_in a n ≤ replies_delivered a n
  pub numbered : AreNumberedOnce (other side) count (requests_delivered a)

abbrev pub ArrivalsAreRead : End → EndReading → Type 0
ArrivalsAreRead e own = HasArrivals e.side e.arrived e.delivered (arrival_reading own)

-- What is delivered is due: its message is one of the schema; a request has the next number of the other side; a
-- reply is to a request of this end that is sync exactly where the message is.

abbrev pub IsDueBody : End → EndReading → Message → Bool → Body → Type 0
IsDueBody e own m sync (Request vs) = m.seq ≡ expected_seq e
IsDueBody e own m sync (Reply vs) = is_sync_request own m.seq ≡ sync
IsDueBody e own m sync (Fault reason) = is_sync_request own m.seq ≡ sync
IsDueBody e own m sync Goodbye = Unit {0}

abbrev pub HasDueRow : Schema → End → EndReading → Message → Type 0
HasDueRow schema e own m = (row : MessageRow) × (message_of schema m.number ≡ Some row) × IsDueBody e own m (is_sync_row row) m.body

abbrev pub IsDueMessage : Schema → End → EndReading → Message → Body → Type 0
IsDueMessage schema e own m (Request vs) = HasDueRow schema e own m
IsDueMessage schema e own m (Reply vs) = HasDueRow schema e own m
IsDueMessage schema e own m (Fault reason) = HasDueRow schema e own m
IsDueMessage schema e own m Goodbye = Unit {0}

abbrev pub IsDue : Schema → End → EndReading → Packet → Type 0
IsDue schema e own (message m) = IsDueMessage schema e own m m.body
IsDue schema e own mark = Unit {0}
