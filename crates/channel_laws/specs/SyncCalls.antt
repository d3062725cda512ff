-- The sync requests among messages, packets and arrived items, and the replies to them.
use Rattle.std.specs.Prelude.{ℕ, ℤ, Bool, true, false, List, [], ◌∷◌}
use Rattle.std.specs.List.{flat_map}
use Rattle.std.specs.Option.{option_map_or}
use Rattle.ipdl_base.specs.declared.kinds.Level.{Level}
use Rattle.ipdl_base.specs.declared.kinds.Level.TheVariants.{Not}
use Rattle.ipdl_base.specs.declared.message.Body.{Body}
use Rattle.ipdl_base.specs.declared.message.Body.TheVariants.{Request, Reply, Fault, Goodbye}
use Rattle.ipdl_base.specs.declared.message.Message.{Message}
use Rattle.ipdl_base.specs.declared.schema.Schema.{Schema}
use Rattle.ipdl_base.specs.Sound.{message_of}
use Rattle.nesting_core.specs.declared.frame.Head.{Head}
use Rattle.pending_queue.specs.declared.item.Item.{Item}
use Rattle.pending_queue.specs.declared.item.Item.TheVariants as item
use Rattle.nesting_laws.specs.Calls.{Call, ReplyHead, SyncPacket, request, reply, farewell}
use Rattle.channel_model.specs.Ends.{Packet, message, mark}
use Rattle.channel_model.specs.Numbers.{is_sync_row}

-- whether the message of a number is sync
abbrev pub is_sync_number : Schema → ℕ → Bool
is_sync_number schema number = option_map_or is_sync_row (message_of schema number) false

-- the level of the message of a number
abbrev pub level_of : Schema → ℕ → Level
level_of schema number = option_map_or (λ row. row.level) (message_of schema number) Not

-- a list of x alone, or the empty list
abbrev pub listed : {A : Type 0} → Bool → A → List A
listed true x = x ∷ []
listed false x = []

-- the call of a request of a level
abbrev pub call_of : Level → Message → Call
call_of level m = record { level = level; seq = m.seq; transaction = m.transaction; route = m.route; number = m.number }

-- the call of a frame, by what the frame and its entry keep
abbrev pub call_of_head : ℤ → ℕ → Head → Call
call_of_head route number head = record { level = head.level; seq = head.seq; transaction = head.transaction; route = route; number = number }

-- the head of a reply
abbrev pub reply_head : Message → ReplyHead
reply_head m = record { seq = m.seq; route = m.route; number = m.number }

-- what a message's body is among sync requests: a request, the reply to one, the last packet, or nothing
abbrev pub sync_body : Bool → Level → Message → Body → List SyncPacket
sync_body sync level m (Request vs) = listed sync (request (call_of level m))
sync_body sync level m (Reply vs) = listed sync (reply (reply_head m))
sync_body sync level m (Fault reason) = listed sync (reply (reply_head m))
sync_body sync level m Goodbye = farewell ∷ []

-- the same for a packet
abbrev pub sync_packet : Schema → Packet → List SyncPacket
sync_packet schema (message m) = sync_body (is_sync_number schema m.number) (level_of schema m.number) m m.body
sync_packet schema mark = farewell ∷ []

-- the sync packets of a link
abbrev pub sync_packets : Schema → List Packet → List SyncPacket
sync_packets schema link = flat_map (sync_packet schema) link

-- the call of a body that has arrived, if it is a sync request
abbrev pub body_call : Bool → Level → Message → Body → List Call
body_call sync level m (Request vs) = listed sync (call_of level m)
body_call sync level m (Reply vs) = []
body_call sync level m (Fault reason) = []
body_call sync level m Goodbye = []

-- the call of an item, if it is a sync request
abbrev pub item_call : Item → List Call
item_call (item.Message m sync level) = body_call sync level m m.body
item_call item.Broken = []

-- the calls among what has arrived
abbrev pub sync_calls : List Item → List Call
sync_calls items = flat_map item_call items
