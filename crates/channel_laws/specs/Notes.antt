-- What an end has sent, in one form for the reading of its lines and for the packets on the link.
use Rattle.std.specs.Prelude.{◌==◌, ℕ, ℤ, pos, Bool, true, false, if◌then◌else◌, List, ◌∷◌, map}
use Rattle.ipdl_base.specs.declared.kinds.Reason.{Reason}
use Rattle.ipdl_base.specs.declared.kinds.Reason.TheVariants as reason
use Rattle.ipdl_base.specs.declared.kinds.Side.{Side}
use Rattle.ipdl_base.specs.declared.message.Body.{Body}
use Rattle.ipdl_base.specs.declared.message.Body.TheVariants.{Request, Reply, Fault, Goodbye}
use Rattle.ipdl_base.specs.declared.message.Message.{Message}
use Rattle.ipdl_base.specs.declared.schema.Schema.{Schema}
use Rattle.ipdl_base.specs.declared.value.Values.{Values}
use Rattle.history_reading.specs.declared.parts.PacketKind.{PacketKind}
use Rattle.history_reading.specs.declared.parts.PacketKind.TheVariants as seen
use Rattle.history_reading.specs.Rows.{is_sync_number, wants_number}
use Rattle.history_reading.specs.SentPacket as told
use Rattle.history_reading.specs.SentPacket.{SentPacket, ReplyContent, resolved, rejected, ok, fault}
use Rattle.channel_model.specs.Ends.{Packet, message, mark}
use Rattle.channel_model.specs.Numbers.{id_of}

-- A request, with the id of the actor that it makes, or 0.
pub record RequestNote : Type 0 where
  pub seq : ℤ
  pub transaction : ℤ
  pub sync : Bool
  pub wants : Bool
  pub route : ℤ
  pub number : ℕ
  pub made : ℤ
  pub values : Values

-- What is noted of a packet: a request, a reply to the request of a number, a goodbye, or the mark of a death.
pub data Note : Type 0 where
  asks : RequestNote → Note
  says : ℤ → ReplyContent → Note
  goodbye : Note
  broken : Note

-- the note of a request that an end's lines show
abbrev pub request_note : Side → told.Request → RequestNote
request_note side r = record { seq = r.seq; transaction = r.transaction; sync = r.sync; wants = r.wants; route = r.route; number = r.number; made = if r.made == 0 then pos 0 else id_of side r.made; values = r.values }

-- the note of each packet that they show
abbrev pub told_note : Side → SentPacket → Note
told_note side (told.request r) = asks (request_note side r)
told_note side (told.said n content) = says n content
told_note side told.goodbye = goodbye
told_note side told.broken = broken

abbrev pub told_notes : Side → List SentPacket → List Note
told_notes side sent = map (told_note side) sent

-- the content of a reply with values, by whether its request is sync
abbrev pub values_content : Bool → Values → ReplyContent
values_content true vs = ok vs
values_content false vs = resolved vs

-- the content of a reply with a fault
abbrev pub fault_content : Bool → Reason → ReplyContent
fault_content true r = fault r
fault_content false reason.HandlerRejected = rejected
fault_content false reason.ChannelClosed = fault reason.ChannelClosed
fault_content false reason.ActorDestroyed = fault reason.ActorDestroyed
fault_content false reason.ResolverDestroyed = fault reason.ResolverDestroyed

-- the note of a request on a link
abbrev pub message_note : Schema → Message → Values → RequestNote
message_note schema m vs = record { seq = m.seq; transaction = m.transaction; sync = is_sync_number schema m.number; wants = wants_number schema m.number; route = m.route; number = m.number; made = m.made; values = vs }

-- the note of each packet on a link
abbrev pub body_note : Schema → Message → Body → Note
body_note schema m (Request vs) = asks (message_note schema m vs)
body_note schema m (Reply vs) = says m.seq (values_content (is_sync_number schema m.number) vs)
body_note schema m (Fault r) = says m.seq (fault_content (is_sync_number schema m.number) r)
body_note schema m Goodbye = goodbye

abbrev pub packet_note : Schema → Packet → Note
packet_note schema (message m) = body_note schema m m.body
packet_note schema mark = broken

abbrev pub notes : Schema → List Packet → List Note
notes schema packets = map (packet_note schema) packets

-- what the delivery of a packet shows, by the note of the packet
abbrev pub note_kind : Note → PacketKind
note_kind (asks r) = seen.Request r.seq
note_kind (says n content) = seen.Reply n
note_kind goodbye = seen.Goodbye
note_kind broken = seen.Broken

-- an element of a list
pub data In {A : Type 0} (x : A) : List A → Type 0 where
  here : {xs : List A} → In x (x ∷ xs)
  there : {y : A} {xs : List A} → In x xs → In x (y ∷ xs)
