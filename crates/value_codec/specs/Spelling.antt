-- The one spelling of each value and of each message, as bytes, in a frame of a layout.
use Rattle.std.specs.Prelude.{◌≡◌, ℕ, suc, ◌+◌, ◌*◌, ◌^◌, ◌≤◌, nat_lt, ℤ, if◌then◌else◌, Bool, true, false, List, [], ◌∷◌, ◌++◌, length, replicate, Option, unwrap_or}
use Rattle.std.specs.Int.{w32, w128, cast_unsigned}
use Rattle.std.specs.Option.{option_map_or}
use Rattle.byteorder.specs.Endian.{little_bytes}
use Rattle.ipdl_base.specs.declared.kinds.Compress.{Compress}
use Rattle.ipdl_base.specs.declared.kinds.Compress.TheVariants as compress
use Rattle.ipdl_base.specs.declared.kinds.Reason.{Reason}
use Rattle.ipdl_base.specs.declared.kinds.Reason.TheVariants as reason
use Rattle.ipdl_base.specs.declared.message.Body.{Body}
use Rattle.ipdl_base.specs.declared.message.Body.TheVariants as body
use Rattle.ipdl_base.specs.declared.message.Message.{Message}
use Rattle.ipdl_base.specs.declared.schema.Kind.{Kind}
use Rattle.ipdl_base.specs.declared.schema.Kind.TheVariants as kind
use Rattle.ipdl_base.specs.declared.schema.MessageRow.{MessageRow}
use Rattle.ipdl_base.specs.declared.schema.ParamRow.{ParamRow}
use Rattle.ipdl_base.specs.declared.schema.Schema.{Schema}
use Rattle.ipdl_base.specs.declared.schema.Shape.{Shape}
use Rattle.ipdl_base.specs.declared.value.Value.{Value, Union', Maybe', Held-Value-Maybe-0, None', Some'}
use Rattle.ipdl_base.specs.declared.value.Value.TheVariants as value
use Rattle.ipdl_base.specs.declared.value.Values.{Values, First'}
use Rattle.ipdl_base.specs.declared.value.Values.TheVariants as values
use Rattle.ipdl_base.specs.Deferral.{rank}
use Rattle.ipdl_base.specs.Sound.{is_sync, message_of}
use Rattle.value_types.specs.declared.layout.Layout.{Layout}
use Rattle.value_types.specs.declared.layout.TheConstants.{MARK}
use Rattle.value_types.specs.Fits.{Fits}
use Rattle.value_types.specs.Shapes.{builtin_of, element_of, held_by, fields_of, component_of}
use Rattle.value_types.specs.Sizes.{padding, number_bytes, payload_size}

-- bytes, and the zeros after them
abbrev pub part : Layout → List ℕ → List ℕ
part layout bytes = bytes ++ replicate (padding layout (length bytes)) 0

-- a number in four bytes, and a signed number
abbrev pub word : ℕ → List ℕ
word n = little_bytes 4 n

abbrev pub signed_word : ℤ → List ℕ
signed_word z = little_bytes 4 (cast_unsigned w32 z)

abbrev pub truth_byte : Bool → ℕ
truth_byte false = 0
truth_byte true = 1

-- the byte before the fields of a struct
abbrev pub struct_byte : ℕ
struct_byte = 0x53

-- the number of bytes of a number of the type
abbrev pub width : Shape → ℕ
width shape = option_map_or number_bytes (builtin_of shape) 0

-- a text or bytes, after their length
abbrev pub counted : Layout → List ℕ → List ℕ
counted layout bytes = part layout (word (length bytes) ++ bytes)

-- The index of a component. An index that does not fit in four bytes is spelled by numbers that are not bytes.
abbrev pub index_bytes : ℕ → List ℕ
index_bytes index = if nat_lt index (2 ^ 32) then word index else replicate 4 index

abbrev pub count : Values → ℕ
count values.Nothing = 0
count (First' _ v _ vs) = suc (count vs)

-- A value of a type. A part of the value for which the type has none takes no bytes.
abbrev mutual
  pub value_bytes : Layout → Schema → Shape → Value → List ℕ
  value_bytes layout schema shape (value.Bool b) = part layout (truth_byte b ∷ [])
  value_bytes layout schema shape (value.Int n) = part layout (little_bytes (width shape) (cast_unsigned w128 n))
  value_bytes layout schema shape (value.Text text) = counted layout text
  value_bytes layout schema shape (value.Bytes bytes) = counted layout bytes
  value_bytes layout schema shape (value.Bits bits) = part layout (little_bytes (width shape) bits)
  value_bytes layout schema shape (value.Struct vs) = part layout (struct_byte ∷ []) ++ values_bytes layout schema (unwrap_or (fields_of schema shape) []) vs
  value_bytes layout schema shape (Union' index _ v) = index_bytes index ++ option_map_or (λ component. value_bytes layout schema component v) (component_of schema shape index) []
  value_bytes layout schema shape (value.Array vs) = word (count vs) ++ option_map_or (λ element. elements_bytes layout schema element vs) (element_of shape) []
  value_bytes layout schema shape (Maybe' held) = held_bytes layout schema (held_by shape) held
  value_bytes layout schema shape (value.Actor id) = signed_word id

  -- a maybe: 0, or 1 and the value in it
  pub held_bytes : Layout → Schema → Option Shape → Held-Value-Maybe-0 → List ℕ
  held_bytes layout schema inner None' = part layout (0 ∷ [])
  held_bytes layout schema inner (Some' _ v) = part layout (1 ∷ []) ++ option_map_or (λ shape. value_bytes layout schema shape v) inner []

  -- values of one type
  pub elements_bytes : Layout → Schema → Shape → Values → List ℕ
  elements_bytes layout schema shape values.Nothing = []
  elements_bytes layout schema shape (First' _ v _ vs) = value_bytes layout schema shape v ++ elements_bytes layout schema shape vs

  -- values of the types of fields or parameters
  pub values_bytes : Layout → Schema → List ParamRow → Values → List ℕ
  values_bytes layout schema [] vs = []
  values_bytes layout schema (field ∷ fields) values.Nothing = []
  values_bytes layout schema (field ∷ fields) (First' _ v _ vs) = value_bytes layout schema field.shape v ++ values_bytes layout schema fields vs

-- the byte of a fault; `ChannelClosed` is in no frame
abbrev pub reason_byte : Reason → ℕ
reason_byte reason.ChannelClosed = 0
reason_byte reason.HandlerRejected = 3
reason_byte reason.ActorDestroyed = 4
reason_byte reason.ResolverDestroyed = 5

-- the id of the actor that a constructor makes, before its values
abbrev pub made_bytes : Kind → ℤ → List ℕ
made_bytes kind.Normal made = []
made_bytes (kind.Constructor p) made = signed_word made
made_bytes kind.Delete made = []

abbrev pub request_bytes : Layout → Schema → ℤ → Values → MessageRow → List ℕ
request_bytes layout schema made vs row = made_bytes row.kind made ++ values_bytes layout schema row.params vs

abbrev pub reply_bytes : Layout → Schema → Values → MessageRow → List ℕ
reply_bytes layout schema vs row = values_bytes layout schema (unwrap_or row.returns []) vs

-- what a message carries, by the row of its number
abbrev pub body_bytes : Layout → Schema → Option MessageRow → ℤ → Body → List ℕ
body_bytes layout schema row made (body.Request vs) = option_map_or (request_bytes layout schema made vs) row []
body_bytes layout schema row made (body.Reply vs) = option_map_or (reply_bytes layout schema vs) row []
body_bytes layout schema row made (body.Fault reason) = part layout (reason_byte reason ∷ [])
body_bytes layout schema row made body.Goodbye = []

abbrev pub payload_bytes : Layout → Schema → Message → List ℕ
payload_bytes layout schema message = body_bytes layout schema (message_of schema message.number) message.made message.body

-- The flags: 1 for a sync message, 2 times its level, 8 for a reply, 16 for a fault, 32 and 64 for the two ways to
-- compress.
abbrev pub sync_flag : MessageRow → ℕ
sync_flag row = truth_byte (is_sync row.semantics)

abbrev pub compress_flag : Compress → ℕ
compress_flag compress.Plain = 0
compress_flag compress.Last = 32
compress_flag compress.All = 64

abbrev pub request_flags : MessageRow → ℕ
request_flags row = sync_flag row + 2 * rank row.level + compress_flag row.compress

abbrev pub reply_flags : MessageRow → ℕ
reply_flags row = sync_flag row + 8

abbrev pub fault_flags : MessageRow → ℕ
fault_flags row = sync_flag row + 24

abbrev pub body_flags : Option MessageRow → Body → ℕ
body_flags row (body.Request vs) = option_map_or request_flags row 0
body_flags row (body.Reply vs) = option_map_or reply_flags row 0
body_flags row (body.Fault reason) = option_map_or fault_flags row 0
body_flags row body.Goodbye = 0

-- the mark before a frame
abbrev pub mark_of : Layout → List ℕ
mark_of layout = if layout.marked then MARK else []

-- the six fields, each of four bytes
abbrev pub address_bytes : ℕ → ℤ → ℕ → List ℕ
address_bytes size route number = word size ++ signed_word route ++ word number

abbrev pub order_bytes : ℕ → ℤ → ℤ → List ℕ
order_bytes flags seq transaction = word flags ++ signed_word seq ++ signed_word transaction

abbrev pub fields_bytes : ℕ → ℤ → ℕ → ℕ → ℤ → ℤ → List ℕ
fields_bytes size route number flags seq transaction = address_bytes size route number ++ order_bytes flags seq transaction

abbrev pub header_bytes : Layout → ℕ → ℤ → ℕ → ℕ → ℤ → ℤ → List ℕ
header_bytes layout size route number flags seq transaction = mark_of layout ++ fields_bytes size route number flags seq transaction

-- the header of a message, before its payload
abbrev pub message_header : Layout → Schema → Message → List ℕ
message_header layout schema message =
    header_bytes layout (length (payload_bytes layout schema message)) message.route message.number (body_flags (message_of schema message.number) message.body) message.seq message.transaction

abbrev pub frame_bytes : Layout → Schema → Message → List ℕ
frame_bytes layout schema message = message_header layout schema message ++ payload_bytes layout schema message

-- The bytes are the frame of a message that fits the schema and that the layout has room for.
pub record FrameOf (layout : Layout) (schema : Schema) (message : Message) (bytes : List ℕ) : Type 0 where
  pub fits : Fits schema message
  pub small : payload_size layout schema message ≤ layout.most_payload
  pub spelled : bytes ≡ frame_bytes layout schema message
