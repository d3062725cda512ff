-- Reading a frame, header and payload, up to the first fault.
use Rattle.std.specs.Prelude.{ℕ, ◌+◌, ◌==◌, ◌||◌, not, nat_lt, int_lt, ℤ, pos, Bool, true, false, if◌then◌else◌, List, [], ◌∷◌, length, drop, Option, Some, None, unwrap_or, Result, Ok, Err}
use Rattle.std.specs.Int.{w32, cast_signed}
use Rattle.std.specs.Ordering.{int_eq}
use Rattle.byteorder.specs.Endian.{little_number}
use Rattle.ipdl_base.specs.declared.finding.TheConstants.Rule as rule
use Rattle.ipdl_base.specs.declared.kinds.Reason.{Reason}
use Rattle.ipdl_base.specs.declared.kinds.Reason.TheVariants.{HandlerRejected, ActorDestroyed, ResolverDestroyed}
use Rattle.ipdl_base.specs.declared.kinds.Semantics.{Semantics}
use Rattle.ipdl_base.specs.declared.kinds.Semantics.TheVariants.{Async, Sync}
use Rattle.ipdl_base.specs.declared.message.Body.{Body}
use Rattle.ipdl_base.specs.declared.message.Body.TheVariants as body
use Rattle.ipdl_base.specs.declared.schema.Kind.{Kind}
use Rattle.ipdl_base.specs.declared.schema.Kind.TheVariants as kind
use Rattle.ipdl_base.specs.declared.schema.MessageRow.{MessageRow}
use Rattle.ipdl_base.specs.declared.schema.Schema.{Schema}
use Rattle.ipdl_base.specs.Sound.{message_of}
use Rattle.ipdl_base.specs.Sides.{goodbye_number}
use Rattle.value_types.specs.declared.layout.Layout.{Layout}
use Rattle.value_types.specs.declared.layout.TheConstants.{MARK}
use Rattle.value_types.specs.Sizes.{padding}
use Rattle.value_codec.specs.declared.fault.Fault.{Fault}
use Rattle.value_codec.specs.declared.header.Header.{Header}
use Rattle.value_codec.specs.declared.header.FrameType.{FrameType as FrameTypeRead}
use Rattle.value_codec.specs.declared.header.FrameType.TheVariants as read
use Rattle.value_codec.specs.Reading.{◌>>=◌, at, short, zeros, id_at, Inside, values_at, value_at}
use Rattle.value_codec.specs.Spelling.{mark_of, request_flags, reply_flags, fault_flags}

-- the number of bytes before the payload
abbrev pub header_size : Layout → ℕ
header_size layout = length (mark_of layout) + 24

-- the six fields after the mark
abbrev pub header_in : List ℕ → Header
header_in bytes = record {
  size = little_number 4 bytes;
  route = cast_signed w32 (little_number 4 (drop 4 bytes));
  number = little_number 4 (drop 8 bytes);
  flags = little_number 4 (drop 12 bytes);
  seq = cast_signed w32 (little_number 4 (drop 16 bytes));
  transaction = cast_signed w32 (little_number 4 (drop 20 bytes));
}

abbrev pub header_of : Layout → List ℕ → Header
header_of layout bytes = header_in (drop (length (mark_of layout)) bytes)

-- the bytes begin with the mark, if the layout has one
abbrev pub has_mark : Layout → List ℕ → Bool
has_mark layout bytes = if layout.marked then little_number 4 bytes == little_number 4 MARK else true

-- What a type names: a goodbye, or the request or the reply of a message.
pub data FrameType : Type 0 where
  goodbye : FrameType
  request : MessageRow → FrameType
  reply : MessageRow → FrameType

abbrev pub request_or_reply : ℕ → MessageRow → FrameType
request_or_reply number row = if row.number == number then request row else reply row

abbrev pub carried_type : ℕ → Option MessageRow → Option FrameType
carried_type number None = None
carried_type number (Some row) = if row.carried then Some (request_or_reply number row) else None

abbrev pub type_of : Schema → ℕ → Option FrameType
type_of schema number = if number == goodbye_number then Some goodbye else carried_type number (message_of schema number)

-- what the code knows of a type
abbrev pub seen : FrameTypeRead → FrameType
seen read.Goodbye = goodbye
seen (read.Request row) = request row.now
seen (read.Reply row) = reply row.now

-- the flags are those of the type
abbrev pub are_flags : FrameType → ℕ → Bool
are_flags goodbye flags = flags == 0
are_flags (request row) flags = flags == request_flags row
are_flags (reply row) flags = (flags == reply_flags row) || (flags == fault_flags row)

-- the type may have the route, the number of a request, and the transaction
abbrev pub is_route : FrameType → ℤ → Bool
is_route goodbye route = int_eq route (pos 0)
is_route _ route = int_lt (pos 0) route

abbrev pub is_seq : FrameType → ℤ → Bool
is_seq goodbye seq = int_eq seq (pos 0)
is_seq _ seq = not (int_eq seq (pos 0))

abbrev pub has_transaction : Semantics → ℤ → Bool
has_transaction Sync transaction = not (int_eq transaction (pos 0))
has_transaction Async transaction = int_eq transaction (pos 0)

abbrev pub is_transaction : FrameType → ℤ → Bool
is_transaction goodbye transaction = int_eq transaction (pos 0)
is_transaction (request row) transaction = has_transaction row.semantics transaction
is_transaction (reply row) transaction = has_transaction row.semantics transaction

-- The first rule that a header breaks, with its offset after the mark.
abbrev pub type_fault : Header → FrameType → Option (ℕ × ℕ)
type_fault header type =
    if not (are_flags type header.flags) then Some (12, (rule.BAD_FLAGS).number) else
    (if not (is_route type header.route) then Some (4, (rule.BAD_FIELD).number) else
    (if not (is_seq type header.seq) then Some (16, (rule.BAD_FIELD).number) else
    (if not (is_transaction type header.transaction) then Some (20, (rule.BAD_FIELD).number) else None)))

abbrev pub fault_of_type : Header → Option FrameType → Option (ℕ × ℕ)
fault_of_type header None = Some (8, (rule.UNKNOWN_FRAME_TYPE).number)
fault_of_type header (Some type) = type_fault header type

abbrev pub fields_fault : Layout → Schema → Header → Option (ℕ × ℕ)
fields_fault layout schema header = if nat_lt layout.most_payload header.size then Some (0, (rule.LARGE_PAYLOAD).number) else fault_of_type header (type_of schema header.number)

-- after a mark every offset is greater by the length of the mark
abbrev pub after_mark : Layout → Option (ℕ × ℕ) → Option (ℕ × ℕ)
after_mark layout None = None
after_mark layout (Some (offset, rule)) = Some (length (mark_of layout) + offset, rule)

-- the first rule that a whole header breaks, with its offset in the frame
abbrev pub header_fault : Layout → Schema → List ℕ → Option (ℕ × ℕ)
header_fault layout schema bytes = if has_mark layout bytes then after_mark layout (fields_fault layout schema (header_of layout bytes)) else Some (0, (rule.BAD_MARK).number)

-- Payloads

-- the content of a payload, if no bytes are left: the id of a new actor, and the body
unfoldable pub ended : ℤ → Body → List ℕ → Result (ℤ × Body) Fault
ended made body [] = Ok (made, body)
ended made body (b ∷ bytes) = Err (at rule.LONG_PAYLOAD (b ∷ bytes))

-- the id of the actor that a constructor makes; for any other message 0, which takes no bytes
unfoldable pub made_at : Kind → List ℕ → Result (ℤ × List ℕ) Fault
made_at kind.Normal bytes = Ok (pos 0, bytes)
made_at (kind.Constructor p) bytes = id_at false bytes
made_at kind.Delete bytes = Ok (pos 0, bytes)

-- the reason with this byte, which a message of the semantics may give
abbrev pub resolver_reason : Semantics → Option Reason
resolver_reason Async = Some ResolverDestroyed
resolver_reason Sync = None

abbrev pub reason_of : Semantics → ℕ → Option Reason
reason_of semantics b = if b == 3 then Some HandlerRejected else (if b == 4 then Some ActorDestroyed else (if b == 5 then resolver_reason semantics else None))

unfoldable pub reason_in : Layout → Option Reason → List ℕ → List ℕ → Result (Reason × List ℕ) Fault
reason_in layout None bytes rest = Err (at rule.BAD_VALUE bytes)
reason_in layout (Some reason) bytes rest = zeros (padding layout 1) rest >>= λ following. Ok (reason, following)

unfoldable pub reason_at : Layout → Semantics → List ℕ → Result (Reason × List ℕ) Fault
reason_at layout semantics [] = Err short
reason_at layout semantics (b ∷ bytes) = reason_in layout (reason_of semantics b) (b ∷ bytes) bytes

unfoldable pub request_at : Inside → MessageRow → List ℕ → Result (ℤ × Body) Fault
request_at inside row bytes = do
  made ← made_at row.kind bytes
  found ← values_at inside row.params made.1
  ended made.0 (body.Request found.0) found.1

unfoldable pub returns_at : Inside → MessageRow → List ℕ → Result (ℤ × Body) Fault
returns_at inside row bytes = do
  found ← values_at inside (unwrap_or row.returns []) bytes
  ended (pos 0) (body.Reply found.0) found.1

unfoldable pub fault_at : Layout → MessageRow → List ℕ → Result (ℤ × Body) Fault
fault_at layout row bytes = do
  reason ← reason_at layout row.semantics bytes
  ended (pos 0) (body.Fault reason.0) reason.1

-- the content of the payload of a frame with these flags: the id of a new actor, and the body
abbrev pub contents_by : Inside → Layout → FrameType → ℕ → List ℕ → Result (ℤ × Body) Fault
contents_by inside layout goodbye flags bytes = ended (pos 0) body.Goodbye bytes
contents_by inside layout (request row) flags bytes = request_at inside row bytes
contents_by inside layout (reply row) flags bytes = if flags == reply_flags row then returns_at inside row bytes else fault_at layout row bytes

abbrev pub contents_at : Layout → Schema → FrameType → ℕ → List ℕ → Result (ℤ × Body) Fault
contents_at layout schema type flags bytes = contents_by (value_at (length bytes + 1) layout schema) layout type flags bytes
