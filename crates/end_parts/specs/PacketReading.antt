-- What a packet is, for any bytes.
use Rattle.std.specs.Prelude.{◌≡◌, ℕ, ◌==◌, if◌then◌else◌, length}
use Rattle.ipdl_base.specs.declared.finding.TheConstants.Rule as rules
use Rattle.ipdl_base.specs.declared.schema.Schema.{Schema}
use Rattle.ipdl_base.specs.Plain.{plain_message}
use Rattle.value_types.specs.declared.layout.TheConstants.{NEW}
use Rattle.value_types.specs.Fits.{Fits}
use Rattle.value_codec.specs.declared.decoding.DecodeResult.{DecodeResult}
use Rattle.value_codec.specs.declared.decoding.DecodeResult.TheVariants as decoded
use Rattle.value_codec.specs.Decoding.{begins}
use Rattle.channel_model.specs.Ends as model
use Rattle.end_parts.specs.declared.packet.Packet.{Packet}
use Rattle.end_parts.specs.declared.packet.Packet.TheVariants.{Bytes, Broken}
use Rattle.end_parts.specs.declared.packet_reading.PacketReading.{PacketReading}
use Rattle.end_parts.specs.declared.packet_reading.PacketReading.TheVariants as reading

-- What a packet is: what a link carries, or the offset and the rule of the first fault in its bytes.
pub data PacketContent : Type 0 where
  carried : model.Packet → PacketContent
  faulty : ℕ → ℕ → PacketContent

-- what that many bytes are that begin so: they must be one whole frame, and no byte more
abbrev pub content_decoded : ℕ → DecodeResult → PacketContent
content_decoded size (decoded.Frame m n) = if n == size then carried (model.message m) else faulty n rules.NOT_ONE_FRAME.number
content_decoded size (decoded.Short n) = faulty size rules.NOT_ONE_FRAME.number
content_decoded size (decoded.Bad offset rule) = faulty offset rule
content_decoded size decoded.NoMemory = faulty 0 rules.NOT_ONE_FRAME.number

-- what a packet is
unfoldable pub packet_read : Schema → Packet → PacketContent
packet_read schema (Bytes bytes) = content_decoded (length bytes) (begins NEW schema bytes)
packet_read schema Broken = carried model.mark

-- a packet that is that is read so, unless memory runs out; a message fits the schema
abbrev pub IsReading : Schema → PacketContent → PacketReading → Type 0
IsReading schema content (reading.Message m) = (content ≡ carried (model.message (plain_message m))) × Fits schema m
IsReading schema content reading.Mark = content ≡ carried model.mark
IsReading schema content (reading.Bad offset rule) = content ≡ faulty offset rule
IsReading schema content reading.NoMemory = Unit {0}
