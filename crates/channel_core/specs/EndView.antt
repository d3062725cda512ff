-- What contracts see of an end.
use Rattle.std.specs.Prelude.{◌≡◌, ℕ, List, [], ◌++◌, map}
use Rattle.ipdl_base.specs.declared.kinds.Side.{Side}
use Rattle.ipdl_base.specs.declared.line.Line.{Line}
use Rattle.ipdl_base.specs.declared.message.Message.{Message}
use Rattle.ipdl_base.specs.declared.schema.Schema.{Schema}
use Rattle.ipdl_base.specs.Plain.{plain_message}
use Rattle.value_types.specs.declared.layout.TheConstants.{NEW}
use Rattle.value_codec.specs.Spelling.{FrameOf, frame_bytes}
use Rattle.channel_model.specs.Ends.{End, opening_end}
use Rattle.channel_model.specs.Ends as model
use Rattle.channel_model.specs.Outputs.{Output}
use Rattle.end_parts.specs.declared.packet.Packet.{Packet}
use Rattle.end_parts.specs.declared.packet.Packet.TheVariants.{Bytes, Broken}

-- The end of the model, its schema, its lines that were not drained and its packets that were not handed out, oldest
-- first. All values in it have their boxes at one place.
pub record EndView : Type 0 where
  pub end : End
  pub schema : Schema
  pub lines : List Line
  pub packets : List Packet

-- the packet that a message is: its one frame
abbrev pub frame_packet : Schema → Message → Packet
frame_packet schema m = Bytes (frame_bytes NEW schema m)

-- what a link carries, as a packet
abbrev pub packet_of : Schema → model.Packet → Packet
packet_of schema (model.message m) = frame_packet schema m
packet_of schema model.mark = Broken

abbrev pub packets_of : Schema → List model.Packet → List Packet
packets_of schema packets = map (packet_of schema) packets

-- A message has a frame: it fits the schema, and the layout has room for it. All its boxes lie at one place.
pub record HasFrame (schema : Schema) (m : Message) : Type 0 where
  pub frame : FrameOf NEW schema m (frame_bytes NEW schema m)
  pub plain : plain_message m ≡ m

-- a packet is a mark, or a message that has a frame
abbrev pub IsFramed : Schema → model.Packet → Type 0
IsFramed schema (model.message m) = HasFrame schema m
IsFramed schema model.mark = Unit {0}

-- an end as it begins
abbrev pub opened : Side → Schema → ℕ → EndView
opened side schema top = record { end = opening_end top side; schema = schema; lines = []; packets = [] }

-- an end after a step: what the step makes is last
abbrev pub following : EndView → Output → EndView
following before output = record {
  end = output.end;
  schema = before.schema;
  lines = before.lines ++ output.lines;
  packets = before.packets ++ packets_of before.schema output.packets;
}
