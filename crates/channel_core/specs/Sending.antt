-- A request that is sent.
use Rattle.std.specs.Prelude.{◌≡◌, ℕ, ◌<◌, true, List, Option, Some, None}
use Rattle.ipdl_base.specs.declared.message.Message.{Message}
use Rattle.ipdl_base.specs.declared.schema.MessageRow.{MessageRow}
use Rattle.ipdl_base.specs.declared.schema.Schema.{Schema}
use Rattle.ipdl_base.specs.declared.value.Values.{Values}
use Rattle.channel_model.specs.Numbers.{request_row}
use Rattle.channel_model.specs.Sends.{may_send, send_refusal, request_of}
use Rattle.end_parts.specs.declared.packet.Packet.TheVariants.{Bytes}
use Rattle.channel_core.specs.EndView.{EndView, frame_packet, HasFrame}

-- A request of a message may be sent with these values and this name, nothing refuses it, and it is this.
pub record IsAccepted (seen : EndView) (row : MessageRow) (m : Message) (vs : Values) (name : Option (List ℕ)) : Type 0 where
  pub found : request_row seen.schema row.number ≡ Some row
  pub may : may_send seen.schema seen.end row vs name ≡ true
  pub free : send_refusal seen.schema seen.end row m.route vs ≡ None
  pub is : m ≡ request_of seen.end row m.route vs
  pub few : seen.end.sent < 268435456

-- A request is ready: this is its frame.
pub record IsReady (schema : Schema) (m : Message) (bytes : List ℕ) : Type 0 where
  pub frame : Bytes bytes ≡ frame_packet schema m
  pub framed : HasFrame schema m
