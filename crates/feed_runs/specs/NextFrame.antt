-- What bytes are to an end that reads them: a frame that it takes, or a packet that it does not take, with a fault.
use Rattle.std.specs.Prelude.{ℕ, ◌+◌, List, drop}
use Rattle.std.specs.Option.{option_map_or}
use Rattle.ipdl_base.specs.declared.finding.TheConstants.Rule as rule
use Rattle.ipdl_base.specs.declared.message.Message.{Message}
use Rattle.ipdl_base.specs.declared.schema.Schema.{Schema}
use Rattle.value_types.specs.declared.layout.TheConstants.{NEW}
use Rattle.value_codec.specs.declared.decoding.DecodeResult.{DecodeResult}
use Rattle.value_codec.specs.declared.decoding.DecodeResult.TheVariants as decoded
use Rattle.value_codec.specs.Decoding.{begins}
use Rattle.channel_model.specs.Ends.{End, Packet, message, mark}
use Rattle.channel_model.specs.Refusals.{DeliveryRefusal, wrong_direction, wrong_number, wrong_new_id, stray, wrong_actor, delivery_refusal}
use Rattle.feed_runs.specs.declared.fault.FeedFault.{FeedFault}
use Rattle.feed_runs.specs.declared.fault.FeedFault.TheVariants as fault

-- A message that the end takes, with the size of its frame; or the packet that comes in place of one, with the fault: a
-- message that the end refuses, or the mark where the bytes begin with no frame.
pub data NextFrame : Type 0 where
  taken : Message → ℕ → NextFrame
  refused : Packet → FeedFault → NextFrame

-- the fault of a frame at a place that the end refuses: where the refusal is of a field, the place of that
abbrev pub fault_of : ℕ → DeliveryRefusal → FeedFault
fault_of place wrong_direction = fault.Bad (place + 12) rule.UNSENT_REQUEST.number
fault_of place wrong_number = fault.Bad (place + 20) rule.WRONG_NUMBER.number
fault_of place wrong_new_id = fault.Bad (place + 28) rule.WRONG_ID.number
fault_of place (stray seq) = fault.Stray place seq
fault_of place (wrong_actor id number) = fault.WrongActor place id

-- what a message is to an end, whose frame has this size and is at a place
abbrev pub message_at : Schema → End → ℕ → Message → ℕ → NextFrame
message_at schema e place m size = option_map_or (λ refusal. refused (message m) (fault_of place refusal)) (delivery_refusal schema e m) (taken m size)

-- what is at a place, by what the bytes from there on begin with
abbrev pub frame_at : Schema → End → ℕ → DecodeResult → NextFrame
frame_at schema e place (decoded.Frame m size) = message_at schema e place m size
frame_at schema e place (decoded.Short missing) = refused mark (fault.Short place missing)
frame_at schema e place (decoded.Bad offset rule) = refused mark (fault.Bad (place + offset) rule)
frame_at schema e place decoded.NoMemory = refused mark (fault.Short place 0)

-- what is at a place of bytes
abbrev pub next_frame : Schema → End → ℕ → List ℕ → NextFrame
next_frame schema e place bytes = frame_at schema e place (begins NEW schema (drop place bytes))
