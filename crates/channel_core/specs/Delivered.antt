-- What a delivery answers, for any bytes.
use Rattle.std.specs.Prelude.{◌≡◌, true, false, [], ◌∷◌, Option, Some, None}
use Rattle.ipdl_base.specs.declared.finding.TheConstants.Rule as rule
use Rattle.ipdl_base.specs.declared.message.Message.{Message}
use Rattle.ipdl_base.specs.declared.schema.MessageRow.{MessageRow}
use Rattle.ipdl_base.specs.declared.schema.Schema.{Schema}
use Rattle.ipdl_base.specs.Plain.{plain_message}
use Rattle.ipdl_base.specs.Sound.{message_of}
use Rattle.value_types.specs.Fits.{Fits}
use Rattle.channel_model.specs.Ends as model
use Rattle.channel_model.specs.Events as event
use Rattle.channel_model.specs.Refusals.{DeliveryRefusal, wrong_direction, wrong_number, wrong_new_id, stray, wrong_actor, delivery_refusal, packet_refusal}
use Rattle.channel_model.specs.States.{is_goodbye}
use Rattle.end_parts.specs.declared.packet.Packet.{Packet}
use Rattle.end_parts.specs.PacketReading.{PacketContent, carried, faulty, packet_read}
use Rattle.channel_core.specs.declared.answers.DeliverAnswer.{DeliverAnswer}
use Rattle.channel_core.specs.declared.answers.DeliverAnswer.TheVariants as answer
use Rattle.channel_core.specs.EndView.{EndView}
use Rattle.channel_core.specs.Steps.{IsStepBy}

-- the answer for a refusal: the offsets are those of the message's number, of its own number and of the new id
abbrev pub refusal_answer : Option DeliveryRefusal → DeliverAnswer
refusal_answer None = answer.Done
refusal_answer (Some wrong_direction) = answer.Bad 12 rule.UNSENT_REQUEST.number
refusal_answer (Some wrong_number) = answer.Bad 20 rule.WRONG_NUMBER.number
refusal_answer (Some wrong_new_id) = answer.Bad 28 rule.WRONG_ID.number
refusal_answer (Some (stray seq)) = answer.Stray seq
refusal_answer (Some (wrong_actor id number)) = answer.WrongActor id number

-- the answer to a packet, by what it is
abbrev pub answer_to : EndView → PacketContent → DeliverAnswer
answer_to seen (carried packet) = refusal_answer (packet_refusal seen.schema seen.end packet)
answer_to seen (faulty offset rule) = answer.Bad offset rule

-- the answer of a delivery, unless memory runs out
unfoldable pub delivery_answer : EndView → Packet → DeliverAnswer
delivery_answer seen packet = answer_to seen (packet_read seen.schema packet)

-- A packet is delivered: the end makes the step that delivers what the packet carries.
pub record IsDelivered (before : EndView) (packet : Packet) (after : EndView) : Type 0 where
  pub carries : model.Packet
  pub is_read : packet_read before.schema packet ≡ carried carries
  pub is_step : IsStepBy before (carries ∷ []) event.deliver after

abbrev pub DeliverGives : EndView → Packet → DeliverAnswer → EndView → Type 0
DeliverGives before packet answer.NoMemory after = after ≡ before
DeliverGives before packet answer.Done after = (delivery_answer before packet ≡ answer.Done) × IsDelivered before packet after
DeliverGives before packet other after = (delivery_answer before packet ≡ other) × (after ≡ before)

-- what a delivery gives of a packet that carries this
abbrev pub CarriedGives : EndView → model.Packet → DeliverAnswer → EndView → Type 0
CarriedGives before packet answer.NoMemory after = after ≡ before
CarriedGives before packet answer.Done after = (packet_refusal before.schema before.end packet ≡ None) × IsStepBy before (packet ∷ []) event.deliver after
CarriedGives before packet other after = (refusal_answer (packet_refusal before.schema before.end packet) ≡ other) × (after ≡ before)

-- a goodbye, or the mark
abbrev pub farewell : Option Message → model.Packet
farewell None = model.mark
farewell (Some m) = model.message (plain_message m)

-- a goodbye fits, if it is one
abbrev pub IsFarewell : Schema → Option Message → Type 0
IsFarewell schema None = Unit {0}
IsFarewell schema (Some m) = Fits schema m × (is_goodbye m.body ≡ true)

-- A message of a row, but no goodbye, may arrive at an end: it fits, and it is not refused.
pub record MayArrive (before : EndView) (row : MessageRow) (m : Message) : Type 0 where
  pub fits : Fits before.schema m
  pub found : message_of before.schema m.number ≡ Some row
  pub ordinary : is_goodbye m.body ≡ false
  pub accepted : delivery_refusal before.schema before.end (plain_message m) ≡ None
