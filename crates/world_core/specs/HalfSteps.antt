-- The own steps of a half, and the deliveries to it.
use Rattle.std.specs.Prelude.{◌≡◌, ◌<◌, nat_lt, true, false, is_some, List, [], ◌∷◌, Option, Some, None}
use Rattle.std.specs.List.{AllByRecursion, AllZip}
use Rattle.handler_script.specs.Valid.{IsValid}
use Rattle.channel_model.specs.Ends as model
use Rattle.channel_model.specs.Events.{Event}
use Rattle.channel_model.specs.Events as event
use Rattle.channel_model.specs.Fitting.{IsFitting}
use Rattle.channel_model.specs.Outputs.{Output}
use Rattle.channel_model.specs.Refusals.{packet_refusal}
use Rattle.channel_model.specs.Steps.{step}
use Rattle.end_parts.specs.declared.packet.Packet.{Packet}
use Rattle.end_parts.specs.PacketReading.{carried, packet_read}
use Rattle.channel_core.specs.declared.answers.DeliverAnswer.{DeliverAnswer}
use Rattle.channel_core.specs.declared.answers.DeliverAnswer.TheVariants as delivery
use Rattle.channel_core.specs.Delivered.{refusal_answer}
use Rattle.channel_core.specs.EndView.{IsFramed, following}
use Rattle.script_runs.specs.Allowed.{IsAllowed}
use Rattle.script_runs.specs.Dispatches.{dispatches}
use Rattle.script_runs.specs.Handlers.{IsHandlerOf}
use Rattle.script_steps.specs.NextEvent.{next_event}
use Rattle.script_steps.specs.Progress.{Progress, after_lines}
use Rattle.world_core.specs.declared.answers.StepAnswer.{StepAnswer}
use Rattle.world_core.specs.declared.answers.StepAnswer.TheVariants as answer
use Rattle.world_core.specs.HalfView.{HalfView, IsCountedBy, whats_of}
use Rattle.world_core.specs.Resolvers.{AreApart}

-- what the end of a half does next
abbrev pub next_of : HalfView → Progress → Option Event
next_of half progress = next_event half.script half.stop half.end.end progress

-- a half with another end and other counts
abbrev pub with_end_of : HalfView → HalfView → HalfView
with_end_of before after = record before { end = after.end; counts = after.counts }

-- A half has made the step of an event, where the link toward it carries these packets, and counts its lines. Nothing
-- else of it changed, and each packet that it hands out has a frame.
pub record IsHalfStep (before : HalfView) (progress : Progress) (link : List model.Packet) (event : Event) (after : HalfView) : Type 0 where
  pub output : Output
  pub is_step : step before.end.schema before.end.end link event ≡ Some output
  pub is_after : after.end ≡ following before.end output
  pub framed : AllByRecursion (IsFramed before.end.schema) output.packets
  pub same : after ≡ with_end_of before after
  pub counted : IsCountedBy after (after_lines progress (whats_of output.lines))

-- The step of an event was made, or nothing changed.
abbrev pub StepGives : HalfView → Progress → Event → StepAnswer → HalfView → Type 0
StepGives before progress event answer.Did after = IsHalfStep before progress [] event after
StepGives before progress event answer.Nothing after = ⊥
StepGives before progress event (answer.Spent side) after = ⊥
StepGives before progress event answer.NoMemory after = after ≡ before

-- A half of this progress may make a step: what its end does next, if it does anything, may be tried there; what it keeps fits
-- the schema; and its handlers are as they were taken.
pub record MayGoOn (half : HalfView) (progress : Progress) : Type 0 where
  pub counted : IsCountedBy half progress
  pub few : half.end.end.sent < 268435456
  pub allowed : (event : Event) → next_of half progress ≡ Some event → IsAllowed half.end.schema half.end.end event
  pub fitting : IsFitting half.end.schema half.end.end
  pub valid : IsValid half.end.schema half.script
  pub handlers : AllZip (IsHandlerOf half.end.schema half.script half.end.end.side half.end.end) (dispatches half.end.end.stack) progress.handled
  pub apart : AreApart half.end.end

-- The next step was made; or there is no next step; or it would pass the limit; or nothing changed.
pub record IsOwnStep (before : HalfView) (progress : Progress) (after : HalfView) : Type 0 where
  pub event : Event
  pub is_next : next_of before progress ≡ Some event
  pub within : nat_lt before.counts.events before.limit ≡ true
  pub steps : IsHalfStep before progress [] event after

abbrev pub OwnGives : HalfView → Progress → StepAnswer → HalfView → Type 0
OwnGives before progress answer.Did after = IsOwnStep before progress after
OwnGives before progress answer.Nothing after = (next_of before progress ≡ None) × (after ≡ before)
OwnGives before progress (answer.Spent side) after =
    (is_some (next_of before progress) ≡ true) × (nat_lt before.counts.events before.limit ≡ false) × (side ≡ before.end.end.side) × (after ≡ before)
OwnGives before progress answer.NoMemory after = after ≡ before

-- A packet is delivered: what it carries comes first on the link.
pub record IsHalfDelivery (before : HalfView) (progress : Progress) (packet : Packet) (after : HalfView) : Type 0 where
  pub carries : model.Packet
  pub is_read : packet_read before.end.schema packet ≡ carried carries
  pub steps : IsHalfStep before progress (carries ∷ []) event.deliver after

abbrev pub DeliveryGives : HalfView → Progress → Packet → StepAnswer → HalfView → Type 0
DeliveryGives before progress packet answer.Did after = IsHalfDelivery before progress packet after
DeliveryGives before progress packet answer.Nothing after = ⊥
DeliveryGives before progress packet (answer.Spent side) after = ⊥
DeliveryGives before progress packet answer.NoMemory after = after ≡ before

-- What any packet carries is offered: it is delivered, or refused with no change.
abbrev pub OfferGives : HalfView → Progress → model.Packet → DeliverAnswer → HalfView → Type 0
OfferGives before progress packet delivery.Done after = (packet_refusal before.end.schema before.end.end packet ≡ None) × IsHalfStep before progress (packet ∷ []) event.deliver after
OfferGives before progress packet delivery.NoMemory after = after ≡ before
OfferGives before progress packet other after = (refusal_answer (packet_refusal before.end.schema before.end.end packet) ≡ other) × (after ≡ before)
