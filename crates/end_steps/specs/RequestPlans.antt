-- What becomes of a request that is taken.
use Rattle.std.specs.Prelude.{◌≡◌, ℤ, Bool, true, List, Option, Some, None}
use Rattle.actor_tree.specs.declared.actor.Actor.{Actor}
use Rattle.ipdl_base.specs.declared.message.Body.TheVariants.{Request}
use Rattle.ipdl_base.specs.declared.message.Message.{Message}
use Rattle.ipdl_base.specs.declared.schema.MessageRow.{MessageRow}
use Rattle.ipdl_base.specs.declared.schema.Schema.{Schema}
use Rattle.ipdl_base.specs.declared.value.Values.{Values}
use Rattle.ipdl_base.specs.Plain.{plain_message, plain_values}
use Rattle.ipdl_base.specs.Sound.{message_of}
use Rattle.pending_queue.specs.declared.item.Item.{Item}
use Rattle.pending_queue.specs.declared.item.Item.TheVariants as item
use Rattle.pending_queue.specs.Compression.{is_request}
use Rattle.value_types.specs.Fits.{Fits}
use Rattle.channel_model.specs.ValueActors.{nulled}
use Rattle.end_steps.specs.declared.answer_packet.AnswerPacket.{AnswerPacket}
use Rattle.end_steps.specs.declared.request_plan.RequestPlan.{RequestPlan}
use Rattle.end_steps.specs.declared.request_plan.RequestPlan.TheVariants as plan
use Rattle.end_steps.specs.AnswerPackets.{answer_in, owed_if, IsAnswering, IsPacketFor}
use Rattle.end_steps.specs.BuiltActors.{built_by}
use Rattle.end_parts.specs.CopiedAnswers.{IsCopyOf}
use Rattle.end_steps.specs.TakenItems.{dropped_for_by, owed_by_drop}

-- A request of a message is dropped for an actor, with the answer that it is owed.
pub record IsDrop (schema : Schema) (is_open : Bool) (actors : List Actor) (m : Message) (id : ℤ) (packet : Option AnswerPacket) : Type 0 where
  pub row : MessageRow
  pub given : Values
  pub found : message_of schema m.number ≡ Some row
  pub body : m.body ≡ Request given
  pub dropped : dropped_for_by schema actors row m given ≡ Some id
  pub answer : IsPacketFor schema (owed_if is_open (owed_by_drop row m)) packet

-- A request of a message is handled: these are its values with nulls, and this is the actor that it builds.
pub record IsHandled (schema : Schema) (actors : List Actor) (m : Message) (shown : Values) (built : Option Actor) : Type 0 where
  pub row : MessageRow
  pub given : Values
  pub found : message_of schema m.number ≡ Some row
  pub body : m.body ≡ Request given
  pub stays : dropped_for_by schema actors row m given ≡ None
  pub nulls : shown ≡ nulled schema actors row.params given
  pub builds : built ≡ built_by row.kind m.made m.route

-- what becomes of a request
abbrev pub IsPlan : Schema → Bool → List Actor → Message → RequestPlan → Type 0
IsPlan schema is_open actors m (plan.Drop id packet) = IsDrop schema is_open actors m id packet
IsPlan schema is_open actors m (plan.Handle shown built) = IsHandled schema actors m (plain_values shown) built

-- an item is a message
abbrev pub IsMessage : Option Item → Type 0
IsMessage None = ⊥
IsMessage (Some item.Broken) = ⊥
IsMessage (Some (item.Message m sync level)) = Unit {0}

-- this is its message
abbrev pub IsTakenMessage : Option Item → Message → Type 0
IsTakenMessage None taken = ⊥
IsTakenMessage (Some item.Broken) taken = ⊥
IsTakenMessage (Some (item.Message m sync level)) taken = taken ≡ m

-- a request that fits the schema
abbrev pub IsFittingRequest : Schema → Option Item → Type 0
IsFittingRequest schema None = ⊥
IsFittingRequest schema (Some item.Broken) = ⊥
IsFittingRequest schema (Some (item.Message m sync level)) = Fits schema m × (is_request m.body ≡ true)

-- what becomes of the request that an item is
abbrev pub IsPlanOf : Schema → Bool → List Actor → Option Item → RequestPlan → Type 0
IsPlanOf schema is_open actors None plan = ⊥
IsPlanOf schema is_open actors (Some item.Broken) plan = ⊥
IsPlanOf schema is_open actors (Some (item.Message m sync level)) plan = IsPlan schema is_open actors (plain_message m) plan

-- an item is a reply
abbrev pub IsReplyItem : Option Item → Type 0
IsReplyItem None = ⊥
IsReplyItem (Some item.Broken) = ⊥
IsReplyItem (Some (item.Message m sync level)) = IsAnswering m.body

-- these are its values a second time
abbrev pub IsCopyOfItem : Option Item → Option Values → Type 0
IsCopyOfItem None copy = ⊥
IsCopyOfItem (Some item.Broken) copy = ⊥
IsCopyOfItem (Some (item.Message m sync level)) copy = IsCopyOf (answer_in m.body) copy
