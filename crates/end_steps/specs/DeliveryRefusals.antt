-- Why an end refuses to have a message delivered, by what decides it.
use Rattle.std.specs.Prelude.{Bool, if◌then◌else◌, List, [], find, Option, Some, option_map}
use Rattle.actor_tree.specs.declared.actor.Actor.{Actor}
use Rattle.ipdl_base.specs.declared.kinds.EndState.TheVariants.{Open}
use Rattle.ipdl_base.specs.declared.message.Message.{Message}
use Rattle.ipdl_base.specs.declared.schema.MessageRow.{MessageRow}
use Rattle.ipdl_base.specs.declared.schema.Schema.{Schema}
use Rattle.channel_model.specs.Ends.{End, StackEntry, PromiseEntry}
use Rattle.channel_model.specs.Numbers.{is_sync_row}
use Rattle.channel_model.specs.Refusals.{actors_of, lives_otherwise}
use Rattle.channel_model.specs.Refusals as model
use Rattle.end_steps.specs.declared.delivery_refusals.DeliveryRefusal.{DeliveryRefusal}
use Rattle.end_steps.specs.declared.delivery_refusals.DeliveryRefusal.TheVariants.{WrongDirection, WrongNumber, WrongNewId, Stray, WrongActor}
use Rattle.end_steps.specs.declared.delivery_refusals.Receiver.{Receiver}
use Rattle.end_parts.specs.Replies.{is_waited_for_in, is_promised_in}

-- a refusal, in the model's words
abbrev pub refusal_of : DeliveryRefusal → model.DeliveryRefusal
refusal_of WrongDirection = model.wrong_direction
refusal_of WrongNumber = model.wrong_number
refusal_of WrongNewId = model.wrong_new_id
refusal_of (Stray seq) = model.stray seq
refusal_of (WrongActor id number) = model.wrong_actor id number

-- an end, with only those of its parts that a refusal depends on
abbrev pub receiving_end : Receiver → List Actor → List StackEntry → List PromiseEntry → End
receiving_end receiver actors stack promises = record {
  side = receiver.side;
  state = Open;
  actors = actors;
  arrived = [];
  stack = stack;
  promises = promises;
  names = [];
  outbox = [];
  sent = 0;
  constructors_sent = 0;
  delivered = receiver.delivered;
  constructors_delivered = receiver.constructors_delivered;
}

-- whether a reply is one that a wait, or a promise, is for
abbrev pub is_expected_in : List StackEntry → List PromiseEntry → Message → MessageRow → Bool
is_expected_in stack promises m row = if is_sync_row row then is_waited_for_in stack m else is_promised_in promises m

-- why a message is refused for these actors
abbrev pub actor_refusal_by : Schema → List Actor → MessageRow → Message → Option model.DeliveryRefusal
actor_refusal_by schema actors row m = option_map (λ a. model.wrong_actor a.id m.number) (find (λ a. lives_otherwise actors a.protocol a.id) (actors_of schema row m m.body))

-- why a reply is refused, by whether anything waits for it
abbrev pub reply_refusal_by : Schema → List Actor → Bool → Message → MessageRow → Option model.DeliveryRefusal
reply_refusal_by schema actors is_expected m row = if is_expected then actor_refusal_by schema actors row m else Some (model.stray m.seq)
