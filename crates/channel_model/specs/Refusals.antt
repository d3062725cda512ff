-- Why an end refuses the delivery of a message, whatever end has sent it.
use Rattle.std.specs.Prelude.{ℕ, ◌+◌, ◌==◌, ℤ, Bool, false, not, ◌&&◌, if◌then◌else◌, List, [], ◌∷◌, find, Option, Some, None, option_map}
use Rattle.std.specs.List.{list_any}
use Rattle.std.specs.Option.{option_map_or}
use Rattle.std.specs.Ordering.{int_eq}
use Rattle.actor_tree.specs.declared.actor.Actor.{Actor}
use Rattle.actor_tree.specs.Tree.{actor_of}
use Rattle.ipdl_base.specs.Signatures.{returns_of_row}
use Rattle.ipdl_base.specs.declared.message.Body.{Body}
use Rattle.ipdl_base.specs.declared.message.Body.TheVariants.{Request, Reply, Fault, Goodbye}
use Rattle.ipdl_base.specs.declared.message.Message.{Message}
use Rattle.ipdl_base.specs.declared.schema.MessageRow.{MessageRow}
use Rattle.ipdl_base.specs.declared.schema.Schema.{Schema}
use Rattle.ipdl_base.specs.Sound.{message_of}
use Rattle.nesting_core.specs.Frames.{head_of, is_unanswered}
use Rattle.channel_model.specs.Ends.{End, Packet, message, mark}
use Rattle.ipdl_base.specs.Sides.{other, sends}
use Rattle.channel_model.specs.Numbers.{seq_of, id_of, protocol_of, is_sync_row, is_constructor}
use Rattle.channel_model.specs.ValueActors.{ActorValue, actors_in_parts}

-- A request that the other side does not send; a request whose number, or a constructor whose new id, is not the
-- next; a reply that nothing waits for; an actor that lives with another protocol, by its id and the message's
-- number.
pub data DeliveryRefusal : Type 0 where
  wrong_direction : DeliveryRefusal
  wrong_number : DeliveryRefusal
  wrong_new_id : DeliveryRefusal
  stray : ℤ → DeliveryRefusal
  wrong_actor : ℤ → ℕ → DeliveryRefusal

-- the number of the other side's next request, and the id of the next actor that it constructs
abbrev pub expected_seq : End → ℤ
expected_seq e = seq_of (other e.side) (e.delivered + 1)

abbrev pub expected_id : End → ℤ
expected_id e = id_of (other e.side) (e.constructors_delivered + 1)

-- whether a request is the one that the reply answers, by its number, its message and its actor
abbrev pub is_replied_to : Message → ℤ → ℕ → ℤ → Bool
is_replied_to m seq number route = int_eq m.seq seq && ((m.number == number + 1) && int_eq m.route route)

-- whether the innermost wait without an answer waits for the reply
abbrev pub is_waited_for : End → Message → Bool
is_waited_for e m = option_map_or (λ entry. is_replied_to m (head_of entry.frame).seq entry.number entry.route) (find (λ entry. is_unanswered entry.frame) e.stack) false

-- whether a promise, settled or not, was made for the reply
abbrev pub is_promised : End → Message → Bool
is_promised e m = list_any (λ entry. is_replied_to m entry.promise.seq entry.number entry.promise.actor) e.promises

-- whether an actor of this id lives, but with another protocol
abbrev pub lives_otherwise : List Actor → ℕ → ℤ → Bool
lives_otherwise actors protocol id = option_map_or (λ a. not (a.protocol == protocol)) (actor_of id actors) false

-- the actors that a message refers to: the one that it goes to, and those of its values
abbrev pub actors_of : Schema → MessageRow → Message → Body → List ActorValue
actors_of schema row m (Request vs) = record { id = m.route; protocol = protocol_of m.number; nullable = false } ∷ actors_in_parts schema row.params vs
actors_of schema row m (Reply vs) = record { id = m.route; protocol = protocol_of m.number; nullable = false } ∷ actors_in_parts schema (returns_of_row row) vs
actors_of schema row m (Fault reason) = record { id = m.route; protocol = protocol_of m.number; nullable = false } ∷ []
actors_of schema row m Goodbye = []

-- the first actor of the message that lives with another protocol
abbrev pub actor_refusal : Schema → End → MessageRow → Message → Option DeliveryRefusal
actor_refusal schema e row m =
    option_map (λ a. wrong_actor a.id m.number) (find (λ a. lives_otherwise e.actors a.protocol a.id) (actors_of schema row m m.body))

abbrev pub request_refusal : Schema → End → Message → MessageRow → Option DeliveryRefusal
request_refusal schema e m row =
    if not (sends (other e.side) row.direction) then Some wrong_direction else
    (if not (int_eq m.seq (expected_seq e)) then Some wrong_number else
    (if is_constructor row.kind && not (int_eq m.made (expected_id e)) then Some wrong_new_id else
    actor_refusal schema e row m))

abbrev pub is_expected_reply : End → Message → MessageRow → Bool
is_expected_reply e m row = if is_sync_row row then is_waited_for e m else is_promised e m

abbrev pub reply_refusal : Schema → End → Message → MessageRow → Option DeliveryRefusal
reply_refusal schema e m row = if is_expected_reply e m row then actor_refusal schema e row m else Some (stray m.seq)

abbrev pub body_refusal : Schema → End → Message → Body → MessageRow → Option DeliveryRefusal
body_refusal schema e m (Request vs) row = request_refusal schema e m row
body_refusal schema e m (Reply vs) row = reply_refusal schema e m row
body_refusal schema e m (Fault reason) row = reply_refusal schema e m row
body_refusal schema e m Goodbye row = None

-- why a message that fits the schema is refused: the first cause that applies
abbrev pub delivery_refusal : Schema → End → Message → Option DeliveryRefusal
delivery_refusal schema e m = option_map_or (body_refusal schema e m m.body) (message_of schema m.number) None

-- a mark is never refused
abbrev pub packet_refusal : Schema → End → Packet → Option DeliveryRefusal
packet_refusal schema e (message m) = delivery_refusal schema e m
packet_refusal schema e mark = None
