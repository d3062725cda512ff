-- The actors that values refer to: which of them live, and what replaces those that do not.
use Rattle.std.specs.Prelude.{ℕ, ◌==◌, ℤ, pos, Bool, true, false, not, ◌&&◌, if◌then◌else◌, List, [], ◌∷◌, ◌++◌, find, Option, is_some, option_map, unwrap_or}
use Rattle.std.specs.List.{list_any}
use Rattle.std.specs.Option.{option_map_or}
use Rattle.std.specs.Ordering.{int_eq}
use Rattle.actor_tree.specs.declared.actor.Actor.{Actor as LivingActor}
use Rattle.actor_tree.specs.Tree.{actor_of}
use Rattle.ipdl_base.specs.Signatures.{returns_of_row}
use Rattle.ipdl_base.specs.declared.kinds.Reason.TheVariants.{ActorDestroyed}
use Rattle.ipdl_base.specs.declared.schema.MessageRow.{MessageRow}
use Rattle.ipdl_base.specs.declared.schema.ParamRow.{ParamRow}
use Rattle.ipdl_base.specs.declared.schema.Schema.{Schema}
use Rattle.ipdl_base.specs.declared.schema.Shape.{Shape, Actor}
use Rattle.ipdl_base.specs.declared.value.Value.{Value, Union', Maybe', Held-Value-Maybe-0, None', Some'}
use Rattle.ipdl_base.specs.declared.value.Value.TheVariants as value
use Rattle.ipdl_base.specs.declared.value.Values.{Values, First'}
use Rattle.ipdl_base.specs.declared.value.Values.TheVariants as values
use Rattle.nesting_core.specs.declared.frame.Answer.{Answer}
use Rattle.nesting_core.specs.declared.frame.Answer.TheVariants as answer
use Rattle.value_types.specs.Shapes.{element_of, held_by, fields_of, component_of}

-- An actor in a value: its id, the protocol of its type, and whether that type is nullable.
pub record ActorValue : Type 0 where
  pub id : ℤ
  pub protocol : ℕ
  pub nullable : Bool

abbrev pub actor_at : Shape → ℤ → List ActorValue
actor_at (Actor protocol nullable) id = record { id = id; protocol = protocol; nullable = nullable } ∷ []
actor_at _ id = []

-- The actors in a value of a type, in their order in the value. A value that is not of its type is skipped.
abbrev mutual
  pub actors_in : Schema → Shape → Value → List ActorValue
  actors_in schema shape (value.Bool b) = []
  actors_in schema shape (value.Int n) = []
  actors_in schema shape (value.Text text) = []
  actors_in schema shape (value.Bytes bytes) = []
  actors_in schema shape (value.Bits bits) = []
  actors_in schema shape (value.Struct vs) = actors_in_parts schema (unwrap_or (fields_of schema shape) []) vs
  actors_in schema shape (Union' index _ v) = option_map_or (λ component. actors_in schema component v) (component_of schema shape index) []
  actors_in schema shape (value.Array vs) = option_map_or (λ element. actors_in_all schema element vs) (element_of shape) []
  actors_in schema shape (Maybe' held) = option_map_or (λ inner. actors_held schema inner held) (held_by shape) []
  actors_in schema shape (value.Actor id) = actor_at shape id

  pub actors_held : Schema → Shape → Held-Value-Maybe-0 → List ActorValue
  actors_held schema shape None' = []
  actors_held schema shape (Some' _ v) = actors_in schema shape v

  -- of values of one type
  pub actors_in_all : Schema → Shape → Values → List ActorValue
  actors_in_all schema shape values.Nothing = []
  actors_in_all schema shape (First' _ v _ vs) = actors_in schema shape v ++ actors_in_all schema shape vs

  -- of values of the types of fields or parameters
  pub actors_in_parts : Schema → List ParamRow → Values → List ActorValue
  actors_in_parts schema [] vs = []
  actors_in_parts schema (field ∷ fields) values.Nothing = []
  actors_in_parts schema (field ∷ fields) (First' _ v _ vs) = actors_in schema field.shape v ++ actors_in_parts schema fields vs

-- whether an actor of this id lives, and has this protocol
abbrev pub lives_as : List LivingActor → ℕ → ℤ → Bool
lives_as actors protocol id = option_map_or (λ a. a.protocol == protocol) (actor_of id actors) false

-- whether an actor in a value does not live as one of its protocol
abbrev pub is_dead : List LivingActor → ActorValue → Bool
is_dead actors a = not (lives_as actors a.protocol a.id)

-- the first dead actor of a type that is not nullable
abbrev pub missing : Schema → List LivingActor → List ParamRow → Values → Option ℤ
missing schema actors types vs = option_map (λ a. a.id) (find (λ a. not a.nullable && is_dead actors a) (actors_in_parts schema types vs))

-- whether some actor that is not null is dead
abbrev pub has_dead : Schema → List LivingActor → List ParamRow → Values → Bool
has_dead schema actors types vs = list_any (λ a. not (int_eq a.id (pos 0)) && is_dead actors a) (actors_in_parts schema types vs)

-- the id that is received for an id of a type: null for a dead actor of a nullable type
abbrev pub received_id : List LivingActor → Shape → ℤ → ℤ
received_id actors (Actor protocol true) id = if lives_as actors protocol id then id else pos 0
received_id actors _ id = id

-- A value of a type with null in the place of each dead actor of a nullable type. A value that is not of its type
-- stays.
abbrev mutual
  pub nulled_value : Schema → List LivingActor → Shape → Value → Value
  nulled_value schema actors shape (value.Bool b) = value.Bool b
  nulled_value schema actors shape (value.Int n) = value.Int n
  nulled_value schema actors shape (value.Text text) = value.Text text
  nulled_value schema actors shape (value.Bytes bytes) = value.Bytes bytes
  nulled_value schema actors shape (value.Bits bits) = value.Bits bits
  nulled_value schema actors shape (value.Struct vs) = value.Struct (nulled schema actors (unwrap_or (fields_of schema shape) []) vs)
  nulled_value schema actors shape (Union' index at v) = Union' index at (option_map_or (λ component. nulled_value schema actors component v) (component_of schema shape index) v)
  nulled_value schema actors shape (value.Array vs) = value.Array (option_map_or (λ element. nulled_all schema actors element vs) (element_of shape) vs)
  nulled_value schema actors shape (Maybe' held) = Maybe' (option_map_or (λ inner. nulled_held schema actors inner held) (held_by shape) held)
  nulled_value schema actors shape (value.Actor id) = value.Actor (received_id actors shape id)

  pub nulled_held : Schema → List LivingActor → Shape → Held-Value-Maybe-0 → Held-Value-Maybe-0
  nulled_held schema actors shape None' = None'
  nulled_held schema actors shape (Some' at v) = Some' at (nulled_value schema actors shape v)

  -- values of one type
  pub nulled_all : Schema → List LivingActor → Shape → Values → Values
  nulled_all schema actors shape values.Nothing = values.Nothing
  nulled_all schema actors shape (First' at v rest_at vs) = First' at (nulled_value schema actors shape v) rest_at (nulled_all schema actors shape vs)

  -- values of the types of fields or parameters
  pub nulled : Schema → List LivingActor → List ParamRow → Values → Values
  nulled schema actors [] vs = vs
  nulled schema actors (field ∷ fields) values.Nothing = values.Nothing
  nulled schema actors (field ∷ fields) (First' at v rest_at vs) = First' at (nulled_value schema actors field.shape v) rest_at (nulled schema actors fields vs)

-- What the sender of a request receives as its answer. A fault stays. Values become the fault `ActorDestroyed` where
-- a dead actor among them has a type that is not nullable; otherwise null takes the place of the other dead actors.
abbrev pub received : Schema → List LivingActor → MessageRow → Answer → Answer
received schema actors row (answer.Fault reason) = answer.Fault reason
received schema actors row (answer.Ok vs) =
    if is_some (missing schema actors (returns_of_row row) vs) then answer.Fault ActorDestroyed
    else answer.Ok (nulled schema actors (returns_of_row row) vs)
