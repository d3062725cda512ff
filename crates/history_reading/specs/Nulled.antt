-- Actors in values, by their types, and values in which dead actors are null.
use Rattle.std.specs.Prelude.{ℕ, ℤ, pos, Bool, true, false, not, ◌&&◌, ◌==◌, nat_eq, if◌then◌else◌, List, [], ◌∷◌, ◌++◌, find, Option, Some, None, is_none, option_map, option_and_then, unwrap_or}
use Rattle.std.specs.Cmp.Lexicographic.{pointwise}
use Rattle.std.specs.Ordering.{int_eq}
use Rattle.ipdl_base.specs.declared.schema.ParamRow.{ParamRow}
use Rattle.ipdl_base.specs.declared.schema.Schema.{Schema}
use Rattle.ipdl_base.specs.declared.schema.Shape.{Shape, Actor}
use Rattle.ipdl_base.specs.declared.value.Value.{Value, Union', Maybe', Held-Value-Maybe-0, None', Some'}
use Rattle.ipdl_base.specs.declared.value.Value.TheVariants as value
use Rattle.ipdl_base.specs.declared.value.Values.{Values, First'}
use Rattle.ipdl_base.specs.declared.value.Values.TheVariants as values
use Rattle.value_types.specs.Shapes as shapes

-- the types of the parts of a value, where its own type is known
abbrev pub fields_of : Schema → Option Shape → List ParamRow
fields_of schema shape = unwrap_or (option_and_then (shapes.fields_of schema) shape) []

abbrev pub component_of : Schema → Option Shape → ℕ → Option Shape
component_of schema shape index = option_and_then (λ s. shapes.component_of schema s index) shape

abbrev pub element_of : Option Shape → Option Shape
element_of shape = option_and_then shapes.element_of shape

abbrev pub held_by : Option Shape → Option Shape
held_by shape = option_and_then shapes.held_by shape

-- the type of the first of some values, and those of the others
abbrev pub first_shape : List ParamRow → Option Shape
first_shape [] = None
first_shape (field ∷ fields) = Some field.shape

abbrev pub other_fields : List ParamRow → List ParamRow
other_fields [] = []
other_fields (field ∷ fields) = fields

-- whether a type is one of actors, and whether it has null
abbrev pub is_nullable : Option Shape → Bool
is_nullable (Some (Actor p nullable)) = nullable
is_nullable _ = false

-- an actor in a value: whether its type has null, and its id
pub record TypedActor : Type 0 where
  pub nullable : Bool
  pub id : ℤ

abbrev pub named_actors : Option Shape → ℤ → List TypedActor
named_actors (Some (Actor p nullable)) id = record { nullable = nullable; id = id } ∷ []
named_actors _ id = []

-- The actors in a value, in their order. An actor whose type is none of actors is passed over.
abbrev mutual
  pub actors_in : Schema → Option Shape → Value → List TypedActor
  actors_in schema shape (value.Bool b) = []
  actors_in schema shape (value.Int n) = []
  actors_in schema shape (value.Text text) = []
  actors_in schema shape (value.Bytes bytes) = []
  actors_in schema shape (value.Bits bits) = []
  actors_in schema shape (value.Struct vs) = actors_in_fields schema (fields_of schema shape) vs
  actors_in schema shape (Union' index _ v) = actors_in schema (component_of schema shape index) v
  actors_in schema shape (value.Array vs) = actors_in_each schema (element_of shape) vs
  actors_in schema shape (Maybe' held) = actors_held schema (held_by shape) held
  actors_in schema shape (value.Actor id) = named_actors shape id

  pub actors_held : Schema → Option Shape → Held-Value-Maybe-0 → List TypedActor
  actors_held schema shape None' = []
  actors_held schema shape (Some' _ v) = actors_in schema shape v

  pub actors_in_each : Schema → Option Shape → Values → List TypedActor
  actors_in_each schema shape values.Nothing = []
  actors_in_each schema shape (First' _ v _ vs) = actors_in schema shape v ++ actors_in_each schema shape vs

  pub actors_in_fields : Schema → List ParamRow → Values → List TypedActor
  actors_in_fields schema fields values.Nothing = []
  actors_in_fields schema fields (First' _ v _ vs) = actors_in schema (first_shape fields) v ++ actors_in_fields schema (other_fields fields) vs

-- an actor is missing: its type has no null, and it does not live
abbrev pub is_missing : (ℤ → Bool) → TypedActor → Bool
is_missing lives actor = not actor.nullable && not (lives actor.id)

-- an actor is dead: it is not null, and does not live
abbrev pub is_dead : (ℤ → Bool) → TypedActor → Bool
is_dead lives actor = not (int_eq actor.id (pos 0)) && not (lives actor.id)

-- the first missing actor in the values of parameters
abbrev pub missing : Schema → (ℤ → Bool) → List ParamRow → Values → Option ℤ
missing schema lives params vs = option_map (λ actor. actor.id) (find (is_missing lives) (actors_in_fields schema params vs))

-- whether each actor in the values of parameters is null or lives
abbrev pub all_live : Schema → (ℤ → Bool) → List ParamRow → Values → Bool
all_live schema lives params vs = is_none (find (is_dead lives) (actors_in_fields schema params vs))

-- null in the place of an actor that does not live, where its type has null
abbrev pub nulled_id : (ℤ → Bool) → Option Shape → ℤ → ℤ
nulled_id lives shape id = if is_nullable shape && not (lives id) then pos 0 else id

-- A value with null in the place of each actor that does not live, where its type has null.
abbrev mutual
  pub nulled : Schema → (ℤ → Bool) → Option Shape → Value → Value
  nulled schema lives shape (value.Bool b) = value.Bool b
  nulled schema lives shape (value.Int n) = value.Int n
  nulled schema lives shape (value.Text text) = value.Text text
  nulled schema lives shape (value.Bytes bytes) = value.Bytes bytes
  nulled schema lives shape (value.Bits bits) = value.Bits bits
  nulled schema lives shape (value.Struct vs) = value.Struct (nulled_fields schema lives (fields_of schema shape) vs)
  nulled schema lives shape (Union' index at v) = Union' index at (nulled schema lives (component_of schema shape index) v)
  nulled schema lives shape (value.Array vs) = value.Array (nulled_each schema lives (element_of shape) vs)
  nulled schema lives shape (Maybe' held) = Maybe' (nulled_held schema lives (held_by shape) held)
  nulled schema lives shape (value.Actor id) = value.Actor (nulled_id lives shape id)

  pub nulled_held : Schema → (ℤ → Bool) → Option Shape → Held-Value-Maybe-0 → Held-Value-Maybe-0
  nulled_held schema lives shape None' = None'
  nulled_held schema lives shape (Some' at v) = Some' at (nulled schema lives shape v)

  pub nulled_each : Schema → (ℤ → Bool) → Option Shape → Values → Values
  nulled_each schema lives shape values.Nothing = values.Nothing
  nulled_each schema lives shape (First' at v more vs) = First' at (nulled schema lives shape v) more (nulled_each schema lives shape vs)

  pub nulled_fields : Schema → (ℤ → Bool) → List ParamRow → Values → Values
  nulled_fields schema lives fields values.Nothing = values.Nothing
  nulled_fields schema lives fields (First' at v more vs) = First' at (nulled schema lives (first_shape fields) v) more (nulled_fields schema lives (other_fields fields) vs)

abbrev pub bool_eq : Bool → Bool → Bool
bool_eq true b = b
bool_eq false b = not b

-- Whether two values are the same, wherever their boxes lie.
abbrev mutual
  pub same_value : Value → Value → Bool
  same_value (value.Bool a) (value.Bool b) = bool_eq a b
  same_value (value.Int a) (value.Int b) = int_eq a b
  same_value (value.Text a) (value.Text b) = pointwise nat_eq a b
  same_value (value.Bytes a) (value.Bytes b) = pointwise nat_eq a b
  same_value (value.Bits a) (value.Bits b) = a == b
  same_value (value.Struct a) (value.Struct b) = same_values a b
  same_value (Union' i _ a) (Union' j _ b) = (i == j) && same_value a b
  same_value (value.Array a) (value.Array b) = same_values a b
  same_value (Maybe' a) (Maybe' b) = same_held a b
  same_value (value.Actor a) (value.Actor b) = int_eq a b
  same_value _ _ = false

  pub same_held : Held-Value-Maybe-0 → Held-Value-Maybe-0 → Bool
  same_held None' None' = true
  same_held (Some' _ a) (Some' _ b) = same_value a b
  same_held _ _ = false

  pub same_values : Values → Values → Bool
  same_values values.Nothing values.Nothing = true
  same_values (First' _ a _ xs) (First' _ b _ ys) = same_value a b && same_values xs ys
  same_values _ _ = false

-- whether the second values are the first of these types, with dead actors null
abbrev pub is_nulled : Schema → (ℤ → Bool) → List ParamRow → Values → Values → Bool
is_nulled schema lives params sent got = same_values (nulled_fields schema lives params sent) got
