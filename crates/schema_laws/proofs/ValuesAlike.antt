-- Whether values have their types, the actors in them and the nulls that are put in do not depend on where boxes are.
use Rattle.std.proofs.Common.{◌≡◌, ◌∙◌, ◌^◌, List, [], ◌∷◌, ◌++◌, map, false, refl, ap, unwrap_or}
use Rattle.std.specs.Prelude.{ℤ, pos, nat_lt, not, ◌&&◌, if◌then◌else◌, find, is_some, option_map, option_and_then}
use Rattle.std.specs.List.{list_any}
use Rattle.std.specs.Option.{option_map_or}
use Rattle.std.specs.Ordering.{int_eq}
use Rattle.std.specs.Str.{is_utf8}
use Rattle.actor_tree.specs.declared.actor.Actor.{Actor as LivingActor}
use Rattle.ipdl_base.specs.Plain.{plain_shape}
use Rattle.ipdl_base.specs.Signatures.{returns_of_row}
use Rattle.ipdl_base.specs.declared.kinds.Reason.TheVariants.{ActorDestroyed}
use Rattle.ipdl_base.specs.declared.schema.MessageRow.{MessageRow}
use Rattle.ipdl_base.specs.declared.schema.ParamRow.{ParamRow}
use Rattle.ipdl_base.specs.declared.schema.Schema.{Schema}
use Rattle.ipdl_base.specs.declared.schema.Shape.{Shape, Builtin, Actor}
use Rattle.ipdl_base.specs.declared.value.Value.{Value, Union', Maybe', Held-Value-Maybe-0, None', Some'}
use Rattle.ipdl_base.specs.declared.value.Value.TheVariants as value
use Rattle.ipdl_base.specs.declared.value.Values.{Values, First'}
use Rattle.ipdl_base.specs.declared.value.Values.TheVariants as values
use Rattle.nesting_core.specs.declared.frame.Answer.{Answer}
use Rattle.nesting_core.specs.declared.frame.Answer.TheVariants as answer
use Rattle.value_types.specs.Shapes.{range_of, float_bits, element_of, held_by, fields_of, component_of}
use Rattle.value_types.proofs.PlainTypes.{builtin_of-plain, is_bytes-plain, element_of-plain, held_by-plain}
use Rattle.program_schema.specs.Laws.{plain_param_row, plain_message_row, plain_schema}
use Rattle.schema_laws.proofs.Rows.{option_alike, listed_alike, fields_alike, component_alike}
use Rattle.channel_model.specs.Typed.{is_bool, is_text, is_within, is_actor_of, has_type, held_has_type, all_have_type, have_types}
use Rattle.channel_model.specs.ValueActors.{actor_at, actors_in, actors_held, actors_in_all, actors_in_parts, is_dead, missing, has_dead, received_id, nulled_value, nulled_held, nulled_all, nulled, received}
use Rattle.schema_laws.proofs.RowsAlike.{returns_alike}

-- The parts of a type

bool_alike : (shape : Shape) → is_bool (plain_shape shape) ≡ is_bool shape
bool_alike (Builtin b) = refl
bool_alike shape = refl

text_alike : (shape : Shape) → is_text (plain_shape shape) ≡ is_text shape
text_alike (Builtin b) = refl
text_alike shape = refl

actor_alike : (shape : Shape) (id : ℤ) → is_actor_of (plain_shape shape) id ≡ is_actor_of shape id
actor_alike (Actor p nullable) id = refl
actor_alike shape id = refl

actor_at_alike : (shape : Shape) (id : ℤ) → actor_at (plain_shape shape) id ≡ actor_at shape id
actor_at_alike (Actor p nullable) id = refl
actor_at_alike shape id = refl

received_id_alike : (actors : List LivingActor) (shape : Shape) (id : ℤ) → received_id actors (plain_shape shape) id ≡ received_id actors shape id
received_id_alike actors (Actor p nullable) id = refl
received_id_alike actors shape id = refl

module _ (s : Schema) where
  -- Types

  mutual
    typed : (shape : Shape) (v : Value) → has_type (plain_schema s) (plain_shape shape) v ≡ has_type s shape v
    typed shape (value.Bool b) = bool_alike shape
    typed shape (value.Int n) = λ i. option_map_or (is_within n) (option_and_then range_of (builtin_of-plain shape i)) false
    typed shape (value.Text text) = λ i. text_alike shape i && is_utf8 text
    typed shape (value.Bytes bytes) = is_bytes-plain shape
    typed shape (value.Bits bits) = λ i. option_map_or (λ most. nat_lt bits (2 ^ most)) (option_and_then float_bits (builtin_of-plain shape i)) false
    typed shape (value.Struct vs) =
        (λ i. option_map_or (λ fields. have_types (plain_schema s) fields vs) (fields_alike s shape i) false)
        ∙ option_alike (map plain_param_row) (λ fields. have_types (plain_schema s) fields vs) (λ fields. have_types s fields vs) (λ fields. each_typed fields vs) false (fields_of s shape)
    typed shape (Union' index _ v) =
        (λ i. option_map_or (λ component. has_type (plain_schema s) component v) (component_alike s shape index i) false)
        ∙ option_alike plain_shape (λ component. has_type (plain_schema s) component v) (λ component. has_type s component v) (λ component. typed component v) false (component_of s shape index)
    typed shape (value.Array vs) =
        (λ i. option_map_or (λ element. all_have_type (plain_schema s) element vs) (element_of-plain shape i) false)
        ∙ option_alike plain_shape (λ element. all_have_type (plain_schema s) element vs) (λ element. all_have_type s element vs) (λ element. elements_typed element vs) false (element_of shape)
    typed shape (Maybe' held) =
        (λ i. option_map_or (λ inner. held_has_type (plain_schema s) inner held) (held_by-plain shape i) false)
        ∙ option_alike plain_shape (λ inner. held_has_type (plain_schema s) inner held) (λ inner. held_has_type s inner held) (λ inner. held_typed inner held) false (held_by shape)
    typed shape (value.Actor id) = actor_alike shape id

    held_typed : (shape : Shape) (held : Held-Value-Maybe-0) → held_has_type (plain_schema s) (plain_shape shape) held ≡ held_has_type s shape held
    held_typed shape None' = refl
    held_typed shape (Some' _ v) = typed shape v

    elements_typed : (shape : Shape) (vs : Values) → all_have_type (plain_schema s) (plain_shape shape) vs ≡ all_have_type s shape vs
    elements_typed shape values.Nothing = refl
    elements_typed shape (First' _ v _ vs) = λ i. typed shape v i && elements_typed shape vs i

    pub each_typed : (fields : List ParamRow) (vs : Values) → have_types (plain_schema s) (map plain_param_row fields) vs ≡ have_types s fields vs
    each_typed [] values.Nothing = refl
    each_typed [] (First' _ v _ vs) = refl
    each_typed (field ∷ fields) values.Nothing = refl
    each_typed (field ∷ fields) (First' _ v _ vs) = λ i. typed field.shape v i && each_typed fields vs i

  -- Actors in values

  mutual
    actors_alike : (shape : Shape) (v : Value) → actors_in (plain_schema s) (plain_shape shape) v ≡ actors_in s shape v
    actors_alike shape (value.Bool b) = refl
    actors_alike shape (value.Int n) = refl
    actors_alike shape (value.Text text) = refl
    actors_alike shape (value.Bytes bytes) = refl
    actors_alike shape (value.Bits bits) = refl
    actors_alike shape (value.Struct vs) =
        (λ i. actors_in_parts (plain_schema s) (unwrap_or (fields_alike s shape i) []) vs)
        ∙ (λ i. actors_in_parts (plain_schema s) (listed_alike plain_param_row (fields_of s shape) i) vs)
        ∙ actors_of_parts (unwrap_or (fields_of s shape) []) vs
    actors_alike shape (Union' index _ v) =
        (λ i. option_map_or (λ component. actors_in (plain_schema s) component v) (component_alike s shape index i) [])
        ∙ option_alike plain_shape (λ component. actors_in (plain_schema s) component v) (λ component. actors_in s component v) (λ component. actors_alike component v) [] (component_of s shape index)
    actors_alike shape (value.Array vs) =
        (λ i. option_map_or (λ element. actors_in_all (plain_schema s) element vs) (element_of-plain shape i) [])
        ∙ option_alike plain_shape (λ element. actors_in_all (plain_schema s) element vs) (λ element. actors_in_all s element vs) (λ element. actors_of_all element vs) [] (element_of shape)
    actors_alike shape (Maybe' held) =
        (λ i. option_map_or (λ inner. actors_held (plain_schema s) inner held) (held_by-plain shape i) [])
        ∙ option_alike plain_shape (λ inner. actors_held (plain_schema s) inner held) (λ inner. actors_held s inner held) (λ inner. actors_of_held inner held) [] (held_by shape)
    actors_alike shape (value.Actor id) = actor_at_alike shape id

    actors_of_held : (shape : Shape) (held : Held-Value-Maybe-0) → actors_held (plain_schema s) (plain_shape shape) held ≡ actors_held s shape held
    actors_of_held shape None' = refl
    actors_of_held shape (Some' _ v) = actors_alike shape v

    actors_of_all : (shape : Shape) (vs : Values) → actors_in_all (plain_schema s) (plain_shape shape) vs ≡ actors_in_all s shape vs
    actors_of_all shape values.Nothing = refl
    actors_of_all shape (First' _ v _ vs) = λ i. actors_alike shape v i ++ actors_of_all shape vs i

    pub actors_of_parts : (fields : List ParamRow) (vs : Values) → actors_in_parts (plain_schema s) (map plain_param_row fields) vs ≡ actors_in_parts s fields vs
    actors_of_parts [] vs = refl
    actors_of_parts (field ∷ fields) values.Nothing = refl
    actors_of_parts (field ∷ fields) (First' _ v _ vs) = λ i. actors_alike field.shape v i ++ actors_of_parts fields vs i

  pub missing_alike : (actors : List LivingActor) (types : List ParamRow) (vs : Values) → missing (plain_schema s) actors (map plain_param_row types) vs ≡ missing s actors types vs
  missing_alike actors types vs = λ i. option_map (λ a. a.id) (find (λ a. not a.nullable && is_dead actors a) (actors_of_parts types vs i))

  pub dead_alike : (actors : List LivingActor) (types : List ParamRow) (vs : Values) → has_dead (plain_schema s) actors (map plain_param_row types) vs ≡ has_dead s actors types vs
  dead_alike actors types vs = λ i. list_any (λ a. not (int_eq a.id (pos 0)) && is_dead actors a) (actors_of_parts types vs i)

  -- Nulls

  module _ (actors : List LivingActor) where
    mutual
      nulled_alike : (shape : Shape) (v : Value) → nulled_value (plain_schema s) actors (plain_shape shape) v ≡ nulled_value s actors shape v
      nulled_alike shape (value.Bool b) = refl
      nulled_alike shape (value.Int n) = refl
      nulled_alike shape (value.Text text) = refl
      nulled_alike shape (value.Bytes bytes) = refl
      nulled_alike shape (value.Bits bits) = refl
      nulled_alike shape (value.Struct vs) =
          ap value.Struct (
          (λ i. nulled (plain_schema s) actors (unwrap_or (fields_alike s shape i) []) vs)
          ∙ (λ i. nulled (plain_schema s) actors (listed_alike plain_param_row (fields_of s shape) i) vs)
          ∙ nulled_parts (unwrap_or (fields_of s shape) []) vs
          )
      nulled_alike shape (Union' index place v) =
          ap (λ inner. Union' index place inner) (
          (λ i. option_map_or (λ component. nulled_value (plain_schema s) actors component v) (component_alike s shape index i) v)
          ∙ option_alike plain_shape (λ component. nulled_value (plain_schema s) actors component v) (λ component. nulled_value s actors component v) (λ component. nulled_alike component v) v (component_of s shape index)
          )
      nulled_alike shape (value.Array vs) =
          ap value.Array (
          (λ i. option_map_or (λ element. nulled_all (plain_schema s) actors element vs) (element_of-plain shape i) vs)
          ∙ option_alike plain_shape (λ element. nulled_all (plain_schema s) actors element vs) (λ element. nulled_all s actors element vs) (λ element. nulled_elements element vs) vs (element_of shape)
          )
      nulled_alike shape (Maybe' held) =
          ap Maybe' (
          (λ i. option_map_or (λ inner. nulled_held (plain_schema s) actors inner held) (held_by-plain shape i) held)
          ∙ option_alike plain_shape (λ inner. nulled_held (plain_schema s) actors inner held) (λ inner. nulled_held s actors inner held) (λ inner. nulled_inside inner held) held (held_by shape)
          )
      nulled_alike shape (value.Actor id) = ap value.Actor (received_id_alike actors shape id)

      nulled_inside : (shape : Shape) (held : Held-Value-Maybe-0) → nulled_held (plain_schema s) actors (plain_shape shape) held ≡ nulled_held s actors shape held
      nulled_inside shape None' = refl
      nulled_inside shape (Some' place v) = λ i. Some' place (nulled_alike shape v i)

      nulled_elements : (shape : Shape) (vs : Values) → nulled_all (plain_schema s) actors (plain_shape shape) vs ≡ nulled_all s actors shape vs
      nulled_elements shape values.Nothing = refl
      nulled_elements shape (First' place v rest_place vs) = λ i. First' place (nulled_alike shape v i) rest_place (nulled_elements shape vs i)

      pub nulled_parts : (fields : List ParamRow) (vs : Values) → nulled (plain_schema s) actors (map plain_param_row fields) vs ≡ nulled s actors fields vs
      nulled_parts [] vs = refl
      nulled_parts (field ∷ fields) values.Nothing = refl
      nulled_parts (field ∷ fields) (First' place v rest_place vs) = λ i. First' place (nulled_alike field.shape v i) rest_place (nulled_parts fields vs i)

  -- Values of the types of a message's returns

  pub returns_typed : (row : MessageRow) (vs : Values) → have_types (plain_schema s) (returns_of_row (plain_message_row row)) vs ≡ have_types s (returns_of_row row) vs
  returns_typed row vs = (λ i. have_types (plain_schema s) (returns_alike row i) vs) ∙ each_typed (returns_of_row row) vs

  pub returns_dead : (actors : List LivingActor) (row : MessageRow) (vs : Values)
      → has_dead (plain_schema s) actors (returns_of_row (plain_message_row row)) vs ≡ has_dead s actors (returns_of_row row) vs
  returns_dead actors row vs = (λ i. has_dead (plain_schema s) actors (returns_alike row i) vs) ∙ dead_alike actors (returns_of_row row) vs

  returns_missing : (actors : List LivingActor) (row : MessageRow) (vs : Values)
      → missing (plain_schema s) actors (returns_of_row (plain_message_row row)) vs ≡ missing s actors (returns_of_row row) vs
  returns_missing actors row vs = (λ i. missing (plain_schema s) actors (returns_alike row i) vs) ∙ missing_alike actors (returns_of_row row) vs

  returns_nulled : (actors : List LivingActor) (row : MessageRow) (vs : Values)
      → nulled (plain_schema s) actors (returns_of_row (plain_message_row row)) vs ≡ nulled s actors (returns_of_row row) vs
  returns_nulled actors row vs = (λ i. nulled (plain_schema s) actors (returns_alike row i) vs) ∙ nulled_parts actors (returns_of_row row) vs

  pub received_alike : (actors : List LivingActor) (row : MessageRow) (a : Answer) → received (plain_schema s) actors (plain_message_row row) a ≡ received s actors row a
  received_alike actors row (answer.Fault reason) = refl
  received_alike actors row (answer.Ok vs) = λ i. if is_some (returns_missing actors row vs i) then answer.Fault ActorDestroyed else answer.Ok (returns_nulled actors row vs i)
