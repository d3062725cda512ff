-- The types and actors of values do not depend on where their boxes are.
use Rattle.std.proofs.Common.{◌≡◌, ℤ, pos, Bool, true, false, not, ◌&&◌, cond, is_some, List, [], ◌∷◌, ◌++◌, Option, Some, None, refl, ap, ◌∙◌, unwrap_or, find, option_map}
use Rattle.std.specs.List.{list_any}
use Rattle.std.specs.Option.{option_map_or}
use Rattle.std.specs.Ordering.{int_eq}
use Rattle.actor_tree.specs.declared.actor.Actor.{Actor}
use Rattle.ipdl_base.specs.Signatures.{returns_of_row}
use Rattle.ipdl_base.specs.declared.kinds.Reason.TheVariants.{ActorDestroyed}
use Rattle.ipdl_base.specs.declared.schema.MessageRow.{MessageRow}
use Rattle.ipdl_base.specs.declared.schema.ParamRow.{ParamRow}
use Rattle.ipdl_base.specs.declared.schema.Schema.{Schema}
use Rattle.ipdl_base.specs.declared.schema.Shape.{Shape}
use Rattle.ipdl_base.specs.declared.value.Value.{Value, Union', Maybe', Held-Value-Maybe-0, None', Some'}
use Rattle.ipdl_base.specs.declared.value.Value.TheVariants as value
use Rattle.ipdl_base.specs.declared.value.Values.{Values, First'}
use Rattle.ipdl_base.specs.declared.value.Values.TheVariants as values
use Rattle.ipdl_base.specs.Plain.{one_box, plain, plain_held, plain_values}
use Rattle.nesting_core.specs.declared.frame.Answer.{Answer}
use Rattle.nesting_core.specs.declared.frame.Answer.TheVariants as answer
use Rattle.nesting_core.specs.Plain.{plain_answer}
use Rattle.value_types.specs.Shapes.{element_of, held_by, fields_of, component_of}
use Rattle.channel_model.specs.Laws.{PlainFormsCommute}
use Rattle.channel_model.specs.Typed.{has_type, held_has_type, all_have_type, have_types}
use Rattle.channel_model.specs.ValueActors.{ActorValue, actors_in, actors_held, actors_in_all, actors_in_parts, is_dead, missing, has_dead, nulled_value, nulled_held, nulled_all, nulled, received}

mutual
  has_type-plain : (schema : Schema) (shape : Shape) (v : Value) → has_type schema shape (plain v) ≡ has_type schema shape v
  has_type-plain schema shape (value.Bool b) = refl
  has_type-plain schema shape (value.Int n) = refl
  has_type-plain schema shape (value.Text text) = refl
  has_type-plain schema shape (value.Bytes bytes) = refl
  has_type-plain schema shape (value.Bits bits) = refl
  has_type-plain schema shape (value.Struct vs) = λ i. option_map_or (λ fields. have_types-plain schema fields vs i) (fields_of schema shape) false
  has_type-plain schema shape (Union' index _ v) = λ i. option_map_or (λ component. has_type-plain schema component v i) (component_of schema shape index) false
  has_type-plain schema shape (value.Array vs) = λ i. option_map_or (λ element. all_have_type-plain schema element vs i) (element_of shape) false
  has_type-plain schema shape (Maybe' held) = λ i. option_map_or (λ inner. held_has_type-plain schema inner held i) (held_by shape) false
  has_type-plain schema shape (value.Actor id) = refl

  held_has_type-plain : (schema : Schema) (shape : Shape) (held : Held-Value-Maybe-0) → held_has_type schema shape (plain_held held) ≡ held_has_type schema shape held
  held_has_type-plain schema shape None' = refl
  held_has_type-plain schema shape (Some' _ v) = has_type-plain schema shape v

  all_have_type-plain : (schema : Schema) (shape : Shape) (vs : Values) → all_have_type schema shape (plain_values vs) ≡ all_have_type schema shape vs
  all_have_type-plain schema shape values.Nothing = refl
  all_have_type-plain schema shape (First' _ v _ vs) = λ i. has_type-plain schema shape v i && all_have_type-plain schema shape vs i

  have_types-plain : (schema : Schema) (fields : List ParamRow) (vs : Values) → have_types schema fields (plain_values vs) ≡ have_types schema fields vs
  have_types-plain schema [] values.Nothing = refl
  have_types-plain schema (field ∷ fields) values.Nothing = refl
  have_types-plain schema [] (First' _ v _ vs) = refl
  have_types-plain schema (field ∷ fields) (First' _ v _ vs) = λ i. has_type-plain schema field.shape v i && have_types-plain schema fields vs i

mutual
  actors_in-plain : (schema : Schema) (shape : Shape) (v : Value) → actors_in schema shape (plain v) ≡ actors_in schema shape v
  actors_in-plain schema shape (value.Bool b) = refl
  actors_in-plain schema shape (value.Int n) = refl
  actors_in-plain schema shape (value.Text text) = refl
  actors_in-plain schema shape (value.Bytes bytes) = refl
  actors_in-plain schema shape (value.Bits bits) = refl
  actors_in-plain schema shape (value.Struct vs) = actors_in_parts-plain schema (unwrap_or (fields_of schema shape) []) vs
  actors_in-plain schema shape (Union' index _ v) = λ i. option_map_or (λ component. actors_in-plain schema component v i) (component_of schema shape index) []
  actors_in-plain schema shape (value.Array vs) = λ i. option_map_or (λ element. actors_in_all-plain schema element vs i) (element_of shape) []
  actors_in-plain schema shape (Maybe' held) = λ i. option_map_or (λ inner. actors_held-plain schema inner held i) (held_by shape) []
  actors_in-plain schema shape (value.Actor id) = refl

  actors_held-plain : (schema : Schema) (shape : Shape) (held : Held-Value-Maybe-0) → actors_held schema shape (plain_held held) ≡ actors_held schema shape held
  actors_held-plain schema shape None' = refl
  actors_held-plain schema shape (Some' _ v) = actors_in-plain schema shape v

  actors_in_all-plain : (schema : Schema) (shape : Shape) (vs : Values) → actors_in_all schema shape (plain_values vs) ≡ actors_in_all schema shape vs
  actors_in_all-plain schema shape values.Nothing = refl
  actors_in_all-plain schema shape (First' _ v _ vs) = λ i. actors_in-plain schema shape v i ++ actors_in_all-plain schema shape vs i

  actors_in_parts-plain : (schema : Schema) (fields : List ParamRow) (vs : Values) → actors_in_parts schema fields (plain_values vs) ≡ actors_in_parts schema fields vs
  actors_in_parts-plain schema [] vs = refl
  actors_in_parts-plain schema (field ∷ fields) values.Nothing = refl
  actors_in_parts-plain schema (field ∷ fields) (First' _ v _ vs) = λ i. actors_in-plain schema field.shape v i ++ actors_in_parts-plain schema fields vs i

missing-plain : (schema : Schema) (actors : List Actor) (types : List ParamRow) (vs : Values) → missing schema actors types (plain_values vs) ≡ missing schema actors types vs
missing-plain schema actors types vs = λ i. option_map (λ a. a.id) (find (λ (a : ActorValue). not a.nullable && is_dead actors a) (actors_in_parts-plain schema types vs i))

has_dead-plain : (schema : Schema) (actors : List Actor) (types : List ParamRow) (vs : Values) → has_dead schema actors types (plain_values vs) ≡ has_dead schema actors types vs
has_dead-plain schema actors types vs = λ i. list_any (λ (a : ActorValue). not (int_eq a.id (pos 0)) && is_dead actors a) (actors_in_parts-plain schema types vs i)

-- a function applied after a choice
through : {A B C : Type 0} (g : B → C) (f : A → B) (h : A → C) (o : Option A) (d : B) → ((x : A) → h x ≡ g (f x)) → option_map_or h o (g d) ≡ g (option_map_or f o d)
through g f h None d e = refl
through g f h (Some x) d e = e x

mutual
  nulled_value-plain : (schema : Schema) (actors : List Actor) (shape : Shape) (v : Value) → nulled_value schema actors shape (plain v) ≡ plain (nulled_value schema actors shape v)
  nulled_value-plain schema actors shape (value.Bool b) = refl
  nulled_value-plain schema actors shape (value.Int n) = refl
  nulled_value-plain schema actors shape (value.Text text) = refl
  nulled_value-plain schema actors shape (value.Bytes bytes) = refl
  nulled_value-plain schema actors shape (value.Bits bits) = refl
  nulled_value-plain schema actors shape (value.Struct vs) = ap value.Struct (nulled-plain schema actors (unwrap_or (fields_of schema shape) []) vs)
  nulled_value-plain schema actors shape (Union' index _ v) =
      ap (Union' index one_box) (through plain (λ component. nulled_value schema actors component v) (λ component. nulled_value schema actors component (plain v)) (component_of schema shape index) v (λ component. nulled_value-plain schema actors component v))
  nulled_value-plain schema actors shape (value.Array vs) =
      ap value.Array (through plain_values (λ element. nulled_all schema actors element vs) (λ element. nulled_all schema actors element (plain_values vs)) (element_of shape) vs (λ element. nulled_all-plain schema actors element vs))
  nulled_value-plain schema actors shape (Maybe' held) =
      ap Maybe' (through plain_held (λ inner. nulled_held schema actors inner held) (λ inner. nulled_held schema actors inner (plain_held held)) (held_by shape) held (λ inner. nulled_held-plain schema actors inner held))
  nulled_value-plain schema actors shape (value.Actor id) = refl

  nulled_held-plain : (schema : Schema) (actors : List Actor) (shape : Shape) (held : Held-Value-Maybe-0) → nulled_held schema actors shape (plain_held held) ≡ plain_held (nulled_held schema actors shape held)
  nulled_held-plain schema actors shape None' = refl
  nulled_held-plain schema actors shape (Some' _ v) = ap (Some' one_box) (nulled_value-plain schema actors shape v)

  nulled_all-plain : (schema : Schema) (actors : List Actor) (shape : Shape) (vs : Values) → nulled_all schema actors shape (plain_values vs) ≡ plain_values (nulled_all schema actors shape vs)
  nulled_all-plain schema actors shape values.Nothing = refl
  nulled_all-plain schema actors shape (First' _ v _ vs) = λ i. First' one_box (nulled_value-plain schema actors shape v i) one_box (nulled_all-plain schema actors shape vs i)

  nulled-plain : (schema : Schema) (actors : List Actor) (fields : List ParamRow) (vs : Values) → nulled schema actors fields (plain_values vs) ≡ plain_values (nulled schema actors fields vs)
  nulled-plain schema actors [] vs = refl
  nulled-plain schema actors (field ∷ fields) values.Nothing = refl
  nulled-plain schema actors (field ∷ fields) (First' _ v _ vs) = λ i. First' one_box (nulled_value-plain schema actors field.shape v i) one_box (nulled-plain schema actors fields vs i)

-- an answer by whether an actor is missing in it
received_if : (b : Bool) (vs ws : Values) → vs ≡ plain_values ws → cond b (answer.Fault ActorDestroyed) (answer.Ok vs) ≡ plain_answer (cond b (answer.Fault ActorDestroyed) (answer.Ok ws))
received_if true vs ws e = refl
received_if false vs ws e = ap answer.Ok e

received-plain : (schema : Schema) (actors : List Actor) (row : MessageRow) (a : Answer) → received schema actors row (plain_answer a) ≡ plain_answer (received schema actors row a)
received-plain schema actors row (answer.Fault reason) = refl
received-plain schema actors row (answer.Ok vs) =
    ap (λ (id : Option ℤ). cond (is_some id) (answer.Fault ActorDestroyed) (answer.Ok (nulled schema actors (returns_of_row row) (plain_values vs)))) (missing-plain schema actors (returns_of_row row) vs)
    ∙ received_if (is_some (missing schema actors (returns_of_row row) vs)) (nulled schema actors (returns_of_row row) (plain_values vs)) (nulled schema actors (returns_of_row row) vs) (nulled-plain schema actors (returns_of_row row) vs)

pub plain_forms_commute : PlainFormsCommute
plain_forms_commute = record {
  has_type = has_type-plain;
  have_types = have_types-plain;
  actors_in = actors_in-plain;
  actors_in_parts = actors_in_parts-plain;
  missing = missing-plain;
  has_dead = has_dead-plain;
  nulled_value = nulled_value-plain;
  nulled = nulled-plain;
  received = received-plain;
}
