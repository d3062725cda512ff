-- Nulls keep types, and typed values have exactly the ids of their actors.
use Rattle.std.proofs.Common.{◌≡◌, ℤ, Bool, true, false, ◌&&◌, List, [], ◌∷◌, ◌++◌, map, unwrap_or, is_some, if◌then◌else◌, Option, Some, None, refl, sym, ap, ◌∙◌}
use Rattle.std.specs.Option.{option_map_or}
use Rattle.std.proofs.lemmas.List.{map-append}
use Rattle.actor_tree.specs.declared.actor.Actor.{Actor as LivingActor}
use Rattle.ipdl_base.specs.declared.schema.ParamRow.{ParamRow}
use Rattle.ipdl_base.specs.declared.schema.Schema.{Schema}
use Rattle.ipdl_base.specs.declared.schema.Shape.{Shape, Builtin, Using, Actor, Named, Array', Unique', Endpoint}
use Rattle.ipdl_base.specs.declared.schema.Shape.{Maybe' as MaybeShape}
use Rattle.ipdl_base.specs.declared.value.Value.{Value, Union', Maybe', Held-Value-Maybe-0, None', Some'}
use Rattle.ipdl_base.specs.declared.value.Value.TheVariants as value
use Rattle.ipdl_base.specs.declared.value.Values.{Values, First'}
use Rattle.ipdl_base.specs.declared.value.Values.TheVariants as values
use Rattle.ipdl_base.specs.declared.kinds.Reason.TheVariants.{ActorDestroyed}
use Rattle.ipdl_base.specs.declared.schema.MessageRow.{MessageRow}
use Rattle.ipdl_base.specs.Signatures.{returns_of_row}
use Rattle.nesting_core.specs.declared.frame.Answer.TheVariants as answer
use Rattle.channel_model.specs.Laws.{NullsKeepTypes}
use Rattle.value_types.specs.Fits.{actor_ids, held_actor_ids, all_actor_ids}
use Rattle.value_types.specs.Shapes.{element_of, held_by, fields_of, component_of}
use Rattle.channel_model.proofs.Tests.{and-left, and-right}
use Rattle.channel_model.specs.Typed.{is_actor_of, has_type, held_has_type, all_have_type, have_types}
use Rattle.channel_model.specs.ValueActors.{ActorValue, actor_at, actors_in, actors_held, actors_in_all, actors_in_parts, received_id, nulled_value, nulled_held, nulled_all, nulled, missing}

both-same : (a b c d : Bool) → a ≡ c → b ≡ d → a && b ≡ (c && d)
both-same a b c d e f = ap (λ (x : Bool). x && b) e ∙ ap (λ (x : Bool). c && x) f

-- Nulls keep types

module _ (schema : Schema) (actors : List LivingActor) where
  -- what is found for a type, if anything, is the same for the test and for the nulls
  found-typed : {A B : Type 0} (found : Option A) (test : A → B → Bool) (null : A → B → B) (x : B) → ((a : A) → test a (null a x) ≡ test a x) → option_map_or (λ a. test a (option_map_or (λ b. null b x) found x)) found false ≡ option_map_or (λ a. test a x) found false
  found-typed None test null x same = refl
  found-typed (Some a) test null x same = same a

  found-fields : (found : Option (List ParamRow)) (vs : Values) → ((fields : List ParamRow) → have_types schema fields (nulled schema actors fields vs) ≡ have_types schema fields vs)
      → option_map_or (λ fields. have_types schema fields (nulled schema actors (unwrap_or found []) vs)) found false ≡ option_map_or (λ fields. have_types schema fields vs) found false
  found-fields None vs same = refl
  found-fields (Some fields) vs same = same fields

  id-typed : (shape : Shape) (id : ℤ) → is_actor_of shape (received_id actors shape id) ≡ is_actor_of shape id
  id-typed (Actor p true) id = refl
  id-typed (Actor p false) id = refl
  id-typed (Builtin b) id = refl
  id-typed (Using name) id = refl
  id-typed (Named t) id = refl
  id-typed (Array' at s) id = refl
  id-typed (MaybeShape at s) id = refl
  id-typed (Unique' at s) id = refl
  id-typed (Endpoint p managed) id = refl

  mutual
    value-typed : (shape : Shape) (v : Value) → has_type schema shape (nulled_value schema actors shape v) ≡ has_type schema shape v
    value-typed shape (value.Bool b) = refl
    value-typed shape (value.Int n) = refl
    value-typed shape (value.Text text) = refl
    value-typed shape (value.Bytes bytes) = refl
    value-typed shape (value.Bits bits) = refl
    value-typed shape (value.Struct vs) = found-fields (fields_of schema shape) vs (λ fields. nulled-typed fields vs)
    value-typed shape (Union' index at v) = found-typed (component_of schema shape index) (has_type schema) (nulled_value schema actors) v (λ component. value-typed component v)
    value-typed shape (value.Array vs) = found-typed (element_of shape) (all_have_type schema) (nulled_all schema actors) vs (λ element. all-typed element vs)
    value-typed shape (Maybe' held) = found-typed (held_by shape) (held_has_type schema) (nulled_held schema actors) held (λ inner. held-typed inner held)
    value-typed shape (value.Actor id) = id-typed shape id

    held-typed : (shape : Shape) (held : Held-Value-Maybe-0) → held_has_type schema shape (nulled_held schema actors shape held) ≡ held_has_type schema shape held
    held-typed shape None' = refl
    held-typed shape (Some' at v) = value-typed shape v

    all-typed : (shape : Shape) (vs : Values) → all_have_type schema shape (nulled_all schema actors shape vs) ≡ all_have_type schema shape vs
    all-typed shape values.Nothing = refl
    all-typed shape (First' at v more vs) = both-same (has_type schema shape (nulled_value schema actors shape v)) (all_have_type schema shape (nulled_all schema actors shape vs)) (has_type schema shape v) (all_have_type schema shape vs) (value-typed shape v) (all-typed shape vs)

    pub nulled-typed : (fields : List ParamRow) (vs : Values) → have_types schema fields (nulled schema actors fields vs) ≡ have_types schema fields vs
    nulled-typed [] vs = refl
    nulled-typed (field ∷ fields) values.Nothing = refl
    nulled-typed (field ∷ fields) (First' at v more vs) = both-same (has_type schema field.shape (nulled_value schema actors field.shape v)) (have_types schema fields (nulled schema actors fields vs)) (has_type schema field.shape v) (have_types schema fields vs) (value-typed field.shape v) (nulled-typed fields vs)

-- The ids in typed values

abbrev ids_of_actors : List ActorValue → List ℤ
ids_of_actors xs = map (λ (a : ActorValue). a.id) xs

ids-append : (xs ys : List ActorValue) (is js : List ℤ) → ids_of_actors xs ≡ is → ids_of_actors ys ≡ js → ids_of_actors (xs ++ ys) ≡ is ++ js
ids-append xs ys is js e f = map-append (λ (a : ActorValue). a.id) xs ys ∙ (ap (λ (l : List ℤ). l ++ ids_of_actors ys) e ∙ ap (λ (l : List ℤ). is ++ l) f)

module _ (schema : Schema) where
  found-ids : {A : Type 0} (found : Option A) (test : A → Bool) (actors : A → List ActorValue) (ids : List ℤ) → ((a : A) → test a ≡ true → ids_of_actors (actors a) ≡ ids) → option_map_or test found false ≡ true → ids_of_actors (option_map_or actors found []) ≡ ids
  found-ids None test actors ids same e = cc
  found-ids (Some a) test actors ids same e = same a e

  fields-ids : (found : Option (List ParamRow)) (vs : Values) (ids : List ℤ) → ((fields : List ParamRow) → have_types schema fields vs ≡ true → ids_of_actors (actors_in_parts schema fields vs) ≡ ids) → option_map_or (λ fields. have_types schema fields vs) found false ≡ true
      → ids_of_actors (actors_in_parts schema (unwrap_or found []) vs) ≡ ids
  fields-ids None vs ids same e = cc
  fields-ids (Some fields) vs ids same e = same fields e

  id-ids : (shape : Shape) (id : ℤ) → is_actor_of shape id ≡ true → ids_of_actors (actor_at shape id) ≡ id ∷ []
  id-ids (Actor p nullable) id e = refl
  id-ids (Builtin b) id e = cc
  id-ids (Using name) id e = cc
  id-ids (Named t) id e = cc
  id-ids (Array' at s) id e = cc
  id-ids (MaybeShape at s) id e = cc
  id-ids (Unique' at s) id e = cc
  id-ids (Endpoint p managed) id e = cc

  mutual
    value-ids : (shape : Shape) (v : Value) → has_type schema shape v ≡ true → ids_of_actors (actors_in schema shape v) ≡ actor_ids v
    value-ids shape (value.Bool b) e = refl
    value-ids shape (value.Int n) e = refl
    value-ids shape (value.Text text) e = refl
    value-ids shape (value.Bytes bytes) e = refl
    value-ids shape (value.Bits bits) e = refl
    value-ids shape (value.Struct vs) e = fields-ids (fields_of schema shape) vs (all_actor_ids vs) (λ fields k. typed-ids fields vs k) e
    value-ids shape (Union' index at v) e = found-ids (component_of schema shape index) (λ component. has_type schema component v) (λ component. actors_in schema component v) (actor_ids v) (λ component k. value-ids component v k) e
    value-ids shape (value.Array vs) e = found-ids (element_of shape) (λ element. all_have_type schema element vs) (λ element. actors_in_all schema element vs) (all_actor_ids vs) (λ element k. all-ids element vs k) e
    value-ids shape (Maybe' held) e = found-ids (held_by shape) (λ inner. held_has_type schema inner held) (λ inner. actors_held schema inner held) (held_actor_ids held) (λ inner k. held-ids inner held k) e
    value-ids shape (value.Actor id) e = id-ids shape id e

    held-ids : (shape : Shape) (held : Held-Value-Maybe-0) → held_has_type schema shape held ≡ true → ids_of_actors (actors_held schema shape held) ≡ held_actor_ids held
    held-ids shape None' e = refl
    held-ids shape (Some' at v) e = value-ids shape v e

    all-ids : (shape : Shape) (vs : Values) → all_have_type schema shape vs ≡ true → ids_of_actors (actors_in_all schema shape vs) ≡ all_actor_ids vs
    all-ids shape values.Nothing e = refl
    all-ids shape (First' at v more vs) e =
        ids-append (actors_in schema shape v) (actors_in_all schema shape vs) (actor_ids v) (all_actor_ids vs) (value-ids shape v (and-left (has_type schema shape v) (all_have_type schema shape vs) e)) (all-ids shape vs (and-right (has_type schema shape v) (all_have_type schema shape vs) e))

    pub typed-ids : (fields : List ParamRow) (vs : Values) → have_types schema fields vs ≡ true → ids_of_actors (actors_in_parts schema fields vs) ≡ all_actor_ids vs
    typed-ids [] values.Nothing e = refl
    typed-ids (field ∷ fields) values.Nothing e = cc
    typed-ids [] (First' at v more vs) e = cc
    typed-ids (field ∷ fields) (First' at v more vs) e =
        ids-append (actors_in schema field.shape v) (actors_in_parts schema fields vs) (actor_ids v) (all_actor_ids vs) (value-ids field.shape v (and-left (has_type schema field.shape v) (have_types schema fields vs) e)) (typed-ids fields vs (and-right (has_type schema field.shape v) (have_types schema fields vs) e))

-- The law

pub nulls_keep_types : NullsKeepTypes
nulls_keep_types = record { taken = nulled-typed; received = λ schema living row vs ws is. received-typed schema living row vs ws (is_some (missing schema living (returns_of_row row) vs)) is }
  where
    received-typed : (schema : Schema) (living : List LivingActor) (row : MessageRow) (vs ws : Values) (b : Bool) → (if b then answer.Fault ActorDestroyed else answer.Ok (nulled schema living (returns_of_row row) vs)) ≡ answer.Ok ws
        → have_types schema (returns_of_row row) ws ≡ have_types schema (returns_of_row row) vs
    received-typed schema living row vs ws true is = cc
    received-typed schema living row vs ws false is = let same : nulled schema living (returns_of_row row) vs ≡ ws = cc in ap (have_types schema (returns_of_row row)) (sym same) ∙ nulled-typed schema living (returns_of_row row) vs
