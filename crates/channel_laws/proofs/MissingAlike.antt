-- The actors in values, and the first missing one, are the same by the world and by the lines, if the same actors
-- live by both.
use Rattle.std.proofs.Common.{◌≡◌, ℤ, Bool, true, false, not, ◌&&◌, cond, List, [], ◌∷◌, ◌++◌, find, map, Option, Some, None, option_map, refl, sym, ap, ◌∙◌}
use Rattle.std.specs.List.{AllByRecursion}
use Rattle.std.specs.Option.{option_map_or}
use Rattle.std.specs.Prelude.{unwrap_or}
use Rattle.std.proofs.lemmas.List.{map-append}
use Rattle.actor_tree.specs.declared.actor.Actor.{Actor as LivingActor}
use Rattle.history_reading.specs.Nulled as lines
use Rattle.history_reading.specs.Nulled.{TypedActor}
use Rattle.ipdl_base.specs.declared.schema.ParamRow.{ParamRow}
use Rattle.ipdl_base.specs.declared.schema.Schema.{Schema}
use Rattle.ipdl_base.specs.declared.schema.Shape.{Shape, Builtin, Using, Actor, Named as NamedShape, Array', Maybe' as MaybeShape, Unique', Endpoint}
use Rattle.ipdl_base.specs.declared.value.Value.{Value, Union', Maybe', Held-Value-Maybe-0, None', Some'}
use Rattle.ipdl_base.specs.declared.value.Value.TheVariants as value
use Rattle.ipdl_base.specs.declared.value.Values.{Values, First'}
use Rattle.ipdl_base.specs.declared.value.Values.TheVariants as values
use Rattle.value_types.specs.Shapes as shapes
use Rattle.channel_model.specs.ValueActors as world
use Rattle.channel_model.specs.ValueActors.{ActorValue, lives_as}
use Rattle.channel_laws.specs.ValueReadings.{LivesAlike, ValuesAreReadAlike}
use Rattle.channel_laws.proofs.NulledAlike.{same-fields}

abbrev pub named : ActorValue → TypedActor
named a = record { nullable = a.nullable; id = a.id }

-- A value that is not of its type has no actors

both-none : (xs ys : List TypedActor) → xs ≡ [] → ys ≡ [] → xs ++ ys ≡ []
both-none xs ys a b = ap (λ (l : List TypedActor). l ++ ys) a ∙ b

mutual
  untyped-value : (schema : Schema) (v : Value) → lines.actors_in schema None v ≡ []
  untyped-value schema (value.Bool b) = refl
  untyped-value schema (value.Int n) = refl
  untyped-value schema (value.Text text) = refl
  untyped-value schema (value.Bytes bytes) = refl
  untyped-value schema (value.Bits bits) = refl
  untyped-value schema (value.Struct vs) = untyped-fields schema vs
  untyped-value schema (Union' index at v) = untyped-value schema v
  untyped-value schema (value.Array vs) = untyped-each schema vs
  untyped-value schema (Maybe' held) = untyped-held schema held
  untyped-value schema (value.Actor id) = refl

  untyped-held : (schema : Schema) (held : Held-Value-Maybe-0) → lines.actors_held schema None held ≡ []
  untyped-held schema None' = refl
  untyped-held schema (Some' at v) = untyped-value schema v

  untyped-each : (schema : Schema) (vs : Values) → lines.actors_in_each schema None vs ≡ []
  untyped-each schema values.Nothing = refl
  untyped-each schema (First' at v more vs) = both-none (lines.actors_in schema None v) (lines.actors_in_each schema None vs) (untyped-value schema v) (untyped-each schema vs)

  untyped-fields : (schema : Schema) (vs : Values) → lines.actors_in_fields schema [] vs ≡ []
  untyped-fields schema values.Nothing = refl
  untyped-fields schema (First' at v more vs) = both-none (lines.actors_in schema None v) (lines.actors_in_fields schema [] vs) (untyped-value schema v) (untyped-fields schema vs)

both-named : (xs ys : List TypedActor) (few rest : List ActorValue) → xs ≡ map named few → ys ≡ map named rest → xs ++ ys ≡ map named (few ++ rest)
both-named xs ys few rest a b = ap (λ (l : List TypedActor). l ++ ys) a ∙ (ap (λ (l : List TypedActor). map named few ++ l) b ∙ sym (map-append named few rest))

same-at : (shape : Shape) (id : ℤ) → lines.named_actors (Some shape) id ≡ map named (world.actor_at shape id)
same-at (Actor protocol nullable) id = refl
same-at (Builtin b) id = refl
same-at (Using name) id = refl
same-at (NamedShape t) id = refl
same-at (Array' at s) id = refl
same-at (MaybeShape at s) id = refl
same-at (Unique' at s) id = refl
same-at (Endpoint p managed) id = refl

module _ (schema : Schema) where
  some-type : (A : Type 0) (f : Option Shape → List TypedActor) (g : Shape → List ActorValue) (shape : Option Shape) → f None ≡ [] → ((c : Shape) → f (Some c) ≡ map named (g c)) → f shape ≡ map named (option_map_or g shape [])
  some-type A f g None none some = none
  some-type A f g (Some c) none some = some c

  mutual
    pub same-actors : (shape : Shape) (v : Value) → lines.actors_in schema (Some shape) v ≡ map named (world.actors_in schema shape v)
    same-actors shape (value.Bool b) = refl
    same-actors shape (value.Int n) = refl
    same-actors shape (value.Text text) = refl
    same-actors shape (value.Bytes bytes) = refl
    same-actors shape (value.Bits bits) = refl
    same-actors shape (value.Struct vs) = same-parts (unwrap_or (shapes.fields_of schema shape) []) vs
    same-actors shape (Union' index at v) = some-type Value (λ c. lines.actors_in schema c v) (λ c. world.actors_in schema c v) (shapes.component_of schema shape index) (untyped-value schema v) (λ c. same-actors c v)
    same-actors shape (value.Array vs) = some-type Value (λ c. lines.actors_in_each schema c vs) (λ c. world.actors_in_all schema c vs) (shapes.element_of shape) (untyped-each schema vs) (λ c. same-all c vs)
    same-actors shape (Maybe' held) = some-type Value (λ c. lines.actors_held schema c held) (λ c. world.actors_held schema c held) (shapes.held_by shape) (untyped-held schema held) (λ c. same-held c held)
    same-actors shape (value.Actor id) = same-at shape id

    same-held : (shape : Shape) (held : Held-Value-Maybe-0) → lines.actors_held schema (Some shape) held ≡ map named (world.actors_held schema shape held)
    same-held shape None' = refl
    same-held shape (Some' at v) = same-actors shape v

    same-all : (shape : Shape) (vs : Values) → lines.actors_in_each schema (Some shape) vs ≡ map named (world.actors_in_all schema shape vs)
    same-all shape values.Nothing = refl
    same-all shape (First' at v more vs) = both-named (lines.actors_in schema (Some shape) v) (lines.actors_in_each schema (Some shape) vs) (world.actors_in schema shape v) (world.actors_in_all schema shape vs) (same-actors shape v) (same-all shape vs)

    pub same-parts : (fields : List ParamRow) (vs : Values) → lines.actors_in_fields schema fields vs ≡ map named (world.actors_in_parts schema fields vs)
    same-parts [] vs = untyped-fields schema vs
    same-parts (field ∷ fields) values.Nothing = refl
    same-parts (field ∷ fields) (First' at v more vs) = both-named (lines.actors_in schema (Some field.shape) v) (lines.actors_in_fields schema fields vs) (world.actors_in schema field.shape v) (world.actors_in_parts schema fields vs) (same-actors field.shape v) (same-parts fields vs)

  -- the first that is missing

  found-alike : (b c : Bool) (a : ActorValue) (x : Option TypedActor) (y : Option ActorValue) → b ≡ c → option_map (λ (n : TypedActor). n.id) x ≡ option_map (λ (n : ActorValue). n.id) y → option_map (λ (n : TypedActor). n.id) (cond b (Some (named a)) x) ≡ option_map (λ (n : ActorValue). n.id) (cond c (Some a) y)
  found-alike true true a x y e rec = refl
  found-alike false false a x y e rec = rec
  found-alike true false a x y e rec = cc
  found-alike false true a x y e rec = cc

  first-missing : (actors : List LivingActor) (lives : ℤ → Bool) (few : List ActorValue) → AllByRecursion (LivesAlike actors lives) few
      → option_map (λ (n : TypedActor). n.id) (find (lines.is_missing lives) (map named few)) ≡ option_map (λ (a : ActorValue). a.id) (find (λ a. not a.nullable && world.is_dead actors a) few)
  first-missing actors lives [] h = refl
  first-missing actors lives (a ∷ few) h =
      found-alike (lines.is_missing lives (named a)) (not a.nullable && world.is_dead actors a) a (find (lines.is_missing lives) (map named few)) (find (λ a. not a.nullable && world.is_dead actors a) few)
      (ap (λ (b : Bool). not a.nullable && not b) (sym h.0)) (first-missing actors lives few h.1)

  pub same-missing : (actors : List LivingActor) (lives : ℤ → Bool) (fields : List ParamRow) (vs : Values) → AllByRecursion (LivesAlike actors lives) (world.actors_in_parts schema fields vs) → lines.missing schema lives fields vs ≡ world.missing schema actors fields vs
  same-missing actors lives fields vs h =
      ap (λ (l : List TypedActor). option_map (λ (n : TypedActor). n.id) (find (lines.is_missing lives) l)) (same-parts fields vs) ∙ first-missing actors lives (world.actors_in_parts schema fields vs) h

pub values_are_read_alike : ValuesAreReadAlike
values_are_read_alike = record { nulled = same-fields; missing = same-missing }
