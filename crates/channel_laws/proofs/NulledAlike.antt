-- Values with null in the place of dead actors are the same by the world and by the lines, if the same actors live by
-- both.
use Rattle.std.proofs.Common.{◌≡◌, ℤ, pos, Bool, true, false, not, ◌&&◌, if◌then◌else◌, List, [], ◌∷◌, ◌++◌, Option, Some, None, refl, ap, ◌∙◌}
use Rattle.std.specs.List.{AllByRecursion}
use Rattle.std.specs.Option.{option_map_or}
use Rattle.std.specs.Prelude.{unwrap_or}
use Rattle.actor_tree.specs.declared.actor.Actor.{Actor as LivingActor}
use Rattle.history_reading.specs.Nulled as lines
use Rattle.ipdl_base.specs.declared.schema.ParamRow.{ParamRow}
use Rattle.ipdl_base.specs.declared.schema.Schema.{Schema}
use Rattle.ipdl_base.specs.declared.schema.Shape.{Shape, Builtin, Using, Actor, Named as NamedShape, Array', Maybe' as MaybeShape, Unique', Endpoint}
use Rattle.ipdl_base.specs.declared.value.Value.{Value, Union', Maybe', Held-Value-Maybe-0, None', Some'}
use Rattle.ipdl_base.specs.declared.value.Value.TheVariants as value
use Rattle.ipdl_base.specs.declared.value.Values.{Values, First'}
use Rattle.ipdl_base.specs.declared.value.Values.TheVariants as values
use Rattle.value_types.specs.Shapes as shapes
use Rattle.channel_model.specs.ValueActors as world
use Rattle.channel_model.specs.ValueActors.{ActorValue, lives_as}
use Rattle.channel_laws.specs.ValueReadings.{LivesAlike}

-- A value that is not of its type stays

mutual
  untyped-value : (schema : Schema) (lives : ℤ → Bool) (v : Value) → lines.nulled schema lives None v ≡ v
  untyped-value schema lives (value.Bool b) = refl
  untyped-value schema lives (value.Int n) = refl
  untyped-value schema lives (value.Text text) = refl
  untyped-value schema lives (value.Bytes bytes) = refl
  untyped-value schema lives (value.Bits bits) = refl
  untyped-value schema lives (value.Struct vs) = ap (λ (x : Values). value.Struct x) (untyped-fields schema lives vs)
  untyped-value schema lives (Union' index at v) = ap (λ (x : Value). Union' index at x) (untyped-value schema lives v)
  untyped-value schema lives (value.Array vs) = ap (λ (x : Values). value.Array x) (untyped-each schema lives vs)
  untyped-value schema lives (Maybe' held) = ap (λ (x : Held-Value-Maybe-0). Maybe' x) (untyped-held schema lives held)
  untyped-value schema lives (value.Actor id) = refl

  untyped-held : (schema : Schema) (lives : ℤ → Bool) (held : Held-Value-Maybe-0) → lines.nulled_held schema lives None held ≡ held
  untyped-held schema lives None' = refl
  untyped-held schema lives (Some' at v) = ap (λ (x : Value). Some' at x) (untyped-value schema lives v)

  untyped-each : (schema : Schema) (lives : ℤ → Bool) (vs : Values) → lines.nulled_each schema lives None vs ≡ vs
  untyped-each schema lives values.Nothing = refl
  untyped-each schema lives (First' at v more vs) = ap (λ (x : Value). First' at x more (lines.nulled_each schema lives None vs)) (untyped-value schema lives v) ∙ ap (λ (x : Values). First' at v more x) (untyped-each schema lives vs)

  untyped-fields : (schema : Schema) (lives : ℤ → Bool) (vs : Values) → lines.nulled_fields schema lives [] vs ≡ vs
  untyped-fields schema lives values.Nothing = refl
  untyped-fields schema lives (First' at v more vs) = ap (λ (x : Value). First' at x more (lines.nulled_fields schema lives [] vs)) (untyped-value schema lives v) ∙ ap (λ (x : Values). First' at v more x) (untyped-fields schema lives vs)

-- The same actors of a value live by both

module _ (schema : Schema) (actors : List LivingActor) (lives : ℤ → Bool) where
  before : (xs ys : List ActorValue) → AllByRecursion (LivesAlike actors lives) (xs ++ ys) → AllByRecursion (LivesAlike actors lives) xs
  before [] ys h = tt
  before (x ∷ xs) ys h = (h.0, before xs ys h.1)

  following : (xs ys : List ActorValue) → AllByRecursion (LivesAlike actors lives) (xs ++ ys) → AllByRecursion (LivesAlike actors lives) ys
  following [] ys h = h
  following (x ∷ xs) ys h = following xs ys h.1

  null-or : (b c : Bool) (id : ℤ) → c ≡ b → (if true && not b then pos 0 else id) ≡ (if c then id else pos 0)
  null-or true true id e = refl
  null-or false false id e = refl
  null-or true false id e = cc
  null-or false true id e = cc

  same-id : (shape : Shape) (id : ℤ) → AllByRecursion (LivesAlike actors lives) (world.actor_at shape id) → lines.nulled_id lives (Some shape) id ≡ world.received_id actors shape id
  same-id (Actor protocol true) id h = null-or (lives id) (lives_as actors protocol id) id h.0
  same-id (Actor protocol false) id h = refl
  same-id (Builtin b) id h = refl
  same-id (Using name) id h = refl
  same-id (NamedShape t) id h = refl
  same-id (Array' at s) id h = refl
  same-id (MaybeShape at s) id h = refl
  same-id (Unique' at s) id h = refl
  same-id (Endpoint p managed) id h = refl

  same-component : (component : Option Shape) (v : Value) → ((c : Shape) → AllByRecursion (LivesAlike actors lives) (world.actors_in schema c v) → lines.nulled schema lives (Some c) v ≡ world.nulled_value schema actors c v) → AllByRecursion (LivesAlike actors lives) (option_map_or (λ (c : Shape). world.actors_in schema c v) component []) → lines.nulled schema lives component v ≡ option_map_or (λ (c : Shape). world.nulled_value schema actors c v) component v
  same-component None v rec h = untyped-value schema lives v
  same-component (Some c) v rec h = rec c h

  same-element : (element : Option Shape) (vs : Values) → ((c : Shape) → AllByRecursion (LivesAlike actors lives) (world.actors_in_all schema c vs) → lines.nulled_each schema lives (Some c) vs ≡ world.nulled_all schema actors c vs) → AllByRecursion (LivesAlike actors lives) (option_map_or (λ (c : Shape). world.actors_in_all schema c vs) element []) → lines.nulled_each schema lives element vs ≡ option_map_or (λ (c : Shape). world.nulled_all schema actors c vs) element vs
  same-element None vs rec h = untyped-each schema lives vs
  same-element (Some c) vs rec h = rec c h

  same-inner : (inner : Option Shape) (held : Held-Value-Maybe-0) → ((c : Shape) → AllByRecursion (LivesAlike actors lives) (world.actors_held schema c held) → lines.nulled_held schema lives (Some c) held ≡ world.nulled_held schema actors c held) → AllByRecursion (LivesAlike actors lives) (option_map_or (λ (c : Shape). world.actors_held schema c held) inner []) → lines.nulled_held schema lives inner held ≡ option_map_or (λ (c : Shape). world.nulled_held schema actors c held) inner held
  same-inner None held rec h = untyped-held schema lives held
  same-inner (Some c) held rec h = rec c h

  mutual
    pub same-value : (shape : Shape) (v : Value) → AllByRecursion (LivesAlike actors lives) (world.actors_in schema shape v) → lines.nulled schema lives (Some shape) v ≡ world.nulled_value schema actors shape v
    same-value shape (value.Bool b) h = refl
    same-value shape (value.Int n) h = refl
    same-value shape (value.Text text) h = refl
    same-value shape (value.Bytes bytes) h = refl
    same-value shape (value.Bits bits) h = refl
    same-value shape (value.Struct vs) h = ap (λ (x : Values). value.Struct x) (same-fields (unwrap_or (shapes.fields_of schema shape) []) vs h)
    same-value shape (Union' index at v) h = ap (λ (x : Value). Union' index at x) (same-component (shapes.component_of schema shape index) v (λ c k. same-value c v k) h)
    same-value shape (value.Array vs) h = ap (λ (x : Values). value.Array x) (same-element (shapes.element_of shape) vs (λ c k. same-all c vs k) h)
    same-value shape (Maybe' held) h = ap (λ (x : Held-Value-Maybe-0). Maybe' x) (same-inner (shapes.held_by shape) held (λ c k. same-held c held k) h)
    same-value shape (value.Actor id) h = ap (λ (x : ℤ). value.Actor x) (same-id shape id h)

    same-held : (shape : Shape) (held : Held-Value-Maybe-0) → AllByRecursion (LivesAlike actors lives) (world.actors_held schema shape held) → lines.nulled_held schema lives (Some shape) held ≡ world.nulled_held schema actors shape held
    same-held shape None' h = refl
    same-held shape (Some' at v) h = ap (λ (x : Value). Some' at x) (same-value shape v h)

    same-all : (shape : Shape) (vs : Values) → AllByRecursion (LivesAlike actors lives) (world.actors_in_all schema shape vs) → lines.nulled_each schema lives (Some shape) vs ≡ world.nulled_all schema actors shape vs
    same-all shape values.Nothing h = refl
    same-all shape (First' at v more vs) h =
        ap (λ (x : Value). First' at x more (lines.nulled_each schema lives (Some shape) vs)) (same-value shape v (before (world.actors_in schema shape v) (world.actors_in_all schema shape vs) h))
        ∙ ap (λ (x : Values). First' at (world.nulled_value schema actors shape v) more x) (same-all shape vs (following (world.actors_in schema shape v) (world.actors_in_all schema shape vs) h))

    pub same-fields : (fields : List ParamRow) (vs : Values) → AllByRecursion (LivesAlike actors lives) (world.actors_in_parts schema fields vs) → lines.nulled_fields schema lives fields vs ≡ world.nulled schema actors fields vs
    same-fields [] vs h = untyped-fields schema lives vs
    same-fields (field ∷ fields) values.Nothing h = refl
    same-fields (field ∷ fields) (First' at v more vs) h =
        ap (λ (x : Value). First' at x more (lines.nulled_fields schema lives fields vs)) (same-value field.shape v (before (world.actors_in schema field.shape v) (world.actors_in_parts schema fields vs) h))
        ∙ ap (λ (x : Values). First' at (world.nulled_value schema actors field.shape v) more x) (same-fields fields vs (following (world.actors_in schema field.shape v) (world.actors_in_parts schema fields vs) h))
