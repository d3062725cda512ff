-- If no actor in values is missing, each is null or lives once those that do not live are null.
use Rattle.std.proofs.Common.{◌≡◌, ℤ, pos, Bool, true, false, not, ◌&&◌, cond, if◌then◌else◌, int_eq, List, [], ◌∷◌, ◌++◌, find, map, Option, Some, None, is_none, option_map, refl, sym, ap, ◌∙◌}
use Rattle.std.proofs.lemmas.List.{map-append}
use Rattle.history_reading.specs.Nulled
use Rattle.history_reading.specs.Nulled.{TypedActor, is_nullable, named_actors, nulled_id, fields_of, component_of, element_of, held_by, first_shape, other_fields}
use Rattle.ipdl_base.specs.declared.schema.ParamRow.{ParamRow}
use Rattle.ipdl_base.specs.declared.schema.Schema.{Schema}
use Rattle.ipdl_base.specs.declared.schema.Shape.{Shape, Builtin, Using, Actor, Named, Array', Maybe' as MaybeShape, Unique', Endpoint}
use Rattle.ipdl_base.specs.declared.value.Value.{Value, Union', Maybe', Held-Value-Maybe-0, None', Some'}
use Rattle.ipdl_base.specs.declared.value.Value.TheVariants as value
use Rattle.ipdl_base.specs.declared.value.Values.{Values, First'}
use Rattle.ipdl_base.specs.declared.value.Values.TheVariants as values

module _ (schema : Schema) (lives : ℤ → Bool) where
  -- an actor with null in its place, if it does not live and its type is nullable
  abbrev null_or : TypedActor → TypedActor
  null_or a = record { nullable = a.nullable; id = if a.nullable && not (lives a.id) then pos 0 else a.id }

  nulled-at : (shape : Option Shape) (id : ℤ) → named_actors shape (nulled_id lives shape id) ≡ map null_or (named_actors shape id)
  nulled-at None id = refl
  nulled-at (Some (Actor p nullable)) id = refl
  nulled-at (Some (Builtin b)) id = refl
  nulled-at (Some (Using name)) id = refl
  nulled-at (Some (Named t)) id = refl
  nulled-at (Some (Array' at s)) id = refl
  nulled-at (Some (MaybeShape at s)) id = refl
  nulled-at (Some (Unique' at s)) id = refl
  nulled-at (Some (Endpoint p managed)) id = refl

  both-nulled : (few more xs ys : List TypedActor) → few ≡ map null_or xs → more ≡ map null_or ys → few ++ more ≡ map null_or (xs ++ ys)
  both-nulled few more xs ys a b = ap (λ (l : List TypedActor). l ++ more) a ∙ (ap (λ (l : List TypedActor). map null_or xs ++ l) b ∙ sym (map-append null_or xs ys))

  mutual
    nulled-actors : (shape : Option Shape) (v : Value) → Nulled.actors_in schema shape (Nulled.nulled schema lives shape v) ≡ map null_or (Nulled.actors_in schema shape v)
    nulled-actors shape (value.Bool b) = refl
    nulled-actors shape (value.Int n) = refl
    nulled-actors shape (value.Text text) = refl
    nulled-actors shape (value.Bytes bytes) = refl
    nulled-actors shape (value.Bits bits) = refl
    nulled-actors shape (value.Struct vs) = nulled-parts (fields_of schema shape) vs
    nulled-actors shape (Union' index at v) = nulled-actors (component_of schema shape index) v
    nulled-actors shape (value.Array vs) = nulled-each (element_of shape) vs
    nulled-actors shape (Maybe' held) = nulled-held (held_by shape) held
    nulled-actors shape (value.Actor id) = nulled-at shape id

    nulled-held : (shape : Option Shape) (held : Held-Value-Maybe-0) → Nulled.actors_held schema shape (Nulled.nulled_held schema lives shape held) ≡ map null_or (Nulled.actors_held schema shape held)
    nulled-held shape None' = refl
    nulled-held shape (Some' at v) = nulled-actors shape v

    nulled-each : (shape : Option Shape) (vs : Values) → Nulled.actors_in_each schema shape (Nulled.nulled_each schema lives shape vs) ≡ map null_or (Nulled.actors_in_each schema shape vs)
    nulled-each shape values.Nothing = refl
    nulled-each shape (First' at v more vs) =
        both-nulled (Nulled.actors_in schema shape (Nulled.nulled schema lives shape v)) (Nulled.actors_in_each schema shape (Nulled.nulled_each schema lives shape vs)) (Nulled.actors_in schema shape v) (Nulled.actors_in_each schema shape vs) (nulled-actors shape v) (nulled-each shape vs)

    nulled-parts : (fields : List ParamRow) (vs : Values) → Nulled.actors_in_fields schema fields (Nulled.nulled_fields schema lives fields vs) ≡ map null_or (Nulled.actors_in_fields schema fields vs)
    nulled-parts fields values.Nothing = refl
    nulled-parts fields (First' at v more vs) =
        both-nulled (Nulled.actors_in schema (first_shape fields) (Nulled.nulled schema lives (first_shape fields) v)) (Nulled.actors_in_fields schema (other_fields fields) (Nulled.nulled_fields schema lives (other_fields fields) vs)) (Nulled.actors_in schema (first_shape fields) v) (Nulled.actors_in_fields schema (other_fields fields) vs)
        (nulled-actors (first_shape fields) v) (nulled-parts (other_fields fields) vs)

  live-or : (zero live : Bool) → live ≡ true → not zero && not live ≡ false
  live-or true live e = refl
  live-or false true e = refl
  live-or false false e = cc

  -- an actor that is not missing is not dead once it is nulled
  one-live : (a : TypedActor) (b l : Bool) → a.nullable ≡ b → lives a.id ≡ l → not b && not l ≡ false → Nulled.is_dead lives (null_or a) ≡ false
  one-live a b true is alive e =
      ap (λ (id : ℤ). not (int_eq id (pos 0)) && not (lives id)) (ap (λ (x : Bool). if a.nullable && not x then pos 0 else a.id) alive ∙ stays a.nullable) ∙ live-or (int_eq a.id (pos 0)) (lives a.id) alive
    where
      stays : (n : Bool) → (if n && not true then pos 0 else a.id) ≡ a.id
      stays true = refl
      stays false = refl
  one-live a true false is dead e = ap (λ (id : ℤ). not (int_eq id (pos 0)) && not (lives id)) (ap (λ (x : Bool). if x && not (lives a.id) then pos 0 else a.id) is ∙ ap (λ (x : Bool). if true && not x then pos 0 else a.id) dead)
  one-live a false false is dead e = cc

  none-missing : (xs : List TypedActor) → option_map (λ (a : TypedActor). a.id) (find (Nulled.is_missing lives) xs) ≡ None → find (Nulled.is_dead lives) (map null_or xs) ≡ None
  none-missing [] e = refl
  none-missing (a ∷ xs) e = by (Nulled.is_missing lives a) refl e (none-missing xs)
    where
      by : (b : Bool) → Nulled.is_missing lives a ≡ b → option_map (λ (x : TypedActor). x.id) (cond b (Some a) (find (Nulled.is_missing lives) xs)) ≡ None → (option_map (λ (x : TypedActor). x.id) (find (Nulled.is_missing lives) xs) ≡ None → find (Nulled.is_dead lives) (map null_or xs) ≡ None)
          → find (Nulled.is_dead lives) (map null_or (a ∷ xs)) ≡ None
      by true is e rec = cc
      by false is e rec = ap (λ (b : Bool). cond b (Some (null_or a)) (find (Nulled.is_dead lives) (map null_or xs))) (one-live a a.nullable (lives a.id) refl refl is) ∙ rec e

  pub nulled-live : (fields : List ParamRow) (vs : Values) → Nulled.missing schema lives fields vs ≡ None → Nulled.all_live schema lives fields (Nulled.nulled_fields schema lives fields vs) ≡ true
  nulled-live fields vs e =
      ap (λ (l : List TypedActor). is_none (find (Nulled.is_dead lives) l)) (nulled-parts fields vs) ∙ ap (λ (o : Option TypedActor). is_none o) (none-missing (Nulled.actors_in_fields schema fields vs) e)
