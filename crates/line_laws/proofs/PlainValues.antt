-- What laws of histories require of values does not depend on where boxes lie.
use Rattle.std.proofs.Common.{◌≡◌, ℕ, ℤ, Bool, true, false, not, ◌&&◌, ◌==◌, List, [], ◌∷◌, ◌++◌, find, is_none, Option, Some, None, option_map, refl, sym, ap, ◌∙◌}
use Rattle.ipdl_base.specs.declared.schema.ParamRow.{ParamRow}
use Rattle.ipdl_base.specs.declared.schema.Schema.{Schema}
use Rattle.ipdl_base.specs.declared.schema.Shape.{Shape}
use Rattle.ipdl_base.specs.declared.value.Value.{Value, Union', Maybe', Held-Value-Maybe-0, None', Some'}
use Rattle.ipdl_base.specs.declared.value.Value.TheVariants as value
use Rattle.ipdl_base.specs.declared.value.Values.{Values, First'}
use Rattle.ipdl_base.specs.declared.value.Values.TheVariants as values
use Rattle.ipdl_base.specs.Plain.{one_box, plain, plain_held, plain_values}
use Rattle.history_reading.specs.Nulled.{TypedActor, fields_of, component_of, element_of, held_by, first_shape, other_fields, actors_in, actors_held, actors_in_each, actors_in_fields, is_missing, is_dead, missing, all_live, nulled, nulled_held, nulled_each, nulled_fields, same_value, same_held, same_values, is_nulled}

mutual
  actors-plain : (schema : Schema) (shape : Option Shape) (v : Value) → actors_in schema shape (plain v) ≡ actors_in schema shape v
  actors-plain schema shape (value.Bool b) = refl
  actors-plain schema shape (value.Int n) = refl
  actors-plain schema shape (value.Text text) = refl
  actors-plain schema shape (value.Bytes bytes) = refl
  actors-plain schema shape (value.Bits bits) = refl
  actors-plain schema shape (value.Struct vs) = fields-plain schema (fields_of schema shape) vs
  actors-plain schema shape (Union' index _ v) = actors-plain schema (component_of schema shape index) v
  actors-plain schema shape (value.Array vs) = each-plain schema (element_of shape) vs
  actors-plain schema shape (Maybe' held) = held-plain schema (held_by shape) held
  actors-plain schema shape (value.Actor id) = refl

  held-plain : (schema : Schema) (shape : Option Shape) (held : Held-Value-Maybe-0) → actors_held schema shape (plain_held held) ≡ actors_held schema shape held
  held-plain schema shape None' = refl
  held-plain schema shape (Some' _ v) = actors-plain schema shape v

  each-plain : (schema : Schema) (shape : Option Shape) (vs : Values) → actors_in_each schema shape (plain_values vs) ≡ actors_in_each schema shape vs
  each-plain schema shape values.Nothing = refl
  each-plain schema shape (First' _ v _ vs) =
      ap (λ found. found ++ actors_in_each schema shape (plain_values vs)) (actors-plain schema shape v) ∙ ap (λ found. actors_in schema shape v ++ found) (each-plain schema shape vs)

  pub fields-plain : (schema : Schema) (fields : List ParamRow) (vs : Values) → actors_in_fields schema fields (plain_values vs) ≡ actors_in_fields schema fields vs
  fields-plain schema fields values.Nothing = refl
  fields-plain schema fields (First' _ v _ vs) =
      ap (λ found. found ++ actors_in_fields schema (other_fields fields) (plain_values vs)) (actors-plain schema (first_shape fields) v)
      ∙ ap (λ found. actors_in schema (first_shape fields) v ++ found) (fields-plain schema (other_fields fields) vs)

-- who is missing, and whether all live
pub missing-plain : (schema : Schema) (lives : ℤ → Bool) (params : List ParamRow) (vs : Values) → missing schema lives params (plain_values vs) ≡ missing schema lives params vs
missing-plain schema lives params vs = ap (λ found. option_map (λ (a : TypedActor). a.id) (find (is_missing lives) found)) (fields-plain schema params vs)

pub live-plain : (schema : Schema) (lives : ℤ → Bool) (params : List ParamRow) (vs : Values) → all_live schema lives params (plain_values vs) ≡ all_live schema lives params vs
live-plain schema lives params vs = ap (λ found. is_none (find (is_dead lives) found)) (fields-plain schema params vs)

mutual
  nulled-plain : (schema : Schema) (lives : ℤ → Bool) (shape : Option Shape) (v : Value) → nulled schema lives shape (plain v) ≡ plain (nulled schema lives shape v)
  nulled-plain schema lives shape (value.Bool b) = refl
  nulled-plain schema lives shape (value.Int n) = refl
  nulled-plain schema lives shape (value.Text text) = refl
  nulled-plain schema lives shape (value.Bytes bytes) = refl
  nulled-plain schema lives shape (value.Bits bits) = refl
  nulled-plain schema lives shape (value.Struct vs) = ap value.Struct (nulled_fields-plain schema lives (fields_of schema shape) vs)
  nulled-plain schema lives shape (Union' index at v) = ap (Union' index one_box) (nulled-plain schema lives (component_of schema shape index) v)
  nulled-plain schema lives shape (value.Array vs) = ap value.Array (nulled_each-plain schema lives (element_of shape) vs)
  nulled-plain schema lives shape (Maybe' held) = ap Maybe' (nulled_held-plain schema lives (held_by shape) held)
  nulled-plain schema lives shape (value.Actor id) = refl

  nulled_held-plain : (schema : Schema) (lives : ℤ → Bool) (shape : Option Shape) (held : Held-Value-Maybe-0) → nulled_held schema lives shape (plain_held held) ≡ plain_held (nulled_held schema lives shape held)
  nulled_held-plain schema lives shape None' = refl
  nulled_held-plain schema lives shape (Some' at v) = ap (Some' one_box) (nulled-plain schema lives shape v)

  nulled_each-plain : (schema : Schema) (lives : ℤ → Bool) (shape : Option Shape) (vs : Values) → nulled_each schema lives shape (plain_values vs) ≡ plain_values (nulled_each schema lives shape vs)
  nulled_each-plain schema lives shape values.Nothing = refl
  nulled_each-plain schema lives shape (First' at v more vs) =
      ap (λ x. First' one_box x one_box (nulled_each schema lives shape (plain_values vs))) (nulled-plain schema lives shape v)
      ∙ ap (First' one_box (plain (nulled schema lives shape v)) one_box) (nulled_each-plain schema lives shape vs)

  nulled_fields-plain : (schema : Schema) (lives : ℤ → Bool) (fields : List ParamRow) (vs : Values) → nulled_fields schema lives fields (plain_values vs) ≡ plain_values (nulled_fields schema lives fields vs)
  nulled_fields-plain schema lives fields values.Nothing = refl
  nulled_fields-plain schema lives fields (First' at v more vs) =
      ap (λ x. First' one_box x one_box (nulled_fields schema lives (other_fields fields) (plain_values vs))) (nulled-plain schema lives (first_shape fields) v)
      ∙ ap (First' one_box (plain (nulled schema lives (first_shape fields) v)) one_box) (nulled_fields-plain schema lives (other_fields fields) vs)

mutual
  same-plain : (a b : Value) → same_value (plain a) (plain b) ≡ same_value a b
  same-plain (value.Bool a) (value.Bool b) = refl
  same-plain (value.Bool a) (value.Int b) = refl
  same-plain (value.Bool a) (value.Text b) = refl
  same-plain (value.Bool a) (value.Bytes b) = refl
  same-plain (value.Bool a) (value.Bits b) = refl
  same-plain (value.Bool a) (value.Struct b) = refl
  same-plain (value.Bool a) (Union' j _ b) = refl
  same-plain (value.Bool a) (value.Array b) = refl
  same-plain (value.Bool a) (Maybe' b) = refl
  same-plain (value.Bool a) (value.Actor b) = refl
  same-plain (value.Int a) (value.Bool b) = refl
  same-plain (value.Int a) (value.Int b) = refl
  same-plain (value.Int a) (value.Text b) = refl
  same-plain (value.Int a) (value.Bytes b) = refl
  same-plain (value.Int a) (value.Bits b) = refl
  same-plain (value.Int a) (value.Struct b) = refl
  same-plain (value.Int a) (Union' j _ b) = refl
  same-plain (value.Int a) (value.Array b) = refl
  same-plain (value.Int a) (Maybe' b) = refl
  same-plain (value.Int a) (value.Actor b) = refl
  same-plain (value.Text a) (value.Bool b) = refl
  same-plain (value.Text a) (value.Int b) = refl
  same-plain (value.Text a) (value.Text b) = refl
  same-plain (value.Text a) (value.Bytes b) = refl
  same-plain (value.Text a) (value.Bits b) = refl
  same-plain (value.Text a) (value.Struct b) = refl
  same-plain (value.Text a) (Union' j _ b) = refl
  same-plain (value.Text a) (value.Array b) = refl
  same-plain (value.Text a) (Maybe' b) = refl
  same-plain (value.Text a) (value.Actor b) = refl
  same-plain (value.Bytes a) (value.Bool b) = refl
  same-plain (value.Bytes a) (value.Int b) = refl
  same-plain (value.Bytes a) (value.Text b) = refl
  same-plain (value.Bytes a) (value.Bytes b) = refl
  same-plain (value.Bytes a) (value.Bits b) = refl
  same-plain (value.Bytes a) (value.Struct b) = refl
  same-plain (value.Bytes a) (Union' j _ b) = refl
  same-plain (value.Bytes a) (value.Array b) = refl
  same-plain (value.Bytes a) (Maybe' b) = refl
  same-plain (value.Bytes a) (value.Actor b) = refl
  same-plain (value.Bits a) (value.Bool b) = refl
  same-plain (value.Bits a) (value.Int b) = refl
  same-plain (value.Bits a) (value.Text b) = refl
  same-plain (value.Bits a) (value.Bytes b) = refl
  same-plain (value.Bits a) (value.Bits b) = refl
  same-plain (value.Bits a) (value.Struct b) = refl
  same-plain (value.Bits a) (Union' j _ b) = refl
  same-plain (value.Bits a) (value.Array b) = refl
  same-plain (value.Bits a) (Maybe' b) = refl
  same-plain (value.Bits a) (value.Actor b) = refl
  same-plain (value.Struct a) (value.Bool b) = refl
  same-plain (value.Struct a) (value.Int b) = refl
  same-plain (value.Struct a) (value.Text b) = refl
  same-plain (value.Struct a) (value.Bytes b) = refl
  same-plain (value.Struct a) (value.Bits b) = refl
  same-plain (value.Struct a) (value.Struct b) = same_values-plain a b
  same-plain (value.Struct a) (Union' j _ b) = refl
  same-plain (value.Struct a) (value.Array b) = refl
  same-plain (value.Struct a) (Maybe' b) = refl
  same-plain (value.Struct a) (value.Actor b) = refl
  same-plain (Union' i _ a) (value.Bool b) = refl
  same-plain (Union' i _ a) (value.Int b) = refl
  same-plain (Union' i _ a) (value.Text b) = refl
  same-plain (Union' i _ a) (value.Bytes b) = refl
  same-plain (Union' i _ a) (value.Bits b) = refl
  same-plain (Union' i _ a) (value.Struct b) = refl
  same-plain (Union' i _ a) (Union' j _ b) = ap (λ same. (i == j) && same) (same-plain a b)
  same-plain (Union' i _ a) (value.Array b) = refl
  same-plain (Union' i _ a) (Maybe' b) = refl
  same-plain (Union' i _ a) (value.Actor b) = refl
  same-plain (value.Array a) (value.Bool b) = refl
  same-plain (value.Array a) (value.Int b) = refl
  same-plain (value.Array a) (value.Text b) = refl
  same-plain (value.Array a) (value.Bytes b) = refl
  same-plain (value.Array a) (value.Bits b) = refl
  same-plain (value.Array a) (value.Struct b) = refl
  same-plain (value.Array a) (Union' j _ b) = refl
  same-plain (value.Array a) (value.Array b) = same_values-plain a b
  same-plain (value.Array a) (Maybe' b) = refl
  same-plain (value.Array a) (value.Actor b) = refl
  same-plain (Maybe' a) (value.Bool b) = refl
  same-plain (Maybe' a) (value.Int b) = refl
  same-plain (Maybe' a) (value.Text b) = refl
  same-plain (Maybe' a) (value.Bytes b) = refl
  same-plain (Maybe' a) (value.Bits b) = refl
  same-plain (Maybe' a) (value.Struct b) = refl
  same-plain (Maybe' a) (Union' j _ b) = refl
  same-plain (Maybe' a) (value.Array b) = refl
  same-plain (Maybe' a) (Maybe' b) = same_held-plain a b
  same-plain (Maybe' a) (value.Actor b) = refl
  same-plain (value.Actor a) (value.Bool b) = refl
  same-plain (value.Actor a) (value.Int b) = refl
  same-plain (value.Actor a) (value.Text b) = refl
  same-plain (value.Actor a) (value.Bytes b) = refl
  same-plain (value.Actor a) (value.Bits b) = refl
  same-plain (value.Actor a) (value.Struct b) = refl
  same-plain (value.Actor a) (Union' j _ b) = refl
  same-plain (value.Actor a) (value.Array b) = refl
  same-plain (value.Actor a) (Maybe' b) = refl
  same-plain (value.Actor a) (value.Actor b) = refl

  same_held-plain : (a b : Held-Value-Maybe-0) → same_held (plain_held a) (plain_held b) ≡ same_held a b
  same_held-plain None' None' = refl
  same_held-plain None' (Some' _ b) = refl
  same_held-plain (Some' _ a) (Some' _ b) = same-plain a b
  same_held-plain (Some' _ a) None' = refl

  same_values-plain : (a b : Values) → same_values (plain_values a) (plain_values b) ≡ same_values a b
  same_values-plain (First' _ a _ xs) (First' _ b _ ys) =
      ap (λ same. same && same_values (plain_values xs) (plain_values ys)) (same-plain a b) ∙ ap (λ same. same_value a b && same) (same_values-plain xs ys)
  same_values-plain (First' _ a _ xs) values.Nothing = refl
  same_values-plain values.Nothing values.Nothing = refl
  same_values-plain values.Nothing (First' _ b _ ys) = refl

-- whether values are others with nulls put in
pub is_nulled-plain : (schema : Schema) (lives : ℤ → Bool) (params : List ParamRow) (sent got : Values) → is_nulled schema lives params (plain_values sent) (plain_values got) ≡ is_nulled schema lives params sent got
is_nulled-plain schema lives params sent got = ap (λ vs. same_values vs (plain_values got)) (nulled_fields-plain schema lives params sent) ∙ same_values-plain (nulled_fields schema lives params sent) got
