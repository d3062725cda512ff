-- Whether values have their types, as a test that computes.
use Rattle.std.specs.Prelude.{ℕ, ◌^◌, nat_lt, ℤ, pos, int_le, Bool, true, false, not, ◌&&◌, ◌||◌, List, [], ◌∷◌, option_and_then}
use Rattle.std.specs.Option.{option_map_or}
use Rattle.std.specs.Ordering.{int_eq}
use Rattle.std.specs.Str.{is_utf8}
use Rattle.ipdl_base.specs.declared.builtin.Builtin.TheVariants as builtin
use Rattle.ipdl_base.specs.declared.schema.ParamRow.{ParamRow}
use Rattle.ipdl_base.specs.declared.schema.Schema.{Schema}
use Rattle.ipdl_base.specs.declared.schema.Shape.{Shape, Builtin, Actor}
use Rattle.ipdl_base.specs.declared.value.Value.{Value, Union', Maybe', Held-Value-Maybe-0, None', Some'}
use Rattle.ipdl_base.specs.declared.value.Value.TheVariants as value
use Rattle.ipdl_base.specs.declared.value.Values.{Values, First'}
use Rattle.ipdl_base.specs.declared.value.Values.TheVariants as values
use Rattle.value_types.specs.Shapes.{range_of, float_bits, builtin_of, is_bytes, element_of, held_by, fields_of, component_of}

abbrev pub is_bool : Shape → Bool
is_bool (Builtin builtin.Bool) = true
is_bool _ = false

abbrev pub is_text : Shape → Bool
is_text (Builtin builtin.NsString) = true
is_text _ = false

abbrev pub is_within : ℤ → ℤ × ℤ → Bool
is_within n range = int_le range.0 n && int_le n range.1

abbrev pub is_in_range : Shape → ℤ → Bool
is_in_range shape n = option_map_or (is_within n) (option_and_then range_of (builtin_of shape)) false

abbrev pub is_within_bits : Shape → ℕ → Bool
is_within_bits shape n = option_map_or (λ bits. nat_lt n (2 ^ bits)) (option_and_then float_bits (builtin_of shape)) false

abbrev pub is_actor_of : Shape → ℤ → Bool
is_actor_of (Actor p nullable) id = nullable || not (int_eq id (pos 0))
is_actor_of _ id = false

-- a value has a type: `HasType` of value_types, case by case
abbrev mutual
  pub has_type : Schema → Shape → Value → Bool
  has_type schema shape (value.Bool b) = is_bool shape
  has_type schema shape (value.Int n) = is_in_range shape n
  has_type schema shape (value.Text text) = is_text shape && is_utf8 text
  has_type schema shape (value.Bytes bytes) = is_bytes shape
  has_type schema shape (value.Bits bits) = is_within_bits shape bits
  has_type schema shape (value.Struct vs) = option_map_or (λ fields. have_types schema fields vs) (fields_of schema shape) false
  has_type schema shape (Union' index _ v) = option_map_or (λ component. has_type schema component v) (component_of schema shape index) false
  has_type schema shape (value.Array vs) = option_map_or (λ element. all_have_type schema element vs) (element_of shape) false
  has_type schema shape (Maybe' held) = option_map_or (λ inner. held_has_type schema inner held) (held_by shape) false
  has_type schema shape (value.Actor id) = is_actor_of shape id

  pub held_has_type : Schema → Shape → Held-Value-Maybe-0 → Bool
  held_has_type schema shape None' = true
  held_has_type schema shape (Some' _ v) = has_type schema shape v

  pub all_have_type : Schema → Shape → Values → Bool
  all_have_type schema shape values.Nothing = true
  all_have_type schema shape (First' _ v _ vs) = has_type schema shape v && all_have_type schema shape vs

  pub have_types : Schema → List ParamRow → Values → Bool
  have_types schema [] values.Nothing = true
  have_types schema (field ∷ fields) values.Nothing = false
  have_types schema [] (First' _ v _ vs) = false
  have_types schema (field ∷ fields) (First' _ v _ vs) = has_type schema field.shape v && have_types schema fields vs
