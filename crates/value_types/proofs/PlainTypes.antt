-- Values of types whose boxes are elsewhere.
use Rattle.std.proofs.Common.{◌≡◌, ◌∙◌, ℕ, ◌+◌, ◌<◌, ◌^◌, List, [], ◌++◌, Option, Some, None, refl, ap, unwrap_or}
use Rattle.std.specs.Prelude.{ℤ, ◌≤ℤ◌, IsTrue, IsSomeAnd, codes, option_map, option_and_then}
use Rattle.std.specs.Str.{IsUtf8}
use Rattle.ipdl_base.specs.declared.builtin.Builtin.TheVariants as builtin
use Rattle.std.specs.Fmt.{decimal}
use Rattle.std.specs.Option.{option_map_or}
use Rattle.ipdl_base.specs.declared.schema.Schema.{Schema}
use Rattle.ipdl_base.specs.declared.schema.Shape.{Shape, Builtin, Using, Actor, Named, Array', Maybe', Unique', Endpoint}
use Rattle.ipdl_base.specs.declared.value.Value.{Value, Union', Held-Value-Maybe-0, None', Some'}
use Rattle.ipdl_base.specs.declared.value.Value as boxed
use Rattle.ipdl_base.specs.declared.value.Value.TheVariants as value
use Rattle.ipdl_base.specs.declared.value.Values.{Values, First'}
use Rattle.ipdl_base.specs.declared.value.Values.TheVariants as values
use Rattle.ipdl_base.specs.Plain.{plain_shape}
use Rattle.value_types.specs.declared.layout.Layout.{Layout}
use Rattle.value_types.specs.Shapes.{range_of, float_bits, builtin_of, is_bytes, element_of, held_by, row_of, fields_in, fields_of, component_in, component_of}
use Rattle.value_types.specs.HasType.{HasType, HeldHasType, AllHaveType, HaveTypes, IsActorOf}
use Rattle.value_types.specs.Sizes.{padded, value_size, held_size, elements_size, values_size, number_bytes}
use Rattle.value_types.specs.ValueText.{value_text, held_text, elements_text, parts_text, hex_digits, digit_count_of}

-- the kind of a type, and the types of the parts of its values
pub builtin_of-plain : (shape : Shape) → builtin_of (plain_shape shape) ≡ builtin_of shape
builtin_of-plain (Builtin b) = refl
builtin_of-plain (Using name) = refl
builtin_of-plain (Actor p nullable) = refl
builtin_of-plain (Named t) = refl
builtin_of-plain (Array' _ s) = refl
builtin_of-plain (Maybe' _ s) = refl
builtin_of-plain (Unique' _ s) = refl
builtin_of-plain (Endpoint p managed) = refl

pub is_bytes-plain : (shape : Shape) → is_bytes (plain_shape shape) ≡ is_bytes shape
is_bytes-plain (Builtin b) = refl
is_bytes-plain (Using name) = refl
is_bytes-plain (Actor p nullable) = refl
is_bytes-plain (Named t) = refl
is_bytes-plain (Array' _ s) = refl
is_bytes-plain (Maybe' _ s) = refl
is_bytes-plain (Unique' _ s) = refl
is_bytes-plain (Endpoint p managed) = refl

row_of-plain : (schema : Schema) (shape : Shape) → row_of schema (plain_shape shape) ≡ row_of schema shape
row_of-plain schema (Builtin b) = refl
row_of-plain schema (Using name) = refl
row_of-plain schema (Actor p nullable) = refl
row_of-plain schema (Named t) = refl
row_of-plain schema (Array' _ s) = refl
row_of-plain schema (Maybe' _ s) = refl
row_of-plain schema (Unique' _ s) = refl
row_of-plain schema (Endpoint p managed) = refl

fields_of-plain : (schema : Schema) (shape : Shape) → fields_of schema (plain_shape shape) ≡ fields_of schema shape
fields_of-plain schema shape = λ i. option_and_then fields_in (row_of-plain schema shape i)

component_of-plain : (schema : Schema) (shape : Shape) (index : ℕ) → component_of schema (plain_shape shape) index ≡ component_of schema shape index
component_of-plain schema shape index = λ i. option_and_then (component_in index) (row_of-plain schema shape i)

pub element_of-plain : (shape : Shape) → element_of (plain_shape shape) ≡ option_map plain_shape (element_of shape)
element_of-plain (Builtin b) = refl
element_of-plain (Using name) = refl
element_of-plain (Actor p nullable) = refl
element_of-plain (Named t) = refl
element_of-plain (Array' _ s) = refl
element_of-plain (Maybe' _ s) = refl
element_of-plain (Unique' _ s) = refl
element_of-plain (Endpoint p managed) = refl

pub held_by-plain : (shape : Shape) → held_by (plain_shape shape) ≡ option_map plain_shape (held_by shape)
held_by-plain (Builtin b) = refl
held_by-plain (Using name) = refl
held_by-plain (Actor p nullable) = refl
held_by-plain (Named t) = refl
held_by-plain (Array' _ s) = refl
held_by-plain (Maybe' _ s) = refl
held_by-plain (Unique' _ s) = refl
held_by-plain (Endpoint p managed) = refl

pub actor_of-plain : (shape : Shape) (id : ℤ) → IsActorOf (plain_shape shape) id ≡ IsActorOf shape id
actor_of-plain (Builtin b) id = refl
actor_of-plain (Using name) id = refl
actor_of-plain (Actor p nullable) id = refl
actor_of-plain (Named t) id = refl
actor_of-plain (Array' _ s) id = refl
actor_of-plain (Maybe' _ s) id = refl
actor_of-plain (Unique' _ s) id = refl
actor_of-plain (Endpoint p managed) id = refl

-- a fact, or a value, of a part whose type has its boxes elsewhere
some_plain : (P : Shape → Type 0) (part : Option Shape) → IsSomeAnd (option_map plain_shape part) P ≡ IsSomeAnd part (λ shape. P (plain_shape shape))
some_plain P None = refl
some_plain P (Some shape) = refl

or_plain : {X : Type 0} (f : Shape → X) (part : Option Shape) (x : X) → option_map_or f (option_map plain_shape part) x ≡ option_map_or (λ shape. f (plain_shape shape)) part x
or_plain f None x = refl
or_plain f (Some shape) x = refl

mutual
  pub type_has : (schema : Schema) (shape : Shape) (v : Value) → HasType schema (plain_shape shape) v ≡ HasType schema shape v
  type_has schema shape (value.Bool b) = λ i. builtin_of-plain shape i ≡ Some builtin.Bool
  type_has schema shape (value.Int n) = λ i. IsSomeAnd (option_and_then range_of (builtin_of-plain shape i)) (λ range. (range.0 ≤ℤ n) × (n ≤ℤ range.1))
  type_has schema shape (value.Text text) = λ i. (builtin_of-plain shape i ≡ Some builtin.NsString) × IsUtf8 text
  type_has schema shape (value.Bytes bytes) = λ i. IsTrue (is_bytes-plain shape i)
  type_has schema shape (value.Bits bits) = λ i. IsSomeAnd (option_and_then float_bits (builtin_of-plain shape i)) (λ most. bits < 2 ^ most)
  type_has schema shape (value.Struct vs) = λ i. IsSomeAnd (fields_of-plain schema shape i) (λ fields. HaveTypes schema fields vs)
  type_has schema shape (boxed.Union' index _ v) = λ i. IsSomeAnd (component_of-plain schema shape index i) (λ component. HasType schema component v)
  type_has schema shape (value.Array vs) =
      (λ i. IsSomeAnd (element_of-plain shape i) (λ element. AllHaveType schema element vs)) ∙ some_plain (λ element. AllHaveType schema element vs) (element_of shape) ∙ (λ i. IsSomeAnd (element_of shape) (λ element. type_of_all schema element vs i))
  type_has schema shape (boxed.Maybe' held) =
      (λ i. IsSomeAnd (held_by-plain shape i) (λ inner. HeldHasType schema inner held)) ∙ some_plain (λ inner. HeldHasType schema inner held) (held_by shape) ∙ (λ i. IsSomeAnd (held_by shape) (λ inner. type_of_held schema inner held i))
  type_has schema shape (value.Actor id) = actor_of-plain shape id

  type_of_held : (schema : Schema) (shape : Shape) (held : Held-Value-Maybe-0) → HeldHasType schema (plain_shape shape) held ≡ HeldHasType schema shape held
  type_of_held schema shape None' = refl
  type_of_held schema shape (Some' _ v) = type_has schema shape v

  type_of_all : (schema : Schema) (shape : Shape) (vs : Values) → AllHaveType schema (plain_shape shape) vs ≡ AllHaveType schema shape vs
  type_of_all schema shape values.Nothing = refl
  type_of_all schema shape (First' _ v _ vs) = λ i. type_has schema shape v i × type_of_all schema shape vs i

mutual
  pub type_size : (layout : Layout) (schema : Schema) (shape : Shape) (v : Value) → value_size layout schema (plain_shape shape) v ≡ value_size layout schema shape v
  type_size layout schema shape (value.Bool b) = refl
  type_size layout schema shape (value.Int n) = λ i. padded layout (option_map_or number_bytes (builtin_of-plain shape i) 0)
  type_size layout schema shape (value.Text text) = refl
  type_size layout schema shape (value.Bytes bytes) = refl
  type_size layout schema shape (value.Bits bits) = λ i. padded layout (option_map_or number_bytes (builtin_of-plain shape i) 0)
  type_size layout schema shape (value.Struct vs) = λ i. padded layout 1 + values_size layout schema (unwrap_or (fields_of-plain schema shape i) []) vs
  type_size layout schema shape (boxed.Union' index _ v) = λ i. 4 + option_map_or (λ component. value_size layout schema component v) (component_of-plain schema shape index i) 0
  type_size layout schema shape (value.Array vs) =
      let along : Option Shape → ℕ = λ part. 4 + option_map_or (λ element. elements_size layout schema element vs) part 0 in
      ap along (element_of-plain shape) ∙ ap (λ n. 4 + n) (or_plain (λ element. elements_size layout schema element vs) (element_of shape) 0) ∙ (λ i. 4 + option_map_or (λ element. size_of_all layout schema element vs i) (element_of shape) 0)
  type_size layout schema shape (boxed.Maybe' held) =
      let along : Option Shape → ℕ = λ part. padded layout 1 + option_map_or (λ inner. held_size layout schema inner held) part 0 in
      ap along (held_by-plain shape) ∙ ap (λ n. padded layout 1 + n) (or_plain (λ inner. held_size layout schema inner held) (held_by shape) 0) ∙ (λ i. padded layout 1 + option_map_or (λ inner. size_of_held layout schema inner held i) (held_by shape) 0)
  type_size layout schema shape (value.Actor id) = refl

  size_of_held : (layout : Layout) (schema : Schema) (shape : Shape) (held : Held-Value-Maybe-0) → held_size layout schema (plain_shape shape) held ≡ held_size layout schema shape held
  size_of_held layout schema shape None' = refl
  size_of_held layout schema shape (Some' _ v) = type_size layout schema shape v

  size_of_all : (layout : Layout) (schema : Schema) (shape : Shape) (vs : Values) → elements_size layout schema (plain_shape shape) vs ≡ elements_size layout schema shape vs
  size_of_all layout schema shape values.Nothing = refl
  size_of_all layout schema shape (First' _ v _ vs) = λ i. type_size layout schema shape v i + size_of_all layout schema shape vs i

mutual
  pub type_text : (schema : Schema) (shape : Shape) (v : Value) → value_text schema (plain_shape shape) v ≡ value_text schema shape v
  type_text schema shape (value.Bool b) = refl
  type_text schema shape (value.Int n) = refl
  type_text schema shape (value.Text text) = refl
  type_text schema shape (value.Bytes bytes) = refl
  type_text schema shape (value.Bits bits) = λ i. codes "h\"" ++ hex_digits (digit_count_of (builtin_of-plain shape i)) bits ++ codes "\""
  type_text schema shape (value.Struct vs) = λ i. codes "{" ++ parts_text [] schema (unwrap_or (fields_of-plain schema shape i) []) vs ++ codes "}"
  type_text schema shape (boxed.Union' index _ v) = λ i. codes "@" ++ decimal index ++ codes " " ++ option_map_or (λ component. value_text schema component v) (component_of-plain schema shape index i) []
  type_text schema shape (value.Array vs) =
      let along : Option Shape → List ℕ = λ part. codes "[" ++ option_map_or (λ element. elements_text [] schema element vs) part [] ++ codes "]" in
      ap along (element_of-plain shape) ∙ ap (λ text. codes "[" ++ text ++ codes "]") (or_plain (λ element. elements_text [] schema element vs) (element_of shape) []) ∙ (λ i. codes "[" ++ option_map_or (λ element. text_of_all [] schema element vs i) (element_of shape) [] ++ codes "]")
  type_text schema shape (boxed.Maybe' held) = ap (λ part. held_text schema part held) (held_by-plain shape) ∙ text_of_held schema (held_by shape) held
  type_text schema shape (value.Actor id) = refl

  text_of_held : (schema : Schema) (inner : Option Shape) (held : Held-Value-Maybe-0) → held_text schema (option_map plain_shape inner) held ≡ held_text schema inner held
  text_of_held schema inner None' = refl
  text_of_held schema inner (Some' _ v) =
      ap (λ text. codes "some " ++ text) (or_plain (λ shape. value_text schema shape v) inner []) ∙ (λ i. codes "some " ++ option_map_or (λ shape. type_text schema shape v i) inner [])

  text_of_all : (before : List ℕ) (schema : Schema) (shape : Shape) (vs : Values) → elements_text before schema (plain_shape shape) vs ≡ elements_text before schema shape vs
  text_of_all before schema shape values.Nothing = refl
  text_of_all before schema shape (First' _ v _ vs) = λ i. before ++ type_text schema shape v i ++ text_of_all (codes ", ") schema shape vs i
