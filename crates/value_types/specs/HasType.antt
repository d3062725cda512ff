-- Which values a type has.
use Rattle.std.specs.Prelude.{◌≡◌, ℕ, ◌<◌, ◌^◌, ℤ, pos, ◌≤ℤ◌, IsTrue, List, [], ◌∷◌, Some, IsSomeAnd, option_and_then}
use Rattle.std.specs.Str.{IsUtf8}
use Rattle.ipdl_base.specs.declared.builtin.Builtin.TheVariants as builtin
use Rattle.ipdl_base.specs.declared.schema.Schema.{Schema}
use Rattle.ipdl_base.specs.declared.schema.ParamRow.{ParamRow}
use Rattle.ipdl_base.specs.declared.schema.Shape.{Shape, Actor}
use Rattle.ipdl_base.specs.declared.value.Value.{Value, Union', Maybe', Held-Value-Maybe-0, None', Some'}
use Rattle.ipdl_base.specs.declared.value.Value.TheVariants as value
use Rattle.ipdl_base.specs.declared.value.Values.{Values, First'}
use Rattle.ipdl_base.specs.declared.value.Values.TheVariants as values
use Rattle.value_types.specs.Shapes.{range_of, float_bits, builtin_of, is_bytes, element_of, held_by, fields_of, component_of}

-- a whole number is in the range of the type
abbrev pub IsInRange : Shape → ℤ → Type 0
IsInRange shape n = IsSomeAnd (option_and_then range_of (builtin_of shape)) (λ range. (range.0 ≤ℤ n) × (n ≤ℤ range.1))

-- bits fit in the number of bits that the type has
abbrev pub IsWithinBits : Shape → ℕ → Type 0
IsWithinBits shape n = IsSomeAnd (option_and_then float_bits (builtin_of shape)) (λ bits. n < 2 ^ bits)

-- an id may be that of an actor of the type: 0, which is null, only where the type is nullable
abbrev pub IsActorOf : Shape → ℤ → Type 0
IsActorOf (Actor p nullable) id = id ≡ pos 0 → IsTrue nullable
IsActorOf _ id = ⊥

-- A value has a type. Shmem, FileDescriptor, Endpoint and ManagedEndpoint have no values, and neither does a named
-- type that is not in the schema.
abbrev mutual
  pub HasType : Schema → Shape → Value → Type 0
  HasType schema shape (value.Bool b) = builtin_of shape ≡ Some builtin.Bool
  HasType schema shape (value.Int n) = IsInRange shape n
  HasType schema shape (value.Text text) = (builtin_of shape ≡ Some builtin.NsString) × IsUtf8 text
  HasType schema shape (value.Bytes bytes) = IsTrue (is_bytes shape)
  HasType schema shape (value.Bits bits) = IsWithinBits shape bits
  HasType schema shape (value.Struct vs) = IsSomeAnd (fields_of schema shape) (λ fields. HaveTypes schema fields vs)
  HasType schema shape (Union' index _ v) = IsSomeAnd (component_of schema shape index) (λ component. HasType schema component v)
  HasType schema shape (value.Array vs) = IsSomeAnd (element_of shape) (λ element. AllHaveType schema element vs)
  HasType schema shape (Maybe' held) = IsSomeAnd (held_by shape) (λ inner. HeldHasType schema inner held)
  HasType schema shape (value.Actor id) = IsActorOf shape id

  -- no value, or a value of the type
  pub HeldHasType : Schema → Shape → Held-Value-Maybe-0 → Type 0
  HeldHasType schema shape None' = Unit {0}
  HeldHasType schema shape (Some' _ v) = HasType schema shape v

  -- each value has the type
  pub AllHaveType : Schema → Shape → Values → Type 0
  AllHaveType schema shape values.Nothing = Unit {0}
  AllHaveType schema shape (First' _ v _ vs) = HasType schema shape v × AllHaveType schema shape vs

  -- one value for each field or parameter, of its type
  pub HaveTypes : Schema → List ParamRow → Values → Type 0
  HaveTypes schema [] values.Nothing = Unit {0}
  HaveTypes schema (field ∷ fields) values.Nothing = ⊥
  HaveTypes schema [] (First' _ v _ vs) = ⊥
  HaveTypes schema (field ∷ fields) (First' _ v _ vs) = HasType schema field.shape v × HaveTypes schema fields vs
