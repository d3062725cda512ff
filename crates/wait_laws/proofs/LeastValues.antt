-- Values of a type take at least as many bytes as its least value does.
use Rattle.std.proofs.Common.{◌≡◌, ◌⊎◌, inl, inr, ℕ, ◌+◌, ℤ, pos, true, false, IsTrue, List, [], ◌∷◌, Option, Some, None, slice_get, option_and_then, unwrap_or, refl, arith}
use Rattle.std.specs.List.{AllByRecursion, Contains}
use Rattle.std.specs.Option.{option_map_or, IsSomeAnd}
use Rattle.std.proofs.lemmas.Option.{slice_get_within, get_or_from_slice_get}
use Rattle.ipdl_base.specs.declared.builtin.Builtin.{Builtin as BuiltinType}
use Rattle.ipdl_base.specs.declared.builtin.Builtin.TheVariants as builtin
use Rattle.ipdl_base.specs.declared.schema.ParamRow.{ParamRow}
use Rattle.ipdl_base.specs.declared.schema.Schema.{Schema}
use Rattle.ipdl_base.specs.declared.schema.Shape.{Shape, Builtin, Using, Actor, Named, Array', Maybe' as MaybeShape, Unique'}
use Rattle.ipdl_base.specs.declared.schema.TypeRow.{TypeRow}
use Rattle.ipdl_base.specs.declared.schema.TypeRow.TheVariants.{Struct, Union}
use Rattle.ipdl_base.specs.declared.value.Value.{Value, Union', Maybe', Held-Value-Maybe-0}
use Rattle.ipdl_base.specs.declared.value.Value.TheVariants as value
use Rattle.ipdl_base.specs.declared.value.Values.{Values, First'}
use Rattle.ipdl_base.specs.declared.value.Values.TheVariants as values
use Rattle.value_types.specs.declared.layout.TheConstants.{NEW}
use Rattle.value_types.specs.HasType.{IsInRange, IsWithinBits, HasType, HaveTypes}
use Rattle.value_types.specs.Shapes.{range_of, float_bits, builtin_of, is_byte_builtin, is_bytes, fields_in, component_in}
use Rattle.value_types.specs.Sizes.{padded, number_size, bytes_size, value_size, values_size}
use Rattle.channel_model.specs.ValueActors.{ActorValue, actor_at, actors_in, actors_in_parts}
use Rattle.channel_model.proofs.Known.{all-before, all-following}
use Rattle.wait_report.specs.Sendable as sendable
use Rattle.wait_report.specs.Sendable.{IsBuildable, HasValueWithin, using_type, null, actor, array, maybe, unique, struct, union, HaveValuesWithin, nothing, first}

module _ (schema : Schema) (top : ℕ) where
  -- an actor in a value is null or of a protocol that can be built
  abbrev pub MayStand : ActorValue → Type 0
  MayStand a = (a.id ≡ pos 0) ⊎ IsBuildable schema top a.protocol

  abbrev pub MayAllStand : List ActorValue → Type 0
  MayAllStand actors = AllByRecursion MayStand actors

  -- Values without parts

  int-within : (b : BuiltinType) (P : ℤ × ℤ → Type 0) → IsSomeAnd (range_of b) P → HasValueWithin schema top (Builtin b) (number_size NEW (Builtin b))
  int-within builtin.Bool P h = absurd h
  int-within builtin.Char P h = sendable.builtin refl (omega arith)
  int-within builtin.Int8 P h = sendable.builtin refl (omega arith)
  int-within builtin.Uint8 P h = sendable.builtin refl (omega arith)
  int-within builtin.Short P h = sendable.builtin refl (omega arith)
  int-within builtin.Int16 P h = sendable.builtin refl (omega arith)
  int-within builtin.Uint16 P h = sendable.builtin refl (omega arith)
  int-within builtin.Int P h = sendable.builtin refl (omega arith)
  int-within builtin.Int32 P h = sendable.builtin refl (omega arith)
  int-within builtin.Uint32 P h = sendable.builtin refl (omega arith)
  int-within builtin.NsResult P h = sendable.builtin refl (omega arith)
  int-within builtin.Long P h = sendable.builtin refl (omega arith)
  int-within builtin.Int64 P h = sendable.builtin refl (omega arith)
  int-within builtin.IntPtr P h = sendable.builtin refl (omega arith)
  int-within builtin.Uint64 P h = sendable.builtin refl (omega arith)
  int-within builtin.UintPtr P h = sendable.builtin refl (omega arith)
  int-within builtin.Float P h = absurd h
  int-within builtin.Double P h = absurd h
  int-within builtin.NsString P h = absurd h
  int-within builtin.NsCString P h = absurd h
  int-within builtin.ByteBuf P h = absurd h
  int-within builtin.Shmem P h = absurd h
  int-within builtin.FileDescriptor P h = absurd h

  bits-within : (b : BuiltinType) (P : ℕ → Type 0) → IsSomeAnd (float_bits b) P → HasValueWithin schema top (Builtin b) (number_size NEW (Builtin b))
  bits-within builtin.Bool P h = absurd h
  bits-within builtin.Char P h = absurd h
  bits-within builtin.Int8 P h = absurd h
  bits-within builtin.Uint8 P h = absurd h
  bits-within builtin.Short P h = absurd h
  bits-within builtin.Int16 P h = absurd h
  bits-within builtin.Uint16 P h = absurd h
  bits-within builtin.Int P h = absurd h
  bits-within builtin.Int32 P h = absurd h
  bits-within builtin.Uint32 P h = absurd h
  bits-within builtin.NsResult P h = absurd h
  bits-within builtin.Long P h = absurd h
  bits-within builtin.Int64 P h = absurd h
  bits-within builtin.IntPtr P h = absurd h
  bits-within builtin.Uint64 P h = absurd h
  bits-within builtin.UintPtr P h = absurd h
  bits-within builtin.Float P h = sendable.builtin refl (omega arith)
  bits-within builtin.Double P h = sendable.builtin refl (omega arith)
  bits-within builtin.NsString P h = absurd h
  bits-within builtin.NsCString P h = absurd h
  bits-within builtin.ByteBuf P h = absurd h
  bits-within builtin.Shmem P h = absurd h
  bits-within builtin.FileDescriptor P h = absurd h

  bytes-within : (b : BuiltinType) (bytes : List ℕ) → IsTrue (is_byte_builtin b) → HasValueWithin schema top (Builtin b) (bytes_size NEW bytes)
  bytes-within builtin.Bool bytes h = cc
  bytes-within builtin.Char bytes h = cc
  bytes-within builtin.Int8 bytes h = cc
  bytes-within builtin.Uint8 bytes h = cc
  bytes-within builtin.Short bytes h = cc
  bytes-within builtin.Int16 bytes h = cc
  bytes-within builtin.Uint16 bytes h = cc
  bytes-within builtin.Int bytes h = cc
  bytes-within builtin.Int32 bytes h = cc
  bytes-within builtin.Uint32 bytes h = cc
  bytes-within builtin.NsResult bytes h = cc
  bytes-within builtin.Long bytes h = cc
  bytes-within builtin.Int64 bytes h = cc
  bytes-within builtin.IntPtr bytes h = cc
  bytes-within builtin.Uint64 bytes h = cc
  bytes-within builtin.UintPtr bytes h = cc
  bytes-within builtin.Float bytes h = cc
  bytes-within builtin.Double bytes h = cc
  bytes-within builtin.NsString bytes h = cc
  bytes-within builtin.NsCString bytes h = sendable.builtin refl (omega arith)
  bytes-within builtin.ByteBuf bytes h = sendable.builtin refl (omega arith)
  bytes-within builtin.Shmem bytes h = cc
  bytes-within builtin.FileDescriptor bytes h = cc

  bool-fits : (shape : Shape) → builtin_of shape ≡ Some builtin.Bool → HasValueWithin schema top shape (padded NEW 1)
  bool-fits (Builtin builtin.Bool) e = sendable.builtin refl (omega arith)
  bool-fits (Builtin _) e = cc
  bool-fits _ e = cc

  text-fits : (shape : Shape) (text : List ℕ) → builtin_of shape ≡ Some builtin.NsString → HasValueWithin schema top shape (bytes_size NEW text)
  text-fits (Builtin builtin.NsString) text e = sendable.builtin refl (omega arith)
  text-fits (Builtin _) text e = cc
  text-fits _ text e = cc

  int-fits : (shape : Shape) (n : ℤ) → IsInRange shape n → HasValueWithin schema top shape (number_size NEW shape)
  int-fits (Builtin b) n h = int-within b _ h
  int-fits _ n h = absurd h

  bits-fit : (shape : Shape) (n : ℕ) → IsWithinBits shape n → HasValueWithin schema top shape (number_size NEW shape)
  bits-fit (Builtin b) n h = bits-within b _ h
  bits-fit _ n h = absurd h

  bytes-fit : (shape : Shape) (bytes : List ℕ) → IsTrue (is_bytes shape) → HasValueWithin schema top shape (bytes_size NEW bytes)
  bytes-fit (Builtin b) bytes h = bytes-within b bytes h
  bytes-fit (Using name) bytes h = using_type (omega arith)
  bytes-fit _ bytes h = cc

  actor-fits : (shape : Shape) (id : ℤ) → HasType schema shape (value.Actor id) → MayAllStand (actor_at shape id) → HasValueWithin schema top shape 4
  actor-fits (Actor p true) id h a = null (omega arith)
  actor-fits (Actor p false) id h (inl zero, rest) = let x : IsTrue false = h zero in cc
  actor-fits (Actor p false) id h (inr built, rest) = actor built (omega arith)
  actor-fits _ id h a = absurd h

  array-fits : (shape : Shape) (vs : Values) → HasType schema shape (value.Array vs) → HasValueWithin schema top shape (value_size NEW schema shape (value.Array vs))
  array-fits (Array' at s) vs h = array (omega arith)
  array-fits _ vs h = absurd h

  maybe-fits : (shape : Shape) (held : Held-Value-Maybe-0) → HasType schema shape (Maybe' held) → HasValueWithin schema top shape (value_size NEW schema shape (Maybe' held))
  maybe-fits (MaybeShape at s) held h = maybe (omega arith)
  maybe-fits (Unique' at s) held h = unique (omega arith)
  maybe-fits _ held h = absurd h

  -- Structs and unions

  struct-fits : (shape : Shape) (vs : Values) → ((fields : List ParamRow) → HaveTypes schema fields vs → MayAllStand (actors_in_parts schema fields vs) → HaveValuesWithin schema top fields (values_size NEW schema fields vs))
      → HasType schema shape (value.Struct vs) → MayAllStand (actors_in schema shape (value.Struct vs)) → HasValueWithin schema top shape (value_size NEW schema shape (value.Struct vs))
  struct-fits (Named t) vs inside h a = by (slice_get schema.types t) refl h a
    where
      by : (found : Option TypeRow) → slice_get schema.types t ≡ found → IsSomeAnd (option_and_then fields_in found) (λ (fields : List ParamRow). HaveTypes schema fields vs) → MayAllStand (actors_in_parts schema (unwrap_or (option_and_then fields_in found) []) vs)
          → HasValueWithin schema top (Named t) (padded NEW 1 + values_size NEW schema (unwrap_or (option_and_then fields_in found) []) vs)
      by None is h a = absurd h
      by (Some (Union name components)) is h a = absurd h
      by (Some (Struct name fields)) is h a = struct name fields (values_size NEW schema fields vs) is (inside fields h a) (omega arith)
  struct-fits _ vs inside h a = absurd h

  at-index : (components : List Shape) (index : ℕ) (component : Shape) → slice_get components index ≡ Some component → Contains components component
  at-index components index component is = (index, slice_get_within components index component is, get_or_from_slice_get components index component component is)

  union-fits : (shape : Shape) (index : ℕ) (at : _) (v : Value) → ((component : Shape) → HasType schema component v → MayAllStand (actors_in schema component v) → HasValueWithin schema top component (value_size NEW schema component v))
      → HasType schema shape (Union' index at v) → MayAllStand (actors_in schema shape (Union' index at v)) → HasValueWithin schema top shape (value_size NEW schema shape (Union' index at v))
  union-fits (Named t) index at v inside h a = by (slice_get schema.types t) refl h a
    where
      in-union : (name : List ℕ) (components : List Shape) (found : Option Shape) → slice_get schema.types t ≡ Some (Union name components) → slice_get components index ≡ found → IsSomeAnd found (λ (component : Shape). HasType schema component v) → MayAllStand (option_map_or (λ (component : Shape). actors_in schema component v) found [])
          → HasValueWithin schema top (Named t) (4 + option_map_or (λ (component : Shape). value_size NEW schema component v) found 0)
      in-union name components None is at h a = absurd h
      in-union name components (Some component) is at h a = union name components component (value_size NEW schema component v) is (at-index components index component at) (inside component h a) (omega arith)

      by : (found : Option TypeRow) → slice_get schema.types t ≡ found → IsSomeAnd (option_and_then (component_in index) found) (λ (component : Shape). HasType schema component v) → MayAllStand (option_map_or (λ (component : Shape). actors_in schema component v) (option_and_then (component_in index) found) [])
          → HasValueWithin schema top (Named t) (4 + option_map_or (λ (component : Shape). value_size NEW schema component v) (option_and_then (component_in index) found) 0)
      by None is h a = absurd h
      by (Some (Struct name fields)) is h a = absurd h
      by (Some (Union name components)) is h a = in-union name components (slice_get components index) is refl h a
  union-fits _ index at v inside h a = absurd h

  -- All values

  mutual
    pub value-fits : (shape : Shape) (v : Value) → HasType schema shape v → MayAllStand (actors_in schema shape v) → HasValueWithin schema top shape (value_size NEW schema shape v)
    value-fits shape (value.Bool b) h a = bool-fits shape h
    value-fits shape (value.Int n) h a = int-fits shape n h
    value-fits shape (value.Text text) h a = text-fits shape text h.0
    value-fits shape (value.Bytes bytes) h a = bytes-fit shape bytes h
    value-fits shape (value.Bits bits) h a = bits-fit shape bits h
    value-fits shape (value.Struct vs) h a = struct-fits shape vs (λ fields. values-fit fields vs) h a
    value-fits shape (Union' index at v) h a = union-fits shape index at v (λ component. value-fits component v) h a
    value-fits shape (value.Array vs) h a = array-fits shape vs h
    value-fits shape (Maybe' held) h a = maybe-fits shape held h
    value-fits shape (value.Actor id) h a = actor-fits shape id h a

    pub values-fit : (fields : List ParamRow) (vs : Values) → HaveTypes schema fields vs → MayAllStand (actors_in_parts schema fields vs) → HaveValuesWithin schema top fields (values_size NEW schema fields vs)
    values-fit [] vs h a = nothing
    values-fit (field ∷ fields) values.Nothing h a = absurd h
    values-fit (field ∷ fields) (First' at v more vs) h a =
        first (value_size NEW schema field.shape v) (values_size NEW schema fields vs)
        (value-fits field.shape v h.0 (all-before MayStand (actors_in schema field.shape v) (actors_in_parts schema fields vs) a))
        (values-fit fields vs h.1 (all-following MayStand (actors_in schema field.shape v) (actors_in_parts schema fields vs) a))
        (omega arith)
