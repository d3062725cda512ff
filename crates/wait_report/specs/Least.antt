-- The least values of types as they are found, one look after another: what the code knows at each point.
use Rattle.std.specs.Prelude.{◌≡◌, ℕ, ◌+◌, ◌<◌, ◌≤◌, nat_le, min, Bool, true, false, ◌&&◌, if◌then◌else◌, List, [], ◌∷◌, length, slice_get, Some}
use Rattle.std.specs.List.{Contains, slice_index_or, sum_by}
use Rattle.ipdl_base.specs.declared.builtin.Builtin.{Builtin as BuiltinType}
use Rattle.ipdl_base.specs.declared.schema.Kind.TheVariants.{Constructor}
use Rattle.ipdl_base.specs.declared.schema.MessageRow.{MessageRow}
use Rattle.ipdl_base.specs.declared.schema.ParamRow.{ParamRow}
use Rattle.ipdl_base.specs.declared.schema.ProtocolRow.{ProtocolRow}
use Rattle.ipdl_base.specs.declared.schema.Schema.{Schema}
use Rattle.ipdl_base.specs.declared.schema.Shape.{Shape, Builtin, Using, Actor, Named, Array', Maybe', Unique', Endpoint}
use Rattle.ipdl_base.specs.declared.schema.TypeRow.{TypeRow}
use Rattle.ipdl_base.specs.declared.schema.TypeRow.TheVariants.{Struct, Union}
use Rattle.ipdl_base.specs.Builtins.{is_carried}
use Rattle.value_types.specs.Sizes.{made_size}
use Rattle.wait_report.specs.Sendable.{least_bytes, home_of, IsMessage, IsBuildable, HasValueWithin}

-- more bytes than any frame takes: the size of a type for which no value is known
abbrev pub too_many : ℕ
too_many = 4097

-- the bytes of the least value of a builtin, or `too_many` where it is not carried
abbrev pub builtin_least : BuiltinType → ℕ
builtin_least builtin = if is_carried builtin then least_bytes builtin else too_many

abbrev pub is_built : List Bool → ℕ → Bool
is_built built protocol = slice_index_or built protocol false

abbrev pub actor_least : List Bool → ℕ → Bool → ℕ
actor_least built protocol true = 4
actor_least built protocol false = if is_built built protocol then 4 else too_many

-- the least value of a type, by what is known
abbrev pub least_of : List ℕ → List Bool → Shape → ℕ
least_of types built (Builtin b) = builtin_least b
least_of types built (Using name) = 4
least_of types built (Actor protocol nullable) = actor_least built protocol nullable
least_of types built (Named t) = slice_index_or types t too_many
least_of types built (Array' at s) = 4
least_of types built (Maybe' at s) = 4
least_of types built (Unique' at s) = 4
least_of types built (Endpoint p managed) = too_many

-- the least values of fields together
abbrev pub sum_of : List ℕ → List Bool → List ParamRow → ℕ
sum_of types built [] = 0
sum_of types built (field ∷ fields) = min too_many (least_of types built field.shape + sum_of types built fields)

-- the least of the least values of components
abbrev pub least_in : List ℕ → List Bool → List Shape → ℕ
least_in types built [] = too_many
least_in types built (component ∷ components) = min (least_of types built component) (least_in types built components)

-- the least value of a struct or a union
abbrev pub row_least : List ℕ → List Bool → TypeRow → ℕ
row_least types built (Struct name fields) = min too_many (4 + sum_of types built fields)
row_least types built (Union name components) = min too_many (4 + least_in types built components)

-- whether a message can be sent, by what is known
abbrev pub can_send : List ℕ → List Bool → MessageRow → Bool
can_send types built row = row.carried && (is_built built (home_of row) && nat_le (made_size row.kind + sum_of types built row.params) 4096)

-- the bytes that are known for all types together
abbrev pub known : List ℕ → ℕ
known types = sum_by (λ bytes. bytes) types

-- What is known is true: each type with known bytes has a value within these bytes, and a protocol that is known to
-- be built can be built.
pub record AreSound (schema : Schema) (top : ℕ) (types : List ℕ) (built : List Bool) : Type 0 where
  pub values : (t : ℕ) → slice_index_or types t too_many ≤ 4096 → HasValueWithin schema top (Named t) (slice_index_or types t too_many)
  pub protocols : (protocol : ℕ) → is_built built protocol ≡ true → IsBuildable schema top protocol

-- a struct or union has no lesser value than the known one, by what is known
abbrev pub IsClosedType : Schema → List ℕ → List Bool → ℕ → Type 0
IsClosedType schema types built t = (row : TypeRow) → slice_get schema.types t ≡ Some row → slice_index_or types t too_many ≤ row_least types built row

-- the protocol that a message constructs is known to be built, if the message can be sent
abbrev pub IsClosedMessage : List ℕ → List Bool → MessageRow → Type 0
IsClosedMessage types built row = (protocol : ℕ) → row.kind ≡ Constructor protocol → can_send types built row ≡ true → is_built built protocol ≡ true

-- A type was looked at: what is known stays true, and where nothing changed, nothing more can be found of the type.
pub record TypeLook (schema : Schema) (built : List Bool) (t : ℕ) (old new : List ℕ) (changed : Bool) : Type 0 where
  pub size : length new ≡ length old
  pub sound : (top : ℕ) → AreSound schema top old built → AreSound schema top new built
  pub lower : known new ≤ known old
  pub less : changed ≡ true → known new < known old
  pub same : changed ≡ false → new ≡ old
  pub closed : changed ≡ false → IsClosedType schema old built t

-- The types up to a number were looked at: what is known stays true, and where nothing changed, nothing more can be
-- found of them.
pub record TypesLook (schema : Schema) (built : List Bool) (n : ℕ) (old new : List ℕ) (changed : Bool) : Type 0 where
  pub size : length new ≡ length old
  pub sound : (top : ℕ) → AreSound schema top old built → AreSound schema top new built
  pub lower : known new ≤ known old
  pub less : changed ≡ true → known new < known old
  pub same : changed ≡ false → new ≡ old
  pub closed : changed ≡ false → (t : ℕ) → t < n → IsClosedType schema old built t

-- A message of the schema: if it constructs a protocol, that is one of the protocols in `built`.
pub record IsRightMessage (schema : Schema) (built : List Bool) (row : MessageRow) : Type 0 where
  pub found : IsMessage schema row
  pub within : (protocol : ℕ) → row.kind ≡ Constructor protocol → protocol < length built

-- a message of one of some protocols
abbrev pub IsMessageOf : List ProtocolRow → MessageRow → Type 0
IsMessageOf protocols row = (protocol : ProtocolRow) × Contains protocols protocol × Contains protocol.messages row

-- the number of protocols that are not known to be built
abbrev pub unbuilt : List Bool → ℕ
unbuilt built = sum_by (λ b. if b then 0 else 1) built

-- Messages were looked at, with the same result.
pub record MessagesLook (schema : Schema) (types : List ℕ) (Seen : MessageRow → Type 0) (old new : List Bool) (changed : Bool) : Type 0 where
  pub size : length new ≡ length old
  pub sound : (top : ℕ) → AreSound schema top types old → AreSound schema top types new
  pub kept : (protocol : ℕ) → is_built old protocol ≡ true → is_built new protocol ≡ true
  pub lower : unbuilt new ≤ unbuilt old
  pub less : changed ≡ true → unbuilt new < unbuilt old
  pub same : changed ≡ false → new ≡ old
  pub closed : changed ≡ false → (row : MessageRow) → Seen row → IsClosedMessage types old row

-- Some looks, in any order: what is known stays true, and no less is known.
pub record Spreads (schema : Schema) (types : List ℕ) (built : List Bool) (types_after : List ℕ) (built_after : List Bool) : Type 0 where
  pub size : length types_after ≡ length types
  pub count : length built_after ≡ length built
  pub sound : (top : ℕ) → AreSound schema top types built → AreSound schema top types_after built_after
  pub kept : (protocol : ℕ) → is_built built protocol ≡ true → is_built built_after protocol ≡ true
  pub lower : known types_after + unbuilt built_after ≤ known types + unbuilt built

-- All is known: no look finds more.
pub record AreClosed (schema : Schema) (top : ℕ) (types : List ℕ) (built : List Bool) : Type 0 where
  pub top_built : is_built built top ≡ true
  pub all_types : (t : ℕ) → IsClosedType schema types built t
  pub all_messages : (row : MessageRow) → IsMessageOf schema.protocols row → IsClosedMessage types built row

-- All types and messages were looked at, and perhaps some again: what is known stays true, and where nothing changed,
-- nothing more can be found.
pub record RoundLook (schema : Schema) (types : List ℕ) (built : List Bool) (types_after : List ℕ) (built_after : List Bool) (changed : Bool) : Type 0 where
  pub size : length types_after ≡ length types
  pub count : length built_after ≡ length built
  pub sound : (top : ℕ) → AreSound schema top types built → AreSound schema top types_after built_after
  pub kept : (protocol : ℕ) → is_built built protocol ≡ true → is_built built_after protocol ≡ true
  pub less : changed ≡ true → known types_after + unbuilt built_after < known types + unbuilt built
  pub closed : changed ≡ false → (top : ℕ) → is_built built_after top ≡ true → AreClosed schema top types_after built_after

-- All that can be known is known, and it is true.
pub record IsKnown (schema : Schema) (top : ℕ) (types : List ℕ) (built : List Bool) : Type 0 where
  pub sound : AreSound schema top types built
  pub closed : AreClosed schema top types built
