-- What can be sent under a top protocol: the least sets of protocols that can be built, of messages that can be sent,
-- and of types that have a value for them, each by finite derivations.
use Rattle.std.specs.Prelude.{◌≡◌, ℕ, ◌+◌, ◌/◌, ◌≤◌, max, true, IsTrue, List, [], ◌∷◌, slice_get, Some}
use Rattle.std.specs.List.{Contains}
use Rattle.ipdl_base.specs.declared.builtin.Builtin.{Builtin as BuiltinType}
use Rattle.ipdl_base.specs.declared.schema.Kind.TheVariants.{Constructor}
use Rattle.ipdl_base.specs.declared.schema.MessageRow.{MessageRow}
use Rattle.ipdl_base.specs.declared.schema.ParamRow.{ParamRow}
use Rattle.ipdl_base.specs.declared.schema.Schema.{Schema}
use Rattle.ipdl_base.specs.declared.schema.Shape.{Shape, Builtin, Using, Actor, Named, Array', Maybe', Unique'}
use Rattle.ipdl_base.specs.declared.schema.TypeRow.TheVariants.{Struct, Union}
use Rattle.ipdl_base.specs.Builtins.{is_carried}
use Rattle.ipdl_base.specs.Sound.{message_of}
use Rattle.value_types.specs.Sizes.{number_bytes, made_size}

-- a message of the schema, by the number of its request
abbrev pub IsMessage : Schema → MessageRow → Type 0
IsMessage schema row = message_of schema row.number ≡ Some row

-- the number of the protocol of a message
abbrev pub home_of : MessageRow → ℕ
home_of row = row.number / 65536

-- The bytes of the least value of a builtin in the new layout, whose parts all take a multiple of four bytes: those
-- of a number, and four for a bool, for the length of an empty text, or for the length of no bytes.
abbrev pub least_bytes : BuiltinType → ℕ
least_bytes builtin = max 4 (number_bytes builtin)

mutual
  -- A protocol can be built: the top, or a protocol that is constructed by a message which can be sent.
  pub data IsBuildable (schema : Schema) (top : ℕ) : ℕ → Type 0 where
    is_top : IsBuildable schema top top
    constructed : {protocol : ℕ} (row : MessageRow) → IsSendable schema top row → row.kind ≡ Constructor protocol → IsBuildable schema top protocol

  -- A message can be sent: it is carried, its protocol can be built, and its parameters have values that take at most
  -- 4,096 bytes together with the id of the actor that a constructor makes.
  pub data IsSendable (schema : Schema) (top : ℕ) : MessageRow → Type 0 where
    fits : {row : MessageRow} (bytes : ℕ) → IsMessage schema row → IsTrue row.carried → IsBuildable schema top (home_of row) → HaveValuesWithin schema top row.params bytes → made_size row.kind + bytes ≤ 4096 → IsSendable schema top row

  -- A type has a value of at most `bytes` bytes in the new layout, with actors that can be built: an empty array, an
  -- empty maybe or `UniquePtr`, or a null; a struct of such values; one of the components of a union.
  pub data HasValueWithin (schema : Schema) (top : ℕ) : Shape → ℕ → Type 0 where
    builtin : {b : _} {bytes : ℕ} → is_carried b ≡ true → least_bytes b ≤ bytes → HasValueWithin schema top (Builtin b) bytes
    using_type : {name : _} {bytes : ℕ} → 4 ≤ bytes → HasValueWithin schema top (Using name) bytes
    null : {protocol bytes : ℕ} → 4 ≤ bytes → HasValueWithin schema top (Actor protocol true) bytes
    actor : {protocol : ℕ} {nullable : _} {bytes : ℕ} → IsBuildable schema top protocol → 4 ≤ bytes → HasValueWithin schema top (Actor protocol nullable) bytes
    array : {at : _} {element : Shape} {bytes : ℕ} → 4 ≤ bytes → HasValueWithin schema top (Array' at element) bytes
    maybe : {at : _} {held : Shape} {bytes : ℕ} → 4 ≤ bytes → HasValueWithin schema top (Maybe' at held) bytes
    unique : {at : _} {held : Shape} {bytes : ℕ} → 4 ≤ bytes → HasValueWithin schema top (Unique' at held) bytes
    struct : {t bytes : ℕ} (name : List ℕ) (fields : List ParamRow) (inside : ℕ) → slice_get schema.types t ≡ Some (Struct name fields) → HaveValuesWithin schema top fields inside → 4 + inside ≤ bytes → HasValueWithin schema top (Named t) bytes
    union : {t bytes : ℕ} (name : List ℕ) (components : List Shape) (component : Shape) (inside : ℕ) → slice_get schema.types t ≡ Some (Union name components) → Contains components component → HasValueWithin schema top component inside → 4 + inside ≤ bytes → HasValueWithin schema top (Named t) bytes

  -- parameters or fields have values of at most `bytes` bytes together
  pub data HaveValuesWithin (schema : Schema) (top : ℕ) : List ParamRow → ℕ → Type 0 where
    nothing : {bytes : ℕ} → HaveValuesWithin schema top [] bytes
    first : {field : ParamRow} {fields : List ParamRow} {bytes : ℕ} (here others : ℕ) → HasValueWithin schema top field.shape here → HaveValuesWithin schema top fields others → here + others ≤ bytes → HaveValuesWithin schema top (field ∷ fields) bytes
