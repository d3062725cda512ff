-- The number of bytes of a value and of a message's payload in a frame of a layout.
use Rattle.std.specs.Prelude.{ℕ, ◌+◌, ◌-◌, ◌%◌, if◌then◌else◌, List, [], ◌∷◌, length, Option, unwrap_or}
use Rattle.std.specs.Option.{option_map_or}
use Rattle.ipdl_base.specs.declared.builtin.Builtin.{Builtin as BuiltinType}
use Rattle.ipdl_base.specs.declared.builtin.Builtin.TheVariants as builtin
use Rattle.ipdl_base.specs.declared.message.Body.{Body}
use Rattle.ipdl_base.specs.declared.message.Body.TheVariants as body
use Rattle.ipdl_base.specs.declared.message.Message.{Message}
use Rattle.ipdl_base.specs.declared.schema.Kind.{Kind}
use Rattle.ipdl_base.specs.declared.schema.Kind.TheVariants as kind
use Rattle.ipdl_base.specs.declared.schema.MessageRow.{MessageRow}
use Rattle.ipdl_base.specs.declared.schema.ParamRow.{ParamRow}
use Rattle.ipdl_base.specs.declared.schema.Schema.{Schema}
use Rattle.ipdl_base.specs.declared.schema.Shape.{Shape}
use Rattle.ipdl_base.specs.declared.value.Value.{Value, Union', Maybe', Held-Value-Maybe-0, None', Some'}
use Rattle.ipdl_base.specs.declared.value.Value.TheVariants as value
use Rattle.ipdl_base.specs.declared.value.Values.{Values, First'}
use Rattle.ipdl_base.specs.declared.value.Values.TheVariants as values
use Rattle.ipdl_base.specs.Sound.{message_of}
use Rattle.value_types.specs.declared.layout.Layout.{Layout}
use Rattle.value_types.specs.Shapes.{builtin_of, element_of, held_by, fields_of, component_of}

-- the number of zeros after a part of `bytes` bytes: in an aligned layout, up to the next multiple of 4
abbrev pub padding : Layout → ℕ → ℕ
padding layout bytes = if layout.aligned then (4 - bytes % 4) % 4 else 0

abbrev pub padded : Layout → ℕ → ℕ
padded layout bytes = bytes + padding layout bytes

-- the bytes of a whole number, a float or a double; 0 for any other builtin
abbrev pub number_bytes : BuiltinType → ℕ
number_bytes builtin.Char = 1
number_bytes builtin.Int8 = 1
number_bytes builtin.Uint8 = 1
number_bytes builtin.Short = 2
number_bytes builtin.Int16 = 2
number_bytes builtin.Uint16 = 2
number_bytes builtin.Int = 4
number_bytes builtin.Int32 = 4
number_bytes builtin.Uint32 = 4
number_bytes builtin.NsResult = 4
number_bytes builtin.Float = 4
number_bytes builtin.Long = 8
number_bytes builtin.Int64 = 8
number_bytes builtin.IntPtr = 8
number_bytes builtin.Uint64 = 8
number_bytes builtin.UintPtr = 8
number_bytes builtin.Double = 8
number_bytes _ = 0

abbrev pub number_size : Layout → Shape → ℕ
number_size layout shape = padded layout (option_map_or number_bytes (builtin_of shape) 0)

-- the length in 4 bytes, and the bytes
abbrev pub bytes_size : Layout → List ℕ → ℕ
bytes_size layout bytes = padded layout (4 + length bytes)

-- The bytes of a value of a type. A part of the value for which the type has none takes no bytes.
abbrev mutual
  pub value_size : Layout → Schema → Shape → Value → ℕ
  value_size layout schema shape (value.Bool b) = padded layout 1
  value_size layout schema shape (value.Int n) = number_size layout shape
  value_size layout schema shape (value.Text text) = bytes_size layout text
  value_size layout schema shape (value.Bytes bytes) = bytes_size layout bytes
  value_size layout schema shape (value.Bits bits) = number_size layout shape
  value_size layout schema shape (value.Struct vs) = padded layout 1 + values_size layout schema (unwrap_or (fields_of schema shape) []) vs
  value_size layout schema shape (Union' index _ v) = 4 + option_map_or (λ component. value_size layout schema component v) (component_of schema shape index) 0
  value_size layout schema shape (value.Array vs) = 4 + option_map_or (λ element. elements_size layout schema element vs) (element_of shape) 0
  value_size layout schema shape (Maybe' held) = padded layout 1 + option_map_or (λ inner. held_size layout schema inner held) (held_by shape) 0
  value_size layout schema shape (value.Actor id) = 4

  -- the bytes of the value in a maybe
  pub held_size : Layout → Schema → Shape → Held-Value-Maybe-0 → ℕ
  held_size layout schema shape None' = 0
  held_size layout schema shape (Some' _ v) = value_size layout schema shape v

  -- the bytes of values of one type
  pub elements_size : Layout → Schema → Shape → Values → ℕ
  elements_size layout schema shape values.Nothing = 0
  elements_size layout schema shape (First' _ v _ vs) = value_size layout schema shape v + elements_size layout schema shape vs

  -- the bytes of values of the types of fields or parameters
  pub values_size : Layout → Schema → List ParamRow → Values → ℕ
  values_size layout schema [] vs = 0
  values_size layout schema (field ∷ fields) values.Nothing = 0
  values_size layout schema (field ∷ fields) (First' _ v _ vs) = value_size layout schema field.shape v + values_size layout schema fields vs

-- the bytes of the new actor's id, with which a constructor's request begins
abbrev pub made_size : Kind → ℕ
made_size kind.Normal = 0
made_size (kind.Constructor p) = 4
made_size kind.Delete = 0

abbrev pub request_size : Layout → Schema → Values → MessageRow → ℕ
request_size layout schema vs row = made_size row.kind + values_size layout schema row.params vs

abbrev pub reply_size : Layout → Schema → Values → MessageRow → ℕ
reply_size layout schema vs row = values_size layout schema (unwrap_or row.returns []) vs

-- the bytes of what a message carries, by the row of its number; without a row, values take no bytes
abbrev pub body_size : Layout → Schema → Option MessageRow → Body → ℕ
body_size layout schema row (body.Request vs) = option_map_or (request_size layout schema vs) row 0
body_size layout schema row (body.Reply vs) = option_map_or (reply_size layout schema vs) row 0
body_size layout schema row (body.Fault reason) = padded layout 1
body_size layout schema row body.Goodbye = 0

abbrev pub payload_size : Layout → Schema → Message → ℕ
payload_size layout schema message = body_size layout schema (message_of schema message.number) message.body

-- the greatest count of 64 bits
abbrev pub greatest_size : ℕ
greatest_size = 18446744073709551615
