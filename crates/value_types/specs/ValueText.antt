-- The text of a value by its type, as scripts and transcripts print it.
use Rattle.std.specs.Prelude.{ℕ, zero, suc, ◌+◌, ◌/◌, ◌%◌, ◌==◌, ◌||◌, nat_lt, ℤ, pos, Bool, true, false, if◌then◌else◌, List, [], ◌∷◌, ◌++◌, codes, Option, Some, unwrap_or}
use Rattle.std.specs.Fmt.{decimal, signed_decimal}
use Rattle.std.specs.List.{flat_map}
use Rattle.std.specs.Option.{option_map_or}
use Rattle.std.specs.Ordering.{int_eq}
use Rattle.ipdl_base.specs.declared.builtin.Builtin.{Builtin as BuiltinType}
use Rattle.ipdl_base.specs.declared.builtin.Builtin.TheVariants as builtin
use Rattle.ipdl_base.specs.declared.schema.ParamRow.{ParamRow}
use Rattle.ipdl_base.specs.declared.schema.Schema.{Schema}
use Rattle.ipdl_base.specs.declared.schema.Shape.{Shape}
use Rattle.ipdl_base.specs.declared.value.Value.{Value, Union', Maybe', Held-Value-Maybe-0, None', Some'}
use Rattle.ipdl_base.specs.declared.value.Value.TheVariants as value
use Rattle.ipdl_base.specs.declared.value.Values.{Values, First'}
use Rattle.ipdl_base.specs.declared.value.Values.TheVariants as values
use Rattle.value_types.specs.Shapes.{builtin_of, element_of, held_by, fields_of, component_of}

-- a hexadecimal digit, in lower case
abbrev pub hex_digit : ℕ → ℕ
hex_digit n = if nat_lt n 10 then 48 + n else 87 + n

-- the two digits of a byte
abbrev pub hex_byte : ℕ → List ℕ
hex_byte byte = hex_digit (byte / 16) ∷ hex_digit (byte % 16) ∷ []

-- the last `count` digits of a number, the highest first
unfoldable pub hex_digits : ℕ → ℕ → List ℕ
hex_digits zero n = []
hex_digits (suc count) n = hex_digits count (n / 16) ++ hex_digit (n % 16) ∷ []

abbrev pub bool_text : Bool → List ℕ
bool_text true = codes "true"
bool_text false = codes "false"

-- a byte of a text between quotes: `"`, `\`, line ends and tabs have an escape each, and other control bytes their
-- digits
abbrev pub escaped : ℕ → List ℕ
escaped byte =
    if byte == 34 then codes "\\\"" else
    (if byte == 92 then codes "\\\\" else
    (if byte == 10 then codes "\\n" else
    (if byte == 9 then codes "\\t" else
    (if nat_lt byte 32 || (byte == 127) then codes "\\x" ++ hex_byte byte else
    (byte ∷ [])))))

abbrev pub quoted : List ℕ → List ℕ
quoted text = codes "\"" ++ flat_map escaped text ++ codes "\""

-- bytes, each as two digits
abbrev pub bytes_text : List ℕ → List ℕ
bytes_text bytes = codes "h\"" ++ flat_map hex_byte bytes ++ codes "\""

-- a float has eight digits, and a double sixteen
abbrev pub digit_count_of : Option BuiltinType → ℕ
digit_count_of (Some builtin.Float) = 8
digit_count_of _ = 16

abbrev pub bits_text : Shape → ℕ → List ℕ
bits_text shape bits = codes "h\"" ++ hex_digits (digit_count_of (builtin_of shape)) bits ++ codes "\""

-- an actor by its id
abbrev pub actor_text : ℤ → List ℕ
actor_text id = if int_eq id (pos 0) then codes "null" else codes "#" ++ signed_decimal id

-- A value of a type. A part of the value for which the type has none prints nothing.
abbrev mutual
  pub value_text : Schema → Shape → Value → List ℕ
  value_text schema shape (value.Bool b) = bool_text b
  value_text schema shape (value.Int n) = signed_decimal n
  value_text schema shape (value.Text text) = quoted text
  value_text schema shape (value.Bytes bytes) = bytes_text bytes
  value_text schema shape (value.Bits bits) = bits_text shape bits
  value_text schema shape (value.Struct vs) = codes "{" ++ parts_text [] schema (unwrap_or (fields_of schema shape) []) vs ++ codes "}"
  value_text schema shape (Union' index _ v) = codes "@" ++ decimal index ++ codes " " ++ option_map_or (λ component. value_text schema component v) (component_of schema shape index) []
  value_text schema shape (value.Array vs) = codes "[" ++ option_map_or (λ element. elements_text [] schema element vs) (element_of shape) [] ++ codes "]"
  value_text schema shape (Maybe' held) = held_text schema (held_by shape) held
  value_text schema shape (value.Actor id) = actor_text id

  -- a maybe, with the value in it
  pub held_text : Schema → Option Shape → Held-Value-Maybe-0 → List ℕ
  held_text schema inner None' = codes "none"
  held_text schema inner (Some' _ v) = codes "some " ++ option_map_or (λ shape. value_text schema shape v) inner []

  -- values of one type: `before` precedes the first, and a comma and a blank precede each other one
  pub elements_text : List ℕ → Schema → Shape → Values → List ℕ
  elements_text before schema shape values.Nothing = []
  elements_text before schema shape (First' _ v _ vs) = before ++ value_text schema shape v ++ elements_text (codes ", ") schema shape vs

  -- values of the types of fields or parameters, in the same way
  pub parts_text : List ℕ → Schema → List ParamRow → Values → List ℕ
  parts_text before schema [] vs = []
  parts_text before schema (field ∷ fields) values.Nothing = []
  parts_text before schema (field ∷ fields) (First' _ v _ vs) = before ++ value_text schema field.shape v ++ parts_text (codes ", ") schema fields vs

-- the values of parameters, with a comma and a blank between them
abbrev pub values_text : Schema → List ParamRow → Values → List ℕ
values_text schema params vs = parts_text [] schema params vs
