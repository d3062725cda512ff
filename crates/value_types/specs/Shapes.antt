-- The parts of the values of a type. Named types are looked up in the schema.
use Rattle.std.specs.Prelude.{ℕ, ◌-◌, ◌^◌, ℤ, pos, negsuc, Bool, true, false, List, Option, Some, None, slice_get, option_and_then}
use Rattle.ipdl_base.specs.declared.builtin.Builtin.{Builtin as BuiltinType}
use Rattle.ipdl_base.specs.declared.builtin.Builtin.TheVariants as builtin
use Rattle.ipdl_base.specs.declared.schema.Schema.{Schema}
use Rattle.ipdl_base.specs.declared.schema.ParamRow.{ParamRow}
use Rattle.ipdl_base.specs.declared.schema.TypeRow.{TypeRow}
use Rattle.ipdl_base.specs.declared.schema.TypeRow.TheVariants.{Struct, Union}
use Rattle.ipdl_base.specs.declared.schema.Shape.{Shape, Builtin, Using, Named, Array', Maybe', Unique'}

-- the least and the greatest whole number of `bits` bits, signed or not
abbrev pub signed : ℕ → Option (ℤ × ℤ)
signed bits = Some (negsuc (2 ^ (bits - 1) - 1), pos (2 ^ (bits - 1) - 1))

abbrev pub unsigned : ℕ → Option (ℤ × ℤ)
unsigned bits = Some (pos 0, pos (2 ^ bits - 1))

-- the least and the greatest whole number of a builtin, if its values are whole numbers
abbrev pub range_of : BuiltinType → Option (ℤ × ℤ)
range_of builtin.Char = signed 8
range_of builtin.Int8 = signed 8
range_of builtin.Uint8 = unsigned 8
range_of builtin.Short = signed 16
range_of builtin.Int16 = signed 16
range_of builtin.Uint16 = unsigned 16
range_of builtin.Int = signed 32
range_of builtin.Int32 = signed 32
range_of builtin.Uint32 = unsigned 32
range_of builtin.NsResult = unsigned 32
range_of builtin.Long = signed 64
range_of builtin.Int64 = signed 64
range_of builtin.IntPtr = signed 64
range_of builtin.Uint64 = unsigned 64
range_of builtin.UintPtr = unsigned 64
range_of _ = None

-- the number of bits of a float or a double
abbrev pub float_bits : BuiltinType → Option ℕ
float_bits builtin.Float = Some 32
float_bits builtin.Double = Some 64
float_bits _ = None

-- the builtin of a type, if it is one
abbrev pub builtin_of : Shape → Option BuiltinType
builtin_of (Builtin b) = Some b
builtin_of _ = None

-- whether the values of a type are bytes of any kind; those of a type from C++ are
abbrev pub is_byte_builtin : BuiltinType → Bool
is_byte_builtin builtin.NsCString = true
is_byte_builtin builtin.ByteBuf = true
is_byte_builtin _ = false

abbrev pub is_bytes : Shape → Bool
is_bytes (Builtin b) = is_byte_builtin b
is_bytes (Using name) = true
is_bytes _ = false

-- the type of an array's elements
abbrev pub element_of : Shape → Option Shape
element_of (Array' _ s) = Some s
element_of _ = None

-- the type of the value in a maybe or a `UniquePtr`
abbrev pub held_by : Shape → Option Shape
held_by (Maybe' _ s) = Some s
held_by (Unique' _ s) = Some s
held_by _ = None

-- the struct or the union of a named type
abbrev pub row_of : Schema → Shape → Option TypeRow
row_of schema (Named t) = slice_get schema.types t
row_of schema _ = None

abbrev pub fields_in : TypeRow → Option (List ParamRow)
fields_in (Struct name fields) = Some fields
fields_in (Union name components) = None

-- the fields of a struct
abbrev pub fields_of : Schema → Shape → Option (List ParamRow)
fields_of schema shape = option_and_then fields_in (row_of schema shape)

abbrev pub component_in : ℕ → TypeRow → Option Shape
component_in index (Struct name fields) = None
component_in index (Union name components) = slice_get components index

-- the component of a union with this index
abbrev pub component_of : Schema → Shape → ℕ → Option Shape
component_of schema shape index = option_and_then (component_in index) (row_of schema shape)
