-- Reading values from left to right, up to the first fault.
use Rattle.std.specs.Prelude.{◌≡◌, ℕ, zero, suc, ◌+◌, ◌==◌, nat_lt, ℤ, pos, negsuc, Bool, true, false, if◌then◌else◌, List, [], ◌∷◌, length, take, drop, slice_get, Option, Some, None, Result, Ok, Err}
use Rattle.std.specs.Int.{w32, cast_signed}
use Rattle.std.specs.Str.{is_utf8}
use Rattle.byteorder.specs.Endian.{little_number, twos_complement}
use Rattle.ipdl_base.specs.declared.builtin.Builtin.{Builtin as BuiltinType}
use Rattle.ipdl_base.specs.declared.builtin.Builtin.TheVariants as builtin
use Rattle.ipdl_base.specs.declared.finding.Rule.{Rule}
use Rattle.ipdl_base.specs.declared.finding.TheConstants.Rule as rule
use Rattle.ipdl_base.specs.declared.schema.ParamRow.{ParamRow}
use Rattle.ipdl_base.specs.declared.schema.Schema.{Schema}
use Rattle.ipdl_base.specs.declared.schema.Shape.{Shape, Builtin, Using, Actor, Named, Array', Maybe', Unique', Endpoint}
use Rattle.ipdl_base.specs.declared.schema.TypeRow.{TypeRow}
use Rattle.ipdl_base.specs.declared.schema.TypeRow.TheVariants.{Struct, Union}
use Rattle.ipdl_base.specs.declared.value.Value.{Value}
use Rattle.ipdl_base.specs.declared.value.Value as boxed
use Rattle.ipdl_base.specs.declared.value.Value.TheVariants as value
use Rattle.ipdl_base.specs.declared.value.Values.{Values, First'}
use Rattle.ipdl_base.specs.declared.value.Values.TheVariants as values
use Rattle.ipdl_base.specs.Plain.{one_box}
use Rattle.value_types.specs.declared.layout.Layout.{Layout}
use Rattle.value_types.specs.Sizes.{padding}
use Rattle.value_codec.specs.declared.fault.Fault.{Fault}
use Rattle.value_codec.specs.declared.fault.Refusal.{Refusal}
use Rattle.value_codec.specs.declared.fault.Refusal.TheVariants as refusal
use Rattle.value_codec.specs.Spelling.{struct_byte}

-- a step, followed by a step on its result
infixl 10 ◌>>=◌
abbrev pub ◌>>=◌ : {A B : Type 0} → Result A Fault → (A → Result B Fault) → Result B Fault
(Ok x) >>= f = f x
(Err e) >>= f = Err e

-- The result of a function, through `view`, is that of reading; the function may also fail because memory runs out.
abbrev pub Fails : {Y : Type 0} → Refusal → Result Y Fault → Type 0
Fails refusal.NoMemory read = Unit {0}
Fails (refusal.Broken f) read = read ≡ Err f

abbrev pub Gives : {X Y : Type 0} → (X → Y) → Result X Refusal → Result Y Fault → Type 0
Gives view (Ok x) read = read ≡ Ok (view x)
Gives view (Err e) read = Fails e read

-- a rule that is broken at the first of the bytes
abbrev pub at : Rule → List ℕ → Fault
at broken bytes = record { rule = broken.number; left = length bytes }

-- the payload ends too early
abbrev pub short : Fault
short = at rule.SHORT_PAYLOAD []

-- n zeros; gives the bytes after them
unfoldable pub zeros : ℕ → List ℕ → Result (List ℕ) Fault
zeros zero bytes = Ok bytes
zeros (suc n) [] = Err short
zeros (suc n) (zero ∷ bytes) = zeros n bytes
zeros (suc n) (suc b ∷ bytes) = Err (at rule.BAD_PADDING (suc b ∷ bytes))

-- a number in four bytes
abbrev pub word_at : List ℕ → Result (ℕ × List ℕ) Fault
word_at bytes = if nat_lt (length bytes) 4 then Err short else Ok (little_number 4 bytes, drop 4 bytes)

-- n bytes, and the zeros after them
unfoldable pub field_at : Layout → ℕ → List ℕ → Result (List ℕ × List ℕ) Fault
field_at layout n bytes =
    if nat_lt (length bytes) n then Err short else
    (zeros (padding layout n) (drop n bytes) >>= λ rest. Ok (take n bytes, rest))

-- a byte that is 0 or 1
unfoldable pub flag_at : Layout → List ℕ → Result (Bool × List ℕ) Fault
flag_at layout [] = Err short
flag_at layout (zero ∷ bytes) = zeros (padding layout 1) bytes >>= λ rest. Ok (false, rest)
flag_at layout (suc zero ∷ bytes) = zeros (padding layout 1) bytes >>= λ rest. Ok (true, rest)
flag_at layout (suc (suc b) ∷ bytes) = Err (at rule.BAD_TAG (suc (suc b) ∷ bytes))

-- the byte before the fields of a struct
unfoldable pub struct_at : Layout → List ℕ → Result (List ℕ) Fault
struct_at layout [] = Err short
struct_at layout (b ∷ bytes) = if b == struct_byte then zeros (padding layout 1) bytes else Err (at rule.BAD_TAG (b ∷ bytes))

-- bytes are allowed, where text may be required
abbrev pub may_stand : Bool → List ℕ → Bool
may_stand wants_text bytes = if wants_text then is_utf8 bytes else true

-- a length in four bytes, and that number of bytes, which must be text if text is required
unfoldable pub counted_at : Layout → Bool → List ℕ → Result (List ℕ × List ℕ) Fault
counted_at layout wants_text bytes = do
  n ← word_at bytes
  if nat_lt (length n.1) n.0 then Err short else
      (if may_stand wants_text (take n.0 n.1) then
      (zeros (padding layout (4 + n.0)) (drop n.0 n.1) >>= λ rest. Ok (take n.0 n.1, rest))
      else Err (at rule.BAD_TEXT n.1))

-- an id may be that of an actor: it is positive, or 0 if null is allowed
abbrev pub is_id : Bool → ℤ → Bool
is_id nullable (pos zero) = nullable
is_id nullable (pos (suc n)) = true
is_id nullable (negsuc n) = false

unfoldable pub id_at : Bool → List ℕ → Result (ℤ × List ℕ) Fault
id_at nullable bytes = do
  n ← word_at bytes
  if is_id nullable (cast_signed w32 n.0) then Ok (cast_signed w32 n.0, n.1) else Err (at rule.BAD_VALUE bytes)

-- the values that the bytes of a builtin are read as; a builtin that is not carried has no bytes
unfoldable pub flag_value_at : Layout → List ℕ → Result (Value × List ℕ) Fault
flag_value_at layout bytes = do
  b ← flag_at layout bytes
  Ok (value.Bool b.0, b.1)

unfoldable pub signed_at : Layout → ℕ → List ℕ → Result (Value × List ℕ) Fault
signed_at layout n bytes = do
  field ← field_at layout n bytes
  Ok (value.Int (twos_complement n (little_number n field.0)), field.1)

unfoldable pub unsigned_at : Layout → ℕ → List ℕ → Result (Value × List ℕ) Fault
unsigned_at layout n bytes = do
  field ← field_at layout n bytes
  Ok (value.Int (pos (little_number n field.0)), field.1)

unfoldable pub bits_at : Layout → ℕ → List ℕ → Result (Value × List ℕ) Fault
bits_at layout n bytes = do
  field ← field_at layout n bytes
  Ok (value.Bits (little_number n field.0), field.1)

unfoldable pub text_at : Layout → List ℕ → Result (Value × List ℕ) Fault
text_at layout bytes = do
  text ← counted_at layout true bytes
  Ok (value.Text text.0, text.1)

unfoldable pub bytes_at : Layout → List ℕ → Result (Value × List ℕ) Fault
bytes_at layout bytes = do
  found ← counted_at layout false bytes
  Ok (value.Bytes found.0, found.1)

unfoldable pub actor_at : Bool → List ℕ → Result (Value × List ℕ) Fault
actor_at nullable bytes = do
  id ← id_at nullable bytes
  Ok (value.Actor id.0, id.1)

abbrev pub not_carried : List ℕ → Result (Value × List ℕ) Fault
not_carried bytes = Err (at rule.BAD_VALUE bytes)

abbrev pub builtin_at : Layout → BuiltinType → List ℕ → Result (Value × List ℕ) Fault
builtin_at layout builtin.Bool bytes = flag_value_at layout bytes
builtin_at layout builtin.Char bytes = signed_at layout 1 bytes
builtin_at layout builtin.Int8 bytes = signed_at layout 1 bytes
builtin_at layout builtin.Uint8 bytes = unsigned_at layout 1 bytes
builtin_at layout builtin.Short bytes = signed_at layout 2 bytes
builtin_at layout builtin.Int16 bytes = signed_at layout 2 bytes
builtin_at layout builtin.Uint16 bytes = unsigned_at layout 2 bytes
builtin_at layout builtin.Int bytes = signed_at layout 4 bytes
builtin_at layout builtin.Int32 bytes = signed_at layout 4 bytes
builtin_at layout builtin.Uint32 bytes = unsigned_at layout 4 bytes
builtin_at layout builtin.NsResult bytes = unsigned_at layout 4 bytes
builtin_at layout builtin.Long bytes = signed_at layout 8 bytes
builtin_at layout builtin.Int64 bytes = signed_at layout 8 bytes
builtin_at layout builtin.IntPtr bytes = signed_at layout 8 bytes
builtin_at layout builtin.Uint64 bytes = unsigned_at layout 8 bytes
builtin_at layout builtin.UintPtr bytes = unsigned_at layout 8 bytes
builtin_at layout builtin.Float bytes = bits_at layout 4 bytes
builtin_at layout builtin.Double bytes = bits_at layout 8 bytes
builtin_at layout builtin.NsString bytes = text_at layout bytes
builtin_at layout builtin.NsCString bytes = bytes_at layout bytes
builtin_at layout builtin.ByteBuf bytes = bytes_at layout bytes
builtin_at layout builtin.Shmem bytes = not_carried bytes
builtin_at layout builtin.FileDescriptor bytes = not_carried bytes

-- Values inside others, each read by `inside`.
abbrev pub Inside : Type 0
Inside = Shape → List ℕ → Result (Value × List ℕ) Fault

-- n values of one type
unfoldable pub elements_at : Inside → Shape → ℕ → List ℕ → Result (Values × List ℕ) Fault
elements_at inside shape zero bytes = Ok (values.Nothing, bytes)
elements_at inside shape (suc n) bytes = do
  first ← inside shape bytes
  others ← elements_at inside shape n first.1
  Ok (First' one_box first.0 one_box others.0, others.1)

-- a value for each field or parameter
unfoldable pub values_at : Inside → List ParamRow → List ℕ → Result (Values × List ℕ) Fault
values_at inside [] bytes = Ok (values.Nothing, bytes)
values_at inside (field ∷ fields) bytes = do
  first ← inside field.shape bytes
  others ← values_at inside fields first.1
  Ok (First' one_box first.0 one_box others.0, others.1)

unfoldable pub array_at : Inside → Shape → List ℕ → Result (Value × List ℕ) Fault
array_at inside shape bytes = do
  n ← word_at bytes
  elements ← elements_at inside shape n.0 n.1
  Ok (value.Array elements.0, elements.1)

-- what follows the flag of a maybe
unfoldable pub held_at : Inside → Shape → Bool → List ℕ → Result (Value × List ℕ) Fault
held_at inside shape false bytes = Ok (boxed.Maybe' boxed.None', bytes)
held_at inside shape true bytes = do
  held ← inside shape bytes
  Ok (boxed.Maybe' (boxed.Some' one_box held.0), held.1)

unfoldable pub maybe_at : Inside → Layout → Shape → List ℕ → Result (Value × List ℕ) Fault
maybe_at inside layout shape bytes = do
  flag ← flag_at layout bytes
  held_at inside shape flag.0 flag.1

unfoldable pub fields_at : Inside → Layout → List ParamRow → List ℕ → Result (Value × List ℕ) Fault
fields_at inside layout fields bytes = do
  rest ← struct_at layout bytes
  found ← values_at inside fields rest
  Ok (value.Struct found.0, found.1)

-- the component with the index, which must exist
unfoldable pub component_at : Inside → Option Shape → ℕ → List ℕ → List ℕ → Result (Value × List ℕ) Fault
component_at inside None index bytes rest = Err (at rule.BAD_TAG bytes)
component_at inside (Some shape) index bytes rest = do
  held ← inside shape rest
  Ok (boxed.Union' index one_box held.0, held.1)

unfoldable pub union_at : Inside → List Shape → List ℕ → Result (Value × List ℕ) Fault
union_at inside components bytes = do
  index ← word_at bytes
  component_at inside (slice_get components index.0) index.0 bytes index.1

abbrev pub row_at : Inside → Layout → Option TypeRow → List ℕ → Result (Value × List ℕ) Fault
row_at inside layout None bytes = not_carried bytes
row_at inside layout (Some (Struct name fields)) bytes = fields_at inside layout fields bytes
row_at inside layout (Some (Union name components)) bytes = union_at inside components bytes

-- a value of a type, and the bytes after it
abbrev pub shape_at : Inside → Layout → Schema → Shape → List ℕ → Result (Value × List ℕ) Fault
shape_at inside layout schema (Builtin b) bytes = builtin_at layout b bytes
shape_at inside layout schema (Using name) bytes = bytes_at layout bytes
shape_at inside layout schema (Actor p nullable) bytes = actor_at nullable bytes
shape_at inside layout schema (Named t) bytes = row_at inside layout (slice_get schema.types t) bytes
shape_at inside layout schema (Array' _ s) bytes = array_at inside s bytes
shape_at inside layout schema (Maybe' _ s) bytes = maybe_at inside layout s bytes
shape_at inside layout schema (Unique' _ s) bytes = maybe_at inside layout s bytes
shape_at inside layout schema (Endpoint p managed) bytes = not_carried bytes

-- The same where values nest less than `depth` deep. Each value has a byte of its own, so a depth above the number of
-- bytes is enough.
unfoldable pub value_at : ℕ → Layout → Schema → Shape → List ℕ → Result (Value × List ℕ) Fault
value_at zero layout schema shape bytes = Err short
value_at (suc depth) layout schema shape bytes = shape_at (value_at depth layout schema) layout schema shape bytes
