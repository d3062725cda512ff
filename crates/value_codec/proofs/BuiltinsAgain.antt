-- A builtin's value is read again from its bytes, whatever follows them.
use Rattle.std.proofs.Common.{◌≡◌, ◌<◌, ℕ, zero, suc, ◌^◌, ◌-◌, ℤ, pos, negsuc, ◌≤ℤ◌, Bool, true, false, List, [], ◌∷◌, ◌++◌, length, Result, Ok, refl, ap, ◌∙◌, arith}
use Rattle.std.proofs.Math.Nat.{mod-eq_of_lt}
use Rattle.std.proofs.lemmas.Int.{ints}
use Rattle.std.proofs.lemmas.Str.{is_utf8-from_IsUtf8}
use Rattle.std.specs.Int.{w32, w128, cast_unsigned}
use Rattle.std.specs.Int.RustNames.{FitsSigned}
use Rattle.std.specs.Str.{IsUtf8}
use Rattle.byteorder.specs.Endian.{little_bytes, little_number, twos_complement}
use Rattle.ipdl_base.specs.declared.builtin.Builtin.{Builtin as BuiltinType}
use Rattle.ipdl_base.specs.declared.builtin.Builtin.TheVariants as builtin
use Rattle.ipdl_base.specs.declared.schema.Shape.{Builtin}
use Rattle.ipdl_base.specs.declared.value.Value.TheVariants as value
use Rattle.value_types.specs.declared.layout.Layout.{Layout}
use Rattle.value_types.specs.Fits.{IsCarriedId}
use Rattle.value_types.specs.HasType.{IsInRange, IsWithinBits}
use Rattle.value_types.specs.Sizes.{number_bytes}
use Rattle.value_codec.specs.declared.fault.Fault.{Fault}
use Rattle.value_codec.specs.Reading.{◌>>=◌, is_id, flag_value_at, signed_at, unsigned_at, bits_at, text_at, bytes_at, actor_at, builtin_at}
use Rattle.value_codec.specs.Spelling.{part, counted, signed_word, truth_byte}
use Rattle.value_codec.proofs.LittleEndian.{number_in, length-little}
use Rattle.value_codec.proofs.Signed.{IsSigned, signed1, signed2, signed4, signed8, fits_word}
use Rattle.value_codec.proofs.Taken.{field_again, flag_again, counted_again, id_again}

abbrev Read : Type 0
Read = Result (List ℕ × List ℕ) Fault

signed_again : (layout : Layout) (n half : ℕ) (signed : IsSigned n half) (z : ℤ) (rest : List ℕ) → negsuc (half - 1) ≤ℤ z → z ≤ℤ pos (half - 1) → signed_at layout n (part layout (little_bytes n (cast_unsigned w128 z)) ++ rest) ≡ Ok (value.Int z, rest)
unfolding signed_at
signed_again layout n half signed z rest low high =
    let front : List ℕ = little_bytes n (cast_unsigned w128 z) in
    let same : twos_complement n (little_number n front) ≡ z = ap (twos_complement n) (number_in n (cast_unsigned w128 z)) ∙ signed.back z low high in
    ap (λ (r : Read). r >>= λ field. Ok (value.Int (twos_complement n (little_number n field.0)), field.1)) (field_again layout n front rest (length-little n (cast_unsigned w128 z)))
    ∙ (λ i. Ok (value.Int (same i), rest))

unsigned_again : (layout : Layout) (n x : ℕ) (rest : List ℕ) → x < 256 ^ n → unsigned_at layout n (part layout (little_bytes n x) ++ rest) ≡ Ok (value.Int (pos x), rest)
unfolding unsigned_at
unsigned_again layout n x rest small =
    let same : little_number n (little_bytes n x) ≡ x = number_in n x ∙ mod-eq_of_lt small in
    ap (λ (r : Read). r >>= λ field. Ok (value.Int (pos (little_number n field.0)), field.1)) (field_again layout n (little_bytes n x) rest (length-little n x))
    ∙ (λ i. Ok (value.Int (pos (same i)), rest))

bits_again : (layout : Layout) (n x : ℕ) (rest : List ℕ) → x < 256 ^ n → bits_at layout n (part layout (little_bytes n x) ++ rest) ≡ Ok (value.Bits x, rest)
unfolding bits_at
bits_again layout n x rest small =
    let same : little_number n (little_bytes n x) ≡ x = number_in n x ∙ mod-eq_of_lt small in
    ap (λ (r : Read). r >>= λ field. Ok (value.Bits (little_number n field.0), field.1)) (field_again layout n (little_bytes n x) rest (length-little n x))
    ∙ (λ i. Ok (value.Bits (same i), rest))

pub truth_again : (layout : Layout) (b : Bool) (rest : List ℕ) → flag_value_at layout (part layout (truth_byte b ∷ []) ++ rest) ≡ Ok (value.Bool b, rest)
unfolding flag_value_at
truth_again layout b rest = ap (λ (r : Result (Bool × List ℕ) Fault). r >>= λ b. Ok (value.Bool b.0, b.1)) (flag_again layout b rest)

pub text_again : (layout : Layout) (text rest : List ℕ) → IsUtf8 text → length text < 2 ^ 32 → text_at layout (counted layout text ++ rest) ≡ Ok (value.Text text, rest)
unfolding text_at
text_again layout text rest utf8 small = ap (λ (r : Read). r >>= λ text. Ok (value.Text text.0, text.1)) (counted_again layout true text rest small (is_utf8-from_IsUtf8 text utf8))

pub bytes_again : (layout : Layout) (bytes rest : List ℕ) → length bytes < 2 ^ 32 → bytes_at layout (counted layout bytes ++ rest) ≡ Ok (value.Bytes bytes, rest)
unfolding bytes_at
bytes_again layout bytes rest small = ap (λ (r : Read). r >>= λ found. Ok (value.Bytes found.0, found.1)) (counted_again layout false bytes rest small refl)

pub id_allowed : (nullable : Bool) (id : ℤ) → (id ≡ pos 0 → nullable ≡ true) → IsCarriedId id → is_id nullable id ≡ true
id_allowed nullable (pos zero) h carried = h refl
id_allowed nullable (pos (suc n)) h carried = refl
id_allowed nullable (negsuc n) h carried = absurd (omega (arith, ints, carried.0))

pub id_fits : (id : ℤ) → IsCarriedId id → FitsSigned w32 id
id_fits id carried = fits_word id (omega (arith, ints, carried.0)) carried.1

pub actor_again : (nullable : Bool) (id : ℤ) (rest : List ℕ) → (id ≡ pos 0 → nullable ≡ true) → IsCarriedId id → actor_at nullable (signed_word id ++ rest) ≡ Ok (value.Actor id, rest)
unfolding actor_at
actor_again nullable id rest h carried = ap (λ (r : Result (ℤ × List ℕ) Fault). r >>= λ id. Ok (value.Actor id.0, id.1)) (id_again nullable id rest (id_fits id carried) (id_allowed nullable id h carried))

pub number_again : (layout : Layout) (b : BuiltinType) (z : ℤ) (rest : List ℕ) → IsInRange (Builtin b) z → builtin_at layout b (part layout (little_bytes (number_bytes b) (cast_unsigned w128 z)) ++ rest) ≡ Ok (value.Int z, rest)
number_again layout builtin.Bool z rest h = absurd h
number_again layout builtin.Char z rest h = signed_again layout 1 128 signed1 z rest h.0 h.1
number_again layout builtin.Int8 z rest h = signed_again layout 1 128 signed1 z rest h.0 h.1
number_again layout builtin.Uint8 (pos x) rest h = unsigned_again layout 1 x rest (omega (arith, ints, h.1))
number_again layout builtin.Uint8 (negsuc x) rest h = absurd (omega (arith, ints, h.0))
number_again layout builtin.Short z rest h = signed_again layout 2 32768 signed2 z rest h.0 h.1
number_again layout builtin.Int16 z rest h = signed_again layout 2 32768 signed2 z rest h.0 h.1
number_again layout builtin.Uint16 (pos x) rest h = unsigned_again layout 2 x rest (omega (arith, ints, h.1))
number_again layout builtin.Uint16 (negsuc x) rest h = absurd (omega (arith, ints, h.0))
number_again layout builtin.Int z rest h = signed_again layout 4 2147483648 signed4 z rest h.0 h.1
number_again layout builtin.Int32 z rest h = signed_again layout 4 2147483648 signed4 z rest h.0 h.1
number_again layout builtin.Uint32 (pos x) rest h = unsigned_again layout 4 x rest (omega (arith, ints, h.1))
number_again layout builtin.Uint32 (negsuc x) rest h = absurd (omega (arith, ints, h.0))
number_again layout builtin.NsResult (pos x) rest h = unsigned_again layout 4 x rest (omega (arith, ints, h.1))
number_again layout builtin.NsResult (negsuc x) rest h = absurd (omega (arith, ints, h.0))
number_again layout builtin.Long z rest h = signed_again layout 8 9223372036854775808 signed8 z rest h.0 h.1
number_again layout builtin.Int64 z rest h = signed_again layout 8 9223372036854775808 signed8 z rest h.0 h.1
number_again layout builtin.IntPtr z rest h = signed_again layout 8 9223372036854775808 signed8 z rest h.0 h.1
number_again layout builtin.Uint64 (pos x) rest h = unsigned_again layout 8 x rest (omega (arith, ints, h.1))
number_again layout builtin.Uint64 (negsuc x) rest h = absurd (omega (arith, ints, h.0))
number_again layout builtin.UintPtr (pos x) rest h = unsigned_again layout 8 x rest (omega (arith, ints, h.1))
number_again layout builtin.UintPtr (negsuc x) rest h = absurd (omega (arith, ints, h.0))
number_again layout builtin.Float z rest h = absurd h
number_again layout builtin.Double z rest h = absurd h
number_again layout builtin.NsString z rest h = absurd h
number_again layout builtin.NsCString z rest h = absurd h
number_again layout builtin.ByteBuf z rest h = absurd h
number_again layout builtin.Shmem z rest h = absurd h
number_again layout builtin.FileDescriptor z rest h = absurd h

pub float_again : (layout : Layout) (b : BuiltinType) (x : ℕ) (rest : List ℕ) → IsWithinBits (Builtin b) x → builtin_at layout b (part layout (little_bytes (number_bytes b) x) ++ rest) ≡ Ok (value.Bits x, rest)
float_again layout builtin.Bool x rest h = absurd h
float_again layout builtin.Char x rest h = absurd h
float_again layout builtin.Int8 x rest h = absurd h
float_again layout builtin.Uint8 x rest h = absurd h
float_again layout builtin.Short x rest h = absurd h
float_again layout builtin.Int16 x rest h = absurd h
float_again layout builtin.Uint16 x rest h = absurd h
float_again layout builtin.Int x rest h = absurd h
float_again layout builtin.Int32 x rest h = absurd h
float_again layout builtin.Uint32 x rest h = absurd h
float_again layout builtin.NsResult x rest h = absurd h
float_again layout builtin.Long x rest h = absurd h
float_again layout builtin.Int64 x rest h = absurd h
float_again layout builtin.IntPtr x rest h = absurd h
float_again layout builtin.Uint64 x rest h = absurd h
float_again layout builtin.UintPtr x rest h = absurd h
float_again layout builtin.Float x rest h = bits_again layout 4 x rest h
float_again layout builtin.Double x rest h = bits_again layout 8 x rest h
float_again layout builtin.NsString x rest h = absurd h
float_again layout builtin.NsCString x rest h = absurd h
float_again layout builtin.ByteBuf x rest h = absurd h
float_again layout builtin.Shmem x rest h = absurd h
float_again layout builtin.FileDescriptor x rest h = absurd h

-- a number has a byte
pub number_some : (b : BuiltinType) (z : ℤ) → IsInRange (Builtin b) z → 0 < number_bytes b
number_some builtin.Bool z h = absurd h
number_some builtin.Char z h = omega arith
number_some builtin.Int8 z h = omega arith
number_some builtin.Uint8 z h = omega arith
number_some builtin.Short z h = omega arith
number_some builtin.Int16 z h = omega arith
number_some builtin.Uint16 z h = omega arith
number_some builtin.Int z h = omega arith
number_some builtin.Int32 z h = omega arith
number_some builtin.Uint32 z h = omega arith
number_some builtin.NsResult z h = omega arith
number_some builtin.Long z h = omega arith
number_some builtin.Int64 z h = omega arith
number_some builtin.IntPtr z h = omega arith
number_some builtin.Uint64 z h = omega arith
number_some builtin.UintPtr z h = omega arith
number_some builtin.Float z h = absurd h
number_some builtin.Double z h = absurd h
number_some builtin.NsString z h = absurd h
number_some builtin.NsCString z h = absurd h
number_some builtin.ByteBuf z h = absurd h
number_some builtin.Shmem z h = absurd h
number_some builtin.FileDescriptor z h = absurd h

pub float_some : (b : BuiltinType) (x : ℕ) → IsWithinBits (Builtin b) x → 0 < number_bytes b
float_some builtin.Bool x h = absurd h
float_some builtin.Char x h = absurd h
float_some builtin.Int8 x h = absurd h
float_some builtin.Uint8 x h = absurd h
float_some builtin.Short x h = absurd h
float_some builtin.Int16 x h = absurd h
float_some builtin.Uint16 x h = absurd h
float_some builtin.Int x h = absurd h
float_some builtin.Int32 x h = absurd h
float_some builtin.Uint32 x h = absurd h
float_some builtin.NsResult x h = absurd h
float_some builtin.Long x h = absurd h
float_some builtin.Int64 x h = absurd h
float_some builtin.IntPtr x h = absurd h
float_some builtin.Uint64 x h = absurd h
float_some builtin.UintPtr x h = absurd h
float_some builtin.Float x h = omega arith
float_some builtin.Double x h = omega arith
float_some builtin.NsString x h = absurd h
float_some builtin.NsCString x h = absurd h
float_some builtin.ByteBuf x h = absurd h
float_some builtin.Shmem x h = absurd h
float_some builtin.FileDescriptor x h = absurd h
