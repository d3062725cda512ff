-- What is read of a builtin is a value of it, as it is spelled.
use Rattle.std.proofs.Common.{◌≡◌, ◌<◌, ℕ, zero, suc, ◌^◌, ◌%◌, ◌-◌, ℤ, pos, negsuc, ◌≤ℤ◌, Bool, true, false, List, Ok, refl, sym, subst, ◌∙◌, arith}
use Rattle.std.proofs.Math.Nat.{mod-eq_of_lt}
use Rattle.std.proofs.lemmas.Int.{ints}
use Rattle.std.proofs.lemmas.Str.{IsUtf8-from_is_utf8}
use Rattle.std.specs.Int.{w32, w128, cast_unsigned}
use Rattle.std.specs.Int.RustNames.{FitsSigned}
use Rattle.std.specs.List.{AllByRecursion}
use Rattle.byteorder.specs.Endian.{little_bytes, little_number, twos_complement}
use Rattle.byteorder.specs.Numbers.{little_from-lt}
use Rattle.ipdl_base.specs.declared.builtin.Builtin.{Builtin as BuiltinType}
use Rattle.ipdl_base.specs.declared.builtin.Builtin.TheVariants as builtin
use Rattle.ipdl_base.specs.declared.schema.Schema.{Schema}
use Rattle.ipdl_base.specs.declared.schema.Shape.{Shape, Builtin, Actor}
use Rattle.ipdl_base.specs.declared.value.Value.{Value}
use Rattle.ipdl_base.specs.declared.value.Value.TheVariants as value
use Rattle.value_types.specs.declared.layout.Layout.{Layout}
use Rattle.value_types.specs.Fits.{actor_ids, IsCarriedId}
use Rattle.value_types.specs.HasType.{HasType, IsActorOf}
use Rattle.value_codec.specs.Reading.{field_at, flag_at, counted_at, is_id, id_at, flag_value_at, signed_at, unsigned_at, bits_at, text_at, bytes_at, actor_at, builtin_at}
use Rattle.value_codec.specs.Spelling.{part, counted, value_bytes}
use Rattle.value_codec.proofs.LittleEndian.{IsBytes, bytes_back, low_bytes_same}
use Rattle.value_codec.proofs.Signed.{IsSigned, signed1, signed2, signed4, signed8, greatest_word}
use Rattle.value_codec.proofs.Taken.{bind_ok, moved, Takes, TakesField, field_takes, flag_takes, counted_takes, id_takes}
use Rattle.std.proofs.lemmas.List.{take_all}

-- What was read of a type is a value of it, whose bytes were there.
pub record IsRead (layout : Layout) (schema : Schema) (shape : Shape) (bytes : List ℕ) (v : Value) (rest : List ℕ) : Type 0 where
  pub takes : Takes bytes (value_bytes layout schema shape v) rest
  pub type : HasType schema shape v
  pub ids : AllByRecursion IsCarriedId (actor_ids v)

-- the bytes of a field are those of the number in them
field_bytes : (layout : Layout) (n : ℕ) (bytes front rest : List ℕ) (x : ℕ) → TakesField layout n bytes front rest → x % 256 ^ n ≡ little_number n front % 256 ^ n → Takes bytes (part layout (little_bytes n x)) rest
field_bytes layout n bytes front rest x t e =
    let same : front ≡ little_bytes n x = sym (take_all n front (omega (arith, t.size))) ∙ sym (bytes_back n front t.fits (omega (arith, t.size))) ∙ sym (low_bytes_same n x (little_number n front) e) in
    subst (λ (xs : List ℕ). Takes bytes (part layout xs) rest) same t.takes

signed_read : (layout : Layout) (n half : ℕ) (signed : IsSigned n half) (S : Value → List ℕ → Type 0) (bytes : List ℕ) (v : Value) (rest : List ℕ) → IsBytes bytes → signed_at layout n bytes ≡ Ok (v, rest)
    → ((z : ℤ) (r : List ℕ) → Takes bytes (part layout (little_bytes n (cast_unsigned w128 z))) r → negsuc (half - 1) ≤ℤ z → z ≤ℤ pos (half - 1) → S (value.Int z) r) → S v rest
unfolding signed_at
signed_read layout n half signed S bytes v rest fits e h =
    let b = bind_ok (field_at layout n bytes) (λ field. Ok (value.Int (twos_complement n (little_number n field.0)), field.1)) (v, rest) e in
    let t = field_takes layout n bytes b.0.0 b.0.1 fits b.1 in
    let x : ℕ = little_number n b.0.0 in
    let small : x < 256 ^ n = little_from-lt 0 n b.0.0 t.fits in
    let z : ℤ = twos_complement n x in
    let low : cast_unsigned w128 z % 256 ^ n ≡ x % 256 ^ n = signed.low x small ∙ sym (mod-eq_of_lt small) in
    moved S (value.Int z) b.0.1 v rest b.2 (h z b.0.1 (field_bytes layout n bytes b.0.0 b.0.1 (cast_unsigned w128 z) t low) (signed.least x small) (signed.greatest x small))

unsigned_read : (layout : Layout) (n : ℕ) (S : Value → List ℕ → Type 0) (bytes : List ℕ) (v : Value) (rest : List ℕ) → IsBytes bytes → unsigned_at layout n bytes ≡ Ok (v, rest)
    → ((x : ℕ) (r : List ℕ) → Takes bytes (part layout (little_bytes n x)) r → x < 256 ^ n → S (value.Int (pos x)) r) → S v rest
unfolding unsigned_at
unsigned_read layout n S bytes v rest fits e h =
    let b = bind_ok (field_at layout n bytes) (λ field. Ok (value.Int (pos (little_number n field.0)), field.1)) (v, rest) e in
    let t = field_takes layout n bytes b.0.0 b.0.1 fits b.1 in
    let x : ℕ = little_number n b.0.0 in
    moved S (value.Int (pos x)) b.0.1 v rest b.2 (h x b.0.1 (field_bytes layout n bytes b.0.0 b.0.1 x t refl) (little_from-lt 0 n b.0.0 t.fits))

bits_read : (layout : Layout) (n : ℕ) (S : Value → List ℕ → Type 0) (bytes : List ℕ) (v : Value) (rest : List ℕ) → IsBytes bytes → bits_at layout n bytes ≡ Ok (v, rest)
    → ((x : ℕ) (r : List ℕ) → Takes bytes (part layout (little_bytes n x)) r → x < 256 ^ n → S (value.Bits x) r) → S v rest
unfolding bits_at
bits_read layout n S bytes v rest fits e h =
    let b = bind_ok (field_at layout n bytes) (λ field. Ok (value.Bits (little_number n field.0), field.1)) (v, rest) e in
    let t = field_takes layout n bytes b.0.0 b.0.1 fits b.1 in
    let x : ℕ = little_number n b.0.0 in
    moved S (value.Bits x) b.0.1 v rest b.2 (h x b.0.1 (field_bytes layout n bytes b.0.0 b.0.1 x t refl) (little_from-lt 0 n b.0.0 t.fits))

flag_read : (layout : Layout) (schema : Schema) (bytes : List ℕ) (v : Value) (rest : List ℕ) → IsBytes bytes → flag_value_at layout bytes ≡ Ok (v, rest) → IsRead layout schema (Builtin builtin.Bool) bytes v rest
unfolding flag_value_at
flag_read layout schema bytes v rest fits e =
    let b = bind_ok (flag_at layout bytes) (λ b. Ok (value.Bool b.0, b.1)) (v, rest) e in
    let t = flag_takes layout bytes b.0.0 b.0.1 fits b.1 in
    let found : IsRead layout schema (Builtin builtin.Bool) bytes (value.Bool b.0.0) b.0.1 = record { takes = t; type = refl; ids = tt } in
    moved (IsRead layout schema (Builtin builtin.Bool) bytes) (value.Bool b.0.0) b.0.1 v rest b.2 found

text_read : (layout : Layout) (schema : Schema) (bytes : List ℕ) (v : Value) (rest : List ℕ) → IsBytes bytes → text_at layout bytes ≡ Ok (v, rest) → IsRead layout schema (Builtin builtin.NsString) bytes v rest
unfolding text_at
text_read layout schema bytes v rest fits e =
    let b = bind_ok (counted_at layout true bytes) (λ b. Ok (value.Text b.0, b.1)) (v, rest) e in
    let t = counted_takes layout true bytes b.0.0 b.0.1 fits b.1 in
    let found : IsRead layout schema (Builtin builtin.NsString) bytes (value.Text b.0.0) b.0.1 = record { takes = t.0; type = (refl, IsUtf8-from_is_utf8 b.0.0 t.1); ids = tt } in
    moved (IsRead layout schema (Builtin builtin.NsString) bytes) (value.Text b.0.0) b.0.1 v rest b.2 found

pub bytes_read : (layout : Layout) (S : Value → List ℕ → Type 0) (bytes : List ℕ) (v : Value) (rest : List ℕ) → IsBytes bytes → bytes_at layout bytes ≡ Ok (v, rest)
    → ((found r : List ℕ) → Takes bytes (counted layout found) r → S (value.Bytes found) r) → S v rest
unfolding bytes_at
bytes_read layout S bytes v rest fits e h =
    let b = bind_ok (counted_at layout false bytes) (λ b. Ok (value.Bytes b.0, b.1)) (v, rest) e in
    let t = counted_takes layout false bytes b.0.0 b.0.1 fits b.1 in
    moved S (value.Bytes b.0.0) b.0.1 v rest b.2 (h b.0.0 b.0.1 t.0)

id_type : (p : ℕ) (nullable : Bool) (id : ℤ) → is_id nullable id ≡ true → IsActorOf (Actor p nullable) id
id_type p true (pos zero) e zero_is = refl
id_type p false (pos zero) e zero_is = absurd cc
id_type p nullable (pos (suc n)) e zero_is = absurd (omega (arith, ints))
id_type p nullable (negsuc n) e zero_is = absurd cc

pub id_carried : (nullable : Bool) (id : ℤ) → is_id nullable id ≡ true → FitsSigned w32 id → IsCarriedId id
id_carried nullable (pos n) e fits = (omega (arith, ints), greatest_word (pos n) fits)
id_carried nullable (negsuc n) e fits = absurd cc

pub actor_read : (layout : Layout) (schema : Schema) (p : ℕ) (nullable : Bool) (bytes : List ℕ) (v : Value) (rest : List ℕ) → IsBytes bytes → actor_at nullable bytes ≡ Ok (v, rest) → IsRead layout schema (Actor p nullable) bytes v rest
unfolding actor_at
actor_read layout schema p nullable bytes v rest fits e =
    let b = bind_ok (id_at nullable bytes) (λ b. Ok (value.Actor b.0, b.1)) (v, rest) e in
    let t = id_takes nullable bytes b.0.0 b.0.1 fits b.1 in
    let found : IsRead layout schema (Actor p nullable) bytes (value.Actor b.0.0) b.0.1 = record { takes = t.takes; type = id_type p nullable b.0.0 t.allowed; ids = (id_carried nullable b.0.0 t.allowed t.fits, tt) } in
    moved (IsRead layout schema (Actor p nullable) bytes) (value.Actor b.0.0) b.0.1 v rest b.2 found

pub builtin_read : (layout : Layout) (schema : Schema) (b : BuiltinType) (bytes : List ℕ) (v : Value) (rest : List ℕ) → IsBytes bytes → builtin_at layout b bytes ≡ Ok (v, rest) → IsRead layout schema (Builtin b) bytes v rest
builtin_read layout schema builtin.Bool bytes v rest fits e = flag_read layout schema bytes v rest fits e
builtin_read layout schema builtin.Char bytes v rest fits e = signed_read layout 1 128 signed1 (IsRead layout schema (Builtin builtin.Char) bytes) bytes v rest fits e (λ z r t low high. record { takes = t; type = (low, high); ids = tt })
builtin_read layout schema builtin.Int8 bytes v rest fits e = signed_read layout 1 128 signed1 (IsRead layout schema (Builtin builtin.Int8) bytes) bytes v rest fits e (λ z r t low high. record { takes = t; type = (low, high); ids = tt })
builtin_read layout schema builtin.Uint8 bytes v rest fits e = unsigned_read layout 1 (IsRead layout schema (Builtin builtin.Uint8) bytes) bytes v rest fits e (λ x r t small. record { takes = t; type = (omega (arith, ints), omega (arith, ints)); ids = tt })
builtin_read layout schema builtin.Short bytes v rest fits e = signed_read layout 2 32768 signed2 (IsRead layout schema (Builtin builtin.Short) bytes) bytes v rest fits e (λ z r t low high. record { takes = t; type = (low, high); ids = tt })
builtin_read layout schema builtin.Int16 bytes v rest fits e = signed_read layout 2 32768 signed2 (IsRead layout schema (Builtin builtin.Int16) bytes) bytes v rest fits e (λ z r t low high. record { takes = t; type = (low, high); ids = tt })
builtin_read layout schema builtin.Uint16 bytes v rest fits e = unsigned_read layout 2 (IsRead layout schema (Builtin builtin.Uint16) bytes) bytes v rest fits e (λ x r t small. record { takes = t; type = (omega (arith, ints), omega (arith, ints)); ids = tt })
builtin_read layout schema builtin.Int bytes v rest fits e = signed_read layout 4 2147483648 signed4 (IsRead layout schema (Builtin builtin.Int) bytes) bytes v rest fits e (λ z r t low high. record { takes = t; type = (low, high); ids = tt })
builtin_read layout schema builtin.Int32 bytes v rest fits e = signed_read layout 4 2147483648 signed4 (IsRead layout schema (Builtin builtin.Int32) bytes) bytes v rest fits e (λ z r t low high. record { takes = t; type = (low, high); ids = tt })
builtin_read layout schema builtin.Uint32 bytes v rest fits e = unsigned_read layout 4 (IsRead layout schema (Builtin builtin.Uint32) bytes) bytes v rest fits e (λ x r t small. record { takes = t; type = (omega (arith, ints), omega (arith, ints)); ids = tt })
builtin_read layout schema builtin.NsResult bytes v rest fits e = unsigned_read layout 4 (IsRead layout schema (Builtin builtin.NsResult) bytes) bytes v rest fits e (λ x r t small. record { takes = t; type = (omega (arith, ints), omega (arith, ints)); ids = tt })
builtin_read layout schema builtin.Long bytes v rest fits e = signed_read layout 8 9223372036854775808 signed8 (IsRead layout schema (Builtin builtin.Long) bytes) bytes v rest fits e (λ z r t low high. record { takes = t; type = (low, high); ids = tt })
builtin_read layout schema builtin.Int64 bytes v rest fits e = signed_read layout 8 9223372036854775808 signed8 (IsRead layout schema (Builtin builtin.Int64) bytes) bytes v rest fits e (λ z r t low high. record { takes = t; type = (low, high); ids = tt })
builtin_read layout schema builtin.IntPtr bytes v rest fits e = signed_read layout 8 9223372036854775808 signed8 (IsRead layout schema (Builtin builtin.IntPtr) bytes) bytes v rest fits e (λ z r t low high. record { takes = t; type = (low, high); ids = tt })
builtin_read layout schema builtin.Uint64 bytes v rest fits e = unsigned_read layout 8 (IsRead layout schema (Builtin builtin.Uint64) bytes) bytes v rest fits e (λ x r t small. record { takes = t; type = (omega (arith, ints), omega (arith, ints)); ids = tt })
builtin_read layout schema builtin.UintPtr bytes v rest fits e = unsigned_read layout 8 (IsRead layout schema (Builtin builtin.UintPtr) bytes) bytes v rest fits e (λ x r t small. record { takes = t; type = (omega (arith, ints), omega (arith, ints)); ids = tt })
builtin_read layout schema builtin.Float bytes v rest fits e = bits_read layout 4 (IsRead layout schema (Builtin builtin.Float) bytes) bytes v rest fits e (λ x r t small. record { takes = t; type = small; ids = tt })
builtin_read layout schema builtin.Double bytes v rest fits e = bits_read layout 8 (IsRead layout schema (Builtin builtin.Double) bytes) bytes v rest fits e (λ x r t small. record { takes = t; type = small; ids = tt })
builtin_read layout schema builtin.NsString bytes v rest fits e = text_read layout schema bytes v rest fits e
builtin_read layout schema builtin.NsCString bytes v rest fits e = bytes_read layout (IsRead layout schema (Builtin builtin.NsCString) bytes) bytes v rest fits e (λ found r t. record { takes = t; type = refl; ids = tt })
builtin_read layout schema builtin.ByteBuf bytes v rest fits e = bytes_read layout (IsRead layout schema (Builtin builtin.ByteBuf) bytes) bytes v rest fits e (λ found r t. record { takes = t; type = refl; ids = tt })
builtin_read layout schema builtin.Shmem bytes v rest fits e = absurd cc
builtin_read layout schema builtin.FileDescriptor bytes v rest fits e = absurd cc
