-- Numbers in little-endian bytes.
use Rattle.std.proofs.Common.{◌≡◌, ◌≤◌, ◌<◌, ℕ, zero, suc, ◌+◌, ◌*◌, ◌/◌, ◌%◌, ◌^◌, List, [], ◌∷◌, ◌++◌, length, take, get_or, refl, sym, ap, ◌∙◌, arith}
use Rattle.std.proofs.lemmas.List.{take-append-le, take_all, append-nil}
use Rattle.std.proofs.Math.Nat.{div-div-eq-div-mul, div-one, pow-succ'}
use Rattle.std.specs.Int.{byte_at, bytes_low_first}
use Rattle.byteorder.proofs.Bytes.{take-bytes_low_first}
use Rattle.byteorder.specs.Endian.{little_bytes, little_number, little_from}
use Rattle.byteorder.specs.Numbers.{length-bytes_low_first, little_from-cons, little_from-bytes}

-- each is a byte
abbrev pub IsBytes : List ℕ → Type 0
IsBytes bytes = (i : ℕ) → get_or bytes i 0 < 256

-- the lowest bytes of a number are first among its bytes
pub take-little_bytes : (most count n : ℕ) (bytes rest : List ℕ) → count ≤ most → bytes ≡ little_bytes most n ++ rest → take count bytes ≡ little_bytes count n
take-little_bytes most count n bytes rest few is =
    ap (take count) is ∙ take-append-le count (little_bytes most n) rest (omega (arith, length-bytes_low_first 0 most n)) ∙ take-bytes_low_first 0 most count n few

byte_at-pow : (k x : ℕ) → byte_at k x ≡ x / 256 ^ k % 256
byte_at-pow zero x = ap (λ (y : ℕ). y % 256) (sym (div-one x))
byte_at-pow (suc k) x = refl

-- after its lowest byte, a number's bytes are those of the rest
byte_at-suc : (k b y : ℕ) → b < 256 → byte_at (suc k) (b + 256 * y) ≡ byte_at k y
byte_at-suc k b y small =
    let rest : (b + 256 * y) / 256 ≡ y = omega arith in
    let split : (b + 256 * y) / 256 ^ suc k ≡ y / 256 ^ k = ap (λ (p : ℕ). (b + 256 * y) / p) (pow-succ' 256 k) ∙ sym (div-div-eq-div-mul (b + 256 * y) 256 (256 ^ k)) ∙ ap (λ (q : ℕ). q / 256 ^ k) rest in
    ap (λ (q : ℕ). q % 256) split ∙ sym (byte_at-pow k y)

bytes-suc : (i n b y : ℕ) → b < 256 → bytes_low_first (suc i) n (b + 256 * y) ≡ bytes_low_first i n y
bytes-suc i zero b y small = refl
bytes-suc i (suc n) b y small = λ j. byte_at-suc i b y small j ∷ bytes-suc (suc i) n b y small j

-- the bytes of the number that bytes spell are those bytes
pub bytes_back : (n : ℕ) (bytes : List ℕ) → IsBytes bytes → n ≤ length bytes → little_bytes n (little_number n bytes) ≡ take n bytes
bytes_back zero bytes fits long = refl
bytes_back (suc n) [] fits long = absurd (omega arith)
bytes_back (suc n) (b ∷ bytes) fits long =
    let small : b < 256 = fits 0 in
    let moved : little_from 0 (suc n) (b ∷ bytes) ≡ b + 256 * little_from 0 n bytes = ap (λ (r : ℕ). b + 256 * r) (little_from-cons 0 n b bytes) in
    let low : byte_at 0 (b + 256 * little_from 0 n bytes) ≡ b = omega arith in
    let rest : bytes_low_first 1 n (b + 256 * little_from 0 n bytes) ≡ take n bytes = bytes-suc 0 n b (little_from 0 n bytes) small ∙ bytes_back n bytes (λ i. fits (suc i)) (omega arith) in
    ap (bytes_low_first 0 (suc n)) moved ∙ (λ j. low j ∷ rest j)

-- the number in the first n bytes of a number is the number modulo 256^n
pub number_in : (n x : ℕ) → little_number n (little_bytes n x) ≡ x % 256 ^ n
number_in n x =
    ap (little_from 0 n) (sym (append-nil (little_bytes n x))) ∙ little_from-bytes n 0 x [] ∙ ap (λ (y : ℕ). y % 256 ^ n) (div-one x)

IsBytes-little : (i n x : ℕ) → IsBytes (bytes_low_first i n x)
IsBytes-little i zero x k = omega arith
IsBytes-little i (suc n) x zero = omega (arith, byte_at-pow i x)
IsBytes-little i (suc n) x (suc k) = IsBytes-little (suc i) n x k

pub length-little : (n x : ℕ) → length (little_bytes n x) ≡ n
length-little n x = length-bytes_low_first 0 n x

-- the lowest n bytes of a number depend only on the number modulo 256^n
pub low_bytes_same : (n a b : ℕ) → a % 256 ^ n ≡ b % 256 ^ n → little_bytes n a ≡ little_bytes n b
low_bytes_same n a b e =
    let one : (x : ℕ) → little_bytes n (x % 256 ^ n) ≡ little_bytes n x = λ x. ap (little_bytes n) (sym (number_in n x)) ∙ bytes_back n (little_bytes n x) (IsBytes-little 0 n x) (omega (arith, length-little n x)) ∙ take_all n (little_bytes n x) (omega (arith, length-little n x)) in
    sym (one a) ∙ ap (little_bytes n) e ∙ one b
