-- Signed numbers in two's complement.
use Rattle.std.proofs.Common.{◌≡◌, ◌<◌, ℕ, ◌-◌, ◌%◌, ◌^◌, ℤ, pos, negsuc, ◌≤ℤ◌, arith}
use Rattle.std.proofs.lemmas.Int.{ints}
use Rattle.std.proofs.lemmas.Bool.Decides.{nat_tests}
use Rattle.std.specs.Int.{w32, w128, cast_unsigned, cast_signed}
use Rattle.std.specs.Int.RustNames.{FitsSigned}
use Rattle.byteorder.specs.Endian.{twos_complement}

-- A signed number of n bytes.
pub record IsSigned (n : ℕ) (half : ℕ) : Type 0 where
  pub low : (x : ℕ) → x < 256 ^ n → cast_unsigned w128 (twos_complement n x) % 256 ^ n ≡ x
  pub least : (x : ℕ) → x < 256 ^ n → negsuc (half - 1) ≤ℤ twos_complement n x
  pub greatest : (x : ℕ) → x < 256 ^ n → twos_complement n x ≤ℤ pos (half - 1)
  pub back : (z : ℤ) → negsuc (half - 1) ≤ℤ z → z ≤ℤ pos (half - 1) → twos_complement n (cast_unsigned w128 z % 256 ^ n) ≡ z

pub signed1 : IsSigned 1 128
signed1 = record {
  low = λ x small. grind (arith, ints, nat_tests);
  least = λ x small. grind (arith, ints, nat_tests);
  greatest = λ x small. grind (arith, ints, nat_tests);
  back = λ z low high. grind (arith, ints, nat_tests);
}

pub signed2 : IsSigned 2 32768
signed2 = record {
  low = λ x small. grind (arith, ints, nat_tests);
  least = λ x small. grind (arith, ints, nat_tests);
  greatest = λ x small. grind (arith, ints, nat_tests);
  back = λ z low high. grind (arith, ints, nat_tests);
}

pub signed4 : IsSigned 4 2147483648
signed4 = record {
  low = λ x small. grind (arith, ints, nat_tests);
  least = λ x small. grind (arith, ints, nat_tests);
  greatest = λ x small. grind (arith, ints, nat_tests);
  back = λ z low high. grind (arith, ints, nat_tests);
}

pub signed8 : IsSigned 8 9223372036854775808
signed8 = record {
  low = λ x small. grind (arith, ints, nat_tests);
  least = λ x small. grind (arith, ints, nat_tests);
  greatest = λ x small. grind (arith, ints, nat_tests);
  back = λ z low high. grind (arith, ints, nat_tests);
}

-- what is between the least and the greatest number of 32 bits fits in 32 bits
pub fits_word : (z : ℤ) → negsuc 2147483647 ≤ℤ z → z ≤ℤ pos 2147483647 → FitsSigned w32 z
fits_word (pos n) low high = record { sfits = omega (arith, ints) }
fits_word (negsuc n) low high = record { sfits = omega (arith, ints) }

pub word_fits : (n : ℕ) → n < 2 ^ 32 → FitsSigned w32 (cast_signed w32 n)
word_fits n small = fits_word (cast_signed w32 n) (grind (arith, ints, nat_tests)) (grind (arith, ints, nat_tests))

pub unsigned_small : (z : ℤ) → FitsSigned w32 z → cast_unsigned w32 z < 2 ^ 32
unsigned_small (pos n) fits = omega (arith, fits.sfits)
unsigned_small (negsuc n) fits = omega (arith, fits.sfits)

pub least_word : (z : ℤ) → FitsSigned w32 z → negsuc 2147483647 ≤ℤ z
least_word z fits = omega (arith, ints)

pub greatest_word : (z : ℤ) → FitsSigned w32 z → z ≤ℤ pos 2147483647
greatest_word z fits = omega (arith, ints)
