use Rattle.std.proofs.Common.{◌≡◌, ℕ, zero, suc, ◌-◌, ◌/◌, ◌%◌, ◌≢◌, [], ◌∷◌, ◌++◌, refl, ap, arith}
use Rattle.value_types.specs.ValueText.{hex_digit, hex_digits}

-- the case of no digits
pub hex_digits_none : (count n : ℕ) → count ≡ 0 → hex_digits count n ≡ []
unfolding hex_digits
hex_digits_none zero n none = refl
hex_digits_none (suc count) n none = absurd (omega arith)

-- the last digit, after the others
pub hex_digits_step : (count n : ℕ) → count ≢ 0 → hex_digits count n ≡ hex_digits (count - 1) (n / 16) ++ hex_digit (n % 16) ∷ []
unfolding hex_digits
hex_digits_step zero n some = absurd (some refl)
hex_digits_step (suc count) n some =
    let same : count ≡ suc count - 1 = omega arith in
    ap (λ c. hex_digits c (n / 16) ++ hex_digit (n % 16) ∷ []) same
