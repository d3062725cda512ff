-- How much of a label is kept.
use Rattle.std.proofs.Common.{◌≡◌, ℕ, suc, ◌-◌, ◌==◌, ◌≤◌, Bool, true, false, if◌then◌else◌, List, [], ◌∷◌, length, Option, Some, None, subst, arith}
use Rattle.std.specs.Prelude.{option_map}
use Rattle.charts.specs.Labels.{is_continuation, kept_length, kept_values}

-- no more than this number is kept
abbrev pub IsWithin : ℕ → Option ℕ → Type 0
IsWithin most None = Unit {0}
IsWithin most (Some n) = n ≤ most

one_more : (most : ℕ) (kept : Option ℕ) → IsWithin most kept → IsWithin (suc most) (option_map suc kept)
one_more most None within = tt
one_more most (Some n) within = let more : suc n ≤ suc most = omega arith in more

either : (most : ℕ) (holds : Bool) (one other : Option ℕ) → IsWithin most one → IsWithin most other → IsWithin most (if holds then one else other)
either most true one other first second = first
either most false one other first second = second

-- no more of values is kept than there is
values_within : (left : ℕ) (bytes : List ℕ) → IsWithin (length bytes) (kept_values left bytes)
values_within left [] = tt
values_within left (byte ∷ rest) =
    let most : ℕ = suc (length rest) in
    either most (is_continuation byte) (option_map suc (kept_values left rest)) (if left == 0 then (if length rest == 0 then None else Some 0) else option_map suc (kept_values (left - 1) rest))
    (one_more (length rest) (kept_values left rest) (values_within left rest))
    (either most (left == 0) (if length rest == 0 then None else Some 0) (option_map suc (kept_values (left - 1) rest))
    (either most (length rest == 0) None (Some 0) tt (let none : 0 ≤ suc (length rest) = omega arith in none))
    (one_more (length rest) (kept_values (left - 1) rest) (values_within (left - 1) rest)))

-- no more of a line is kept than there is
length_within : (bytes : List ℕ) → IsWithin (length bytes) (kept_length bytes)
length_within [] = tt
length_within (byte ∷ rest) =
    one_more (length rest) (if byte == 40 then kept_values 40 rest else kept_length rest) (either (length rest) (byte == 40) (kept_values 40 rest) (kept_length rest) (values_within 40 rest) (length_within rest))

-- what is kept of values is no more than there is
pub kept_values_within : (bytes : List ℕ) (n : ℕ) → kept_values 40 bytes ≡ Some n → n ≤ length bytes
kept_values_within bytes n is = subst (IsWithin (length bytes)) is (values_within 40 bytes)

-- what is kept of a line is no more than there is
pub kept_length_within : (bytes : List ℕ) (n : ℕ) → kept_length bytes ≡ Some n → n ≤ length bytes
kept_length_within bytes n is = subst (IsWithin (length bytes)) is (length_within bytes)
