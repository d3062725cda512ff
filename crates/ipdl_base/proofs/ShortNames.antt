-- The bytes after the last colon, as the short name.
use Rattle.std.proofs.Common.{◌≡◌, ℕ, zero, suc, ◌<◌, ◌==◌, Bool, true, false, List, [], ◌∷◌, length, drop, get_or, refl, arith}
use Rattle.std.specs.List.{list_any}
use Rattle.ipdl_base.specs.Words.{short_name}
use Rattle.std.proofs.lemmas.Grind.{common_steps}

abbrev pub is_colon : ℕ → Bool
is_colon b = b == 58

-- a byte that is a colon is among them
pub colon_among : (xs : List ℕ) (i : ℕ) → i < length xs → get_or xs i 0 ≡ 58 → list_any is_colon xs ≡ true
colon_among [] i within is = absurd (omega arith)
colon_among (x ∷ xs) zero within is = grind (arith, common_steps, is)
colon_among (x ∷ xs) (suc i) within is = let later : list_any is_colon xs ≡ true = colon_among xs i (omega arith) is in grind (arith, common_steps, later)

-- without a colon all is the short name
pub all_short : (xs : List ℕ) → list_any is_colon xs ≡ false → xs ≡ short_name xs
all_short [] none = refl
all_short (x ∷ xs) none = grind (arith, common_steps, none)

-- the short name follows the last colon
pub short_after : (xs : List ℕ) (i : ℕ) → i < length xs → get_or xs i 0 ≡ 58 → list_any is_colon (drop (suc i) xs) ≡ false → drop (suc i) xs ≡ short_name xs
short_after [] i within is none = absurd (omega arith)
short_after (x ∷ xs) zero within is none = rw (none, is) refl
short_after (x ∷ xs) (suc i) within is none = rw (colon_among xs i (omega arith) is) (short_after xs i (omega arith) is none)
