-- What is made for each of the numbers from 1 on.
use Rattle.std.proofs.Common.{◌≡◌, ◌∙◌, ℕ, zero, suc, ◌+◌, List, [], ◌∷◌, ◌++◌, refl, sym, ap, arith, append-nil, append_assoc}
use Rattle.std.specs.List.{flat_map, range_with_len}

flat_map_more : (f : ℕ → List ℕ) (a n : ℕ) → flat_map f (range_with_len a (suc n)) ≡ flat_map f (range_with_len a n) ++ f (a + n)
flat_map_more f a zero = append-nil (f a) ∙ ap f (let same : a ≡ a + 0 = omega arith in same)
flat_map_more f a (suc n) =
    ap (λ (rest : List ℕ). f a ++ rest) (flat_map_more f (a + 1) n ∙ ap (λ (k : ℕ). flat_map f (range_with_len (a + 1) n) ++ f k) (let same : a + 1 + n ≡ a + suc n = omega arith in same))
    ∙ sym (append_assoc (f a) (flat_map f (range_with_len (a + 1) n)) (f (a + suc n)))

-- after the text for the numbers so far, the text for one more
pub one_more : (f : ℕ → List ℕ) (before now next : List ℕ) (n : ℕ) → now ≡ before ++ flat_map f (range_with_len 1 n) → next ≡ now ++ f (n + 1) → next ≡ before ++ flat_map f (range_with_len 1 (n + 1))
one_more f before now next n so_far more =
    more ∙ ap (λ (t : List ℕ). t ++ f (n + 1)) so_far ∙ append_assoc before (flat_map f (range_with_len 1 n)) (f (n + 1))
    ∙ ap (λ (t : List ℕ). before ++ t) (ap (λ (k : ℕ). flat_map f (range_with_len 1 n) ++ f k) (let same : n + 1 ≡ 1 + n = omega arith in same) ∙ sym (flat_map_more f 1 n)
    ∙ ap (λ (k : ℕ). flat_map f (range_with_len 1 k)) (let same : suc n ≡ n + 1 = omega arith in same))
