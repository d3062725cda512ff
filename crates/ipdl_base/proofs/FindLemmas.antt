-- What is found in a list, by the first place that passes.
use Rattle.std.proofs.Common.{◌≡◌, ℕ, ◌<◌, ◌≤◌, Bool, List, length, get_or, Some, None, ap, ◌∙◌, arith}
use Rattle.std.specs.List.{find, position, position_or_len, slice_get}
use Rattle.std.proofs.lemmas.Bool.Decides.{nat_tests}
use Rattle.std.proofs.lemmas.List.Folds.{find_at}
use Rattle.std.proofs.lemmas.List.Quantifiers.{position-Some}
use Rattle.std.proofs.lemmas.Option.{slice_get-get_or, slice_get_past}

-- the first place is past the end where none passes
pub past_end : {X : Type 0} (p : X → Bool) (xs : List X) → position p xs ≡ None → length xs ≤ position_or_len p xs
past_end p xs h = grind (arith, nat_tests)

-- what no place has is not found
pub find_nowhere : {X : Type 0} (p : X → Bool) (xs : List X) → position p xs ≡ None → find p xs ≡ None
find_nowhere p xs h = find_at p xs ∙ slice_get_past xs (position_or_len p xs) (past_end p xs h)

-- the element at the first place is found
pub find_there : {X : Type 0} (p : X → Bool) (xs : List X) (i : ℕ) (d : X) → position p xs ≡ Some i → find p xs ≡ Some (get_or xs i d)
find_there p xs i d h =
    let at : position_or_len p xs ≡ i = grind (arith, nat_tests) in
    let below : i < length xs = (position-Some p xs i d h).0 in
    find_at p xs ∙ ap (slice_get xs) at ∙ slice_get-get_or xs i d below
