-- One more text of a list is added to a set.
use Rattle.std.proofs.Common.{◌≡◌, ℕ, ◌+◌, ◌<◌, Bool, true, false, not, List, ◌∷◌, [], ◌++◌, length, map, take, get_or, refl, ap, ◌∙◌, string_bytes, String, Global}
use Rattle.std.proofs.lemmas.List.{take_more, map-append}

-- one more text, as bytes
pub more_texts : (texts : List (String Global)) (i : ℕ) (d : String Global) → i < length texts → map string_bytes (take (i + 1) texts) ≡ map string_bytes (take i texts) ++ string_bytes (get_or texts i d) ∷ []
more_texts texts i d within = ap (map string_bytes) (take_more texts i d within) ∙ map-append string_bytes (take i texts) (get_or texts i d ∷ [])

-- what was added was not there, and what was not added was
pub turned : (t b : Bool) → t ≡ not b → t ≡ true → b ≡ false
turned true true e h = e
turned true false e h = refl
turned false b e h = absurd (let none : ⊥ = cc in none)

pub kept : (t b : Bool) → t ≡ not b → t ≡ false → b ≡ true
kept false true e h = refl
kept false false e h = e
kept true b e h = absurd (let none : ⊥ = cc in none)
