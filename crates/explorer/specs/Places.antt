-- How far a search has come among the words of turns.
use Rattle.std.specs.Prelude.{◌≡◌, ◌⊎◌, ℕ, ◌<◌, List, [], ◌∷◌, Option, Some, None}
use Rattle.schedules.specs.declared.turn.Turn.{Turn}
use Rattle.explorations.specs.Words.{rank}

-- the place of a letter in the order, and one more for no letter
abbrev pub rank_of : Option Turn → ℕ
rank_of (Some turn) = rank turn
rank_of None = 4

-- A word comes before the place where a search has come to a word and tries letters from this rank on: the word precedes it or
-- is it, or goes on from it by a letter of a smaller rank.
abbrev pub IsBefore : List Turn → ℕ → List Turn → Type 0
IsBefore [] next [] = Unit {0}
IsBefore [] next (turn ∷ more) = rank turn < next
IsBefore (letter ∷ word) next [] = Unit {0}
IsBefore (letter ∷ word) next (turn ∷ more) = (rank turn < rank letter) ⊎ ((turn ≡ letter) × IsBefore word next more)
