-- The command that runs a generated case: `ipdl gen [--actors A] N`.
use Rattle.std.specs.Prelude.{◌≡◌, ℕ, List, [], ◌∷◌, Option, Some, None, codes}
use Rattle.command_words.specs.Options.{Choice, WordUse, Reads, EachOnce, own_words, value_of}
use Rattle.command_words.specs.RunOptions.{IsCount}

-- the first word that chooses the command
abbrev pub gen_word : List ℕ
gen_word = codes "gen"

-- `--actors A`
abbrev pub actors_option : Choice
actors_option = record { name = codes "actors"; letter = None }

abbrev pub gen_options : List Choice
gen_options = actors_option ∷ []

-- the number of actors: 4, and with `--actors` any from 1 to 100
abbrev pub IsActors : Option (List ℕ) → ℕ → Type 0
IsActors None actors = actors ≡ 4
IsActors (Some text) actors = IsCount 100 text actors

-- N, the number of rounds: from 1 to 1,000
pub record IsRounds (words : List (List ℕ)) (rounds : ℕ) : Type 0 where
  pub text : List ℕ
  pub one : words ≡ text ∷ []
  pub count : IsCount 1000 text rounds

-- what the words after the first word say
pub record SaysGen (words : List (List ℕ)) (rounds actors : ℕ) : Type 0 where
  pub said : List WordUse
  pub reads : Reads gen_options words said
  pub once : EachOnce said
  pub actors_is : IsActors (value_of (codes "actors") said) actors
  pub rounds_is : IsRounds (own_words said) rounds

-- The words are the command that runs the case with these numbers of rounds and actors.
abbrev pub IsGen : List (List ℕ) → ℕ → ℕ → Type 0
IsGen [] rounds actors = ⊥
IsGen (word ∷ words) rounds actors = (word ≡ gen_word) × SaysGen words rounds actors

-- the words are no such command
abbrev pub IsNoGen : List (List ℕ) → Type 0
IsNoGen words = (rounds actors : ℕ) → ¬ IsGen words rounds actors
