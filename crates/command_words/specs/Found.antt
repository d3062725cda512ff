-- What is found in the words of a command.
use Rattle.std.specs.Prelude.{◌≡◌, ◌≢◌, ℕ, List, [], ◌∷◌, Option, Some, None}
use Rattle.clap.specs.Words.{all_of, first_of, found_of, rows_of}
use Rattle.clap.specs.declared.parser.matches.ArgMatches.{ArgMatches}
use Rattle.command_words.specs.Options.{Choice, EachOnce, Reads, WordUse, own_words, value_of}
use Rattle.command_words.specs.Forms.{own_id}

-- the list, if it is not empty
abbrev pub some_of : List (List ℕ) → Option (List (List ℕ))
some_of [] = None
some_of (word ∷ words) = Some (word ∷ words)

-- The matches are what the words say: the value of each option that they give, and the other words.
pub record IsFound (options : List Choice) (words : List (List ℕ)) (found : ArgMatches) : Type 0 where
  pub said : List WordUse
  pub reads : Reads options words said
  pub once : EachOnce said
  pub values : (name : List ℕ) → name ≢ own_id → first_of name (rows_of (found_of found)) ≡ value_of name said
  pub others : all_of own_id (rows_of (found_of found)) ≡ some_of (own_words said)
