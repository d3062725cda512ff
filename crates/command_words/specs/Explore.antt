-- The command that lists the ways of a script: `ipdl explore [-s LIST] [--path DIRS] [--limit N] [--ways M] SCRIPT FILE`.
use Rattle.std.specs.Prelude.{◌≡◌, ℕ, List, [], ◌∷◌, Option, Some, None, codes}
use Rattle.command_words.specs.Options.{Choice, WordUse, Reads, EachOnce, own_words, value_of}
use Rattle.command_words.specs.Compile.{IsPath, list_option, path_option}
use Rattle.command_words.specs.Run.{AreRunOperands, limit_option}
use Rattle.command_words.specs.RunOptions.{IsCount, IsLimit}

-- the first word that chooses the command
abbrev pub explore_word : List ℕ
explore_word = codes "explore"

-- `--ways M`
abbrev pub ways_option : Choice
ways_option = record { name = codes "ways"; letter = None }

abbrev pub explore_options : List Choice
explore_options = list_option ∷ path_option ∷ limit_option ∷ ways_option ∷ []

-- the most ways: 1,000, and with `--ways` any number from 1 to 10,000
abbrev pub IsMostWays : Option (List ℕ) → ℕ → Type 0
IsMostWays None ways = ways ≡ 1000
IsMostWays (Some text) ways = IsCount 10000 text ways

-- How an exploration goes: the most events of a side, and the most ways.
pub record ExploreCourse : Type 0 where
  pub limit : ℕ
  pub ways : ℕ

-- what the words after the first word say
pub record SaysExplore (words : List (List ℕ)) (list : Option (List ℕ)) (path : List (List ℕ)) (course : ExploreCourse) (script file : List ℕ) : Type 0 where
  pub said : List WordUse
  pub reads : Reads explore_options words said
  pub once : EachOnce said
  pub list_is : list ≡ value_of (codes "sync-msg-list") said
  pub path_is : IsPath (value_of (codes "path") said) path
  pub limit_is : IsLimit (value_of (codes "limit") said) course.limit
  pub ways_are : IsMostWays (value_of (codes "ways") said) course.ways
  pub operands : AreRunOperands (own_words said) script file

-- The words are the command that lists the ways of this script, in this course, by the program of this file, path and list.
abbrev pub IsExplore : List (List ℕ) → Option (List ℕ) → List (List ℕ) → ExploreCourse → List ℕ → List ℕ → Type 0
IsExplore [] list path course script file = ⊥
IsExplore (word ∷ words) list path course script file = (word ≡ explore_word) × SaysExplore words list path course script file

-- the words are no such command
abbrev pub IsNoExplore : List (List ℕ) → Type 0
IsNoExplore words = (list : Option (List ℕ)) (path : List (List ℕ)) (course : ExploreCourse) (script file : List ℕ) → ¬ IsExplore words list path course script file
