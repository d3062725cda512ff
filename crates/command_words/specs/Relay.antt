-- The command that runs a script over two queues: `ipdl relay [-s LIST] [--path DIRS] [--die SIDE:K] [--limit N] SCRIPT FILE`.
use Rattle.std.specs.Prelude.{◌≡◌, ℕ, List, [], ◌∷◌, Option, codes}
use Rattle.schedules.specs.declared.stop.Stop.{Stop}
use Rattle.command_words.specs.Options.{Choice, WordUse, Reads, EachOnce, own_words, value_of}
use Rattle.command_words.specs.Compile.{IsPath, list_option, path_option}
use Rattle.command_words.specs.Run.{AreRunOperands, die_option, limit_option}
use Rattle.command_words.specs.RunOptions.{IsDeath, IsLimit}

-- the first word that chooses the command
abbrev pub relay_word : List ℕ
relay_word = codes "relay"

abbrev pub relay_options : List Choice
relay_options = list_option ∷ path_option ∷ limit_option ∷ die_option ∷ []

-- How a relay goes: the most events of a side, and the death of an end.
pub record RelayCourse : Type 0 where
  pub limit : ℕ
  pub death : Option Stop

-- what the words after the first word say
pub record SaysRelay (words : List (List ℕ)) (list : Option (List ℕ)) (path : List (List ℕ)) (course : RelayCourse) (script file : List ℕ) : Type 0 where
  pub said : List WordUse
  pub reads : Reads relay_options words said
  pub once : EachOnce said
  pub list_is : list ≡ value_of (codes "sync-msg-list") said
  pub path_is : IsPath (value_of (codes "path") said) path
  pub limit_is : IsLimit (value_of (codes "limit") said) course.limit
  pub death_is : IsDeath (value_of (codes "die") said) course.death
  pub operands : AreRunOperands (own_words said) script file

-- The words are the command that runs this script over two queues, in this course, by the program of this file, path and list.
abbrev pub IsRelay : List (List ℕ) → Option (List ℕ) → List (List ℕ) → RelayCourse → List ℕ → List ℕ → Type 0
IsRelay [] list path course script file = ⊥
IsRelay (word ∷ words) list path course script file = (word ≡ relay_word) × SaysRelay words list path course script file

-- the words are no such command
abbrev pub IsNoRelay : List (List ℕ) → Type 0
IsNoRelay words = (list : Option (List ℕ)) (path : List (List ℕ)) (course : RelayCourse) (script file : List ℕ) → ¬ IsRelay words list path course script file
