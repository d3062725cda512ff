-- The commands that run a script: `ipdl run [-s LIST] [--path DIRS] [--schedule WORD] [--limit N] [--die SIDE:K] SCRIPT FILE`, which
-- prints the history, and `ipdl chart` with the same words, which draws it.
use Rattle.std.specs.Prelude.{◌≡◌, ℕ, List, [], ◌∷◌, ◌++◌, Option, None, codes}
use Rattle.schedules.specs.declared.stop.Stop.{Stop}
use Rattle.schedules.specs.declared.turn.Turn.{Turn}
use Rattle.command_words.specs.Options.{Choice, WordUse, Reads, EachOnce, own_words, value_of}
use Rattle.command_words.specs.Compile.{IsPath, list_option, path_option}
use Rattle.command_words.specs.RunOptions.{IsDeath, IsLimit, IsSchedule}

-- the first words that choose the commands
abbrev pub run_word : List ℕ
run_word = codes "run"

abbrev pub chart_word : List ℕ
chart_word = codes "chart"

-- `--schedule WORD`
abbrev pub schedule_option : Choice
schedule_option = record { name = codes "schedule"; letter = None }

-- `--limit N`
abbrev pub limit_option : Choice
limit_option = record { name = codes "limit"; letter = None }

-- `--die SIDE:K`
abbrev pub die_option : Choice
die_option = record { name = codes "die"; letter = None }

abbrev pub run_options : List Choice
run_options = list_option ∷ path_option ∷ schedule_option ∷ limit_option ∷ die_option ∷ []

-- How a run goes: its word of turns, if one is given, the most events of a side, and the death of an end.
pub record Course : Type 0 where
  pub schedule : Option (List Turn)
  pub limit : ℕ
  pub death : Option Stop

-- SCRIPT and FILE: FILE ends in `.ipdl`
pub record AreRunOperands (words : List (List ℕ)) (script file : List ℕ) : Type 0 where
  pub front : List ℕ
  pub ending : file ≡ front ++ codes ".ipdl"
  pub both : words ≡ script ∷ file ∷ []

-- what the words after the first word say
pub record SaysRun (words : List (List ℕ)) (list : Option (List ℕ)) (path : List (List ℕ)) (course : Course) (script file : List ℕ) : Type 0 where
  pub said : List WordUse
  pub reads : Reads run_options words said
  pub once : EachOnce said
  pub list_is : list ≡ value_of (codes "sync-msg-list") said
  pub path_is : IsPath (value_of (codes "path") said) path
  pub schedule_is : IsSchedule (value_of (codes "schedule") said) course.schedule
  pub limit_is : IsLimit (value_of (codes "limit") said) course.limit
  pub death_is : IsDeath (value_of (codes "die") said) course.death
  pub operands : AreRunOperands (own_words said) script file

-- the words after the first word say no such thing
abbrev pub SaysNoRun : List (List ℕ) → Type 0
SaysNoRun words = (list : Option (List ℕ)) (path : List (List ℕ)) (course : Course) (script file : List ℕ) → ¬ SaysRun words list path course script file

-- The words are the command of this first word that runs this script, in this course, by the program of this file, path and list.
abbrev pub IsRunBy : List ℕ → List (List ℕ) → Option (List ℕ) → List (List ℕ) → Course → List ℕ → List ℕ → Type 0
IsRunBy first [] list path course script file = ⊥
IsRunBy first (word ∷ words) list path course script file = (word ≡ first) × SaysRun words list path course script file

-- The words are the command that runs the script and prints the history, and the one that draws it.
abbrev pub IsRun : List (List ℕ) → Option (List ℕ) → List (List ℕ) → Course → List ℕ → List ℕ → Type 0
IsRun = IsRunBy run_word

abbrev pub IsChart : List (List ℕ) → Option (List ℕ) → List (List ℕ) → Course → List ℕ → List ℕ → Type 0
IsChart = IsRunBy chart_word

-- the words are no such command
abbrev pub IsNoRunBy : List ℕ → List (List ℕ) → Type 0
IsNoRunBy first words = (list : Option (List ℕ)) (path : List (List ℕ)) (course : Course) (script file : List ℕ) → ¬ IsRunBy first words list path course script file

abbrev pub IsNoRun : List (List ℕ) → Type 0
IsNoRun = IsNoRunBy run_word

abbrev pub IsNoChart : List (List ℕ) → Type 0
IsNoChart = IsNoRunBy chart_word
