-- The command that runs one end on a file of bytes: `ipdl feed [-s LIST] [--path DIRS] [--limit N] --side SIDE SCRIPT FILE FRAMES`.
use Rattle.std.specs.Prelude.{◌≡◌, ℕ, List, [], ◌∷◌, Option, Some, None, codes}
use Rattle.ipdl_base.specs.declared.kinds.Side.{Side}
use Rattle.command_words.specs.Options.{Choice, WordUse, Reads, EachOnce, own_words, value_of}
use Rattle.command_words.specs.Compile.{IsPath, list_option, path_option}
use Rattle.command_words.specs.Operands.{AreScriptOperands}
use Rattle.command_words.specs.Run.{limit_option}
use Rattle.command_words.specs.RunOptions.{IsLimit, word_of}

-- the first word that chooses the command
abbrev pub feed_word : List ℕ
feed_word = codes "feed"

-- `--side SIDE`
abbrev pub side_option : Choice
side_option = record { name = codes "side"; letter = None }

abbrev pub feed_options : List Choice
feed_options = list_option ∷ path_option ∷ limit_option ∷ side_option ∷ []

-- the side of the end, which has to be given
abbrev pub IsSide : Option (List ℕ) → Side → Type 0
IsSide None side = ⊥
IsSide (Some text) side = text ≡ word_of side

-- How a feed goes: the side of the end, and the most events that it may have.
pub record FeedCourse : Type 0 where
  pub side : Side
  pub limit : ℕ

-- what the words after the first word say
pub record SaysFeed (words : List (List ℕ)) (list : Option (List ℕ)) (path : List (List ℕ)) (course : FeedCourse) (script file frames : List ℕ) : Type 0 where
  pub said : List WordUse
  pub reads : Reads feed_options words said
  pub once : EachOnce said
  pub list_is : list ≡ value_of (codes "sync-msg-list") said
  pub path_is : IsPath (value_of (codes "path") said) path
  pub limit_is : IsLimit (value_of (codes "limit") said) course.limit
  pub side_is : IsSide (value_of (codes "side") said) course.side
  pub operands : AreScriptOperands (own_words said) script file frames

-- The words are the command that runs one end of this script, in this course, on the bytes of this file of frames, by
-- the program of this file, path and list.
abbrev pub IsFeed : List (List ℕ) → Option (List ℕ) → List (List ℕ) → FeedCourse → List ℕ → List ℕ → List ℕ → Type 0
IsFeed [] list path course script file frames = ⊥
IsFeed (word ∷ words) list path course script file frames = (word ≡ feed_word) × SaysFeed words list path course script file frames

-- the words are no such command
abbrev pub IsNoFeed : List (List ℕ) → Type 0
IsNoFeed words = (list : Option (List ℕ)) (path : List (List ℕ)) (course : FeedCourse) (script file frames : List ℕ) → ¬ IsFeed words list path course script file frames
