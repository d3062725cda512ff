-- The command that compiles files: `ipdl [-s LIST] [--path DIRS] FILES`.
use Rattle.std.specs.Prelude.{◌≡◌, ◌≢◌, ℕ, ◌≤◌, ◌⊎◌, not, List, [], ◌∷◌, Option, Some, None, length, filter, codes}
use Rattle.std.specs.Str.{bytes_eq}
use Rattle.std.specs.List.{AllByRecursion, join_with_byte}
use Rattle.ipdl_base.specs.FileNames.{IsFileWord, key_of}
use Rattle.command_words.specs.Options.{Choice, WordUse, Reads, EachOnce, own_words, value_of}

-- the word is in the list
abbrev pub HasWord : List (List ℕ) → List ℕ → Type 0
HasWord [] word = ⊥
HasWord (w ∷ ws) word = (w ≡ word) ⊎ HasWord ws word

-- the first words that choose another command
abbrev pub other_commands : List (List ℕ)
other_commands = codes "frames" ∷ codes "waits" ∷ codes "run" ∷ codes "gen" ∷ codes "feed" ∷ codes "audit" ∷ codes "relay" ∷ codes "chart" ∷ codes "explore" ∷ []

-- the words choose the compile command: the first of them chooses no other one
abbrev pub IsForCompile : List (List ℕ) → Type 0
IsForCompile [] = Unit {0}
IsForCompile (word ∷ words) = ¬ HasWord other_commands word

-- `-s LIST`, in full `--sync-msg-list LIST`
abbrev pub list_option : Choice
list_option = record { name = codes "sync-msg-list"; letter = Some 115 }

-- `--path DIRS`
abbrev pub path_option : Choice
path_option = record { name = codes "path"; letter = None }

abbrev pub compile_options : List Choice
compile_options = list_option ∷ path_option ∷ []

-- one of DIRS: it is not empty and has no `:`
pub record IsDir (dir : List ℕ) : Type 0 where
  pub full : dir ≢ []
  pub whole : AllByRecursion (λ b. b ≢ 58) dir

-- DIRS as a list: from 1 to 64 folders, joined by `:`
pub record AreDirs (text : List ℕ) (dirs : List (List ℕ)) : Type 0 where
  pub text_is : text ≡ join_with_byte 58 dirs
  pub each : AllByRecursion IsDir dirs
  pub least : 1 ≤ length dirs
  pub most : length dirs ≤ 64

-- the folders of the path: those of DIRS, and `.` alone without `--path`
abbrev pub IsPath : Option (List ℕ) → List (List ℕ) → Type 0
IsPath None dirs = dirs ≡ codes "." ∷ []
IsPath (Some text) dirs = AreDirs text dirs

-- the words without repeats, in the order in which they first appear
abbrev pub firsts : List (List ℕ) → List (List ℕ)
firsts [] = []
firsts (w ∷ ws) = w ∷ filter (λ v. not (bytes_eq v w)) (firsts ws)

-- the files that words name: at most 4,096 different words, each that of a file, no two with one key
pub record AreListed (words files : List (List ℕ)) : Type 0 where
  pub files_are : files ≡ firsts words
  pub each : AllByRecursion IsFileWord files
  pub most : length files ≤ 4096
  pub keys : (v w : List ℕ) → HasWord files v → HasWord files w → key_of v ≡ key_of w → v ≡ w

-- FILES as a list: at least one
pub record AreFiles (words files : List (List ℕ)) : Type 0 where
  pub listed : AreListed words files
  pub least : 1 ≤ length files

-- The words are the command that compiles these files by this path, with this sync list.
pub record IsCompile (words : List (List ℕ)) (list : Option (List ℕ)) (path files : List (List ℕ)) : Type 0 where
  pub chosen : IsForCompile words
  pub said : List WordUse
  pub reads : Reads compile_options words said
  pub once : EachOnce said
  pub list_is : list ≡ value_of (codes "sync-msg-list") said
  pub path_is : IsPath (value_of (codes "path") said) path
  pub files_are : AreFiles (own_words said) files

-- the words are no such command
abbrev pub IsNoCompile : List (List ℕ) → Type 0
IsNoCompile words = (list : Option (List ℕ)) (path files : List (List ℕ)) → ¬ IsCompile words list path files
