-- The command that lists what may interrupt a wait: `ipdl waits [-s LIST] [--path DIRS] FILE`.
use Rattle.std.specs.Prelude.{◌≡◌, ℕ, List, [], ◌∷◌, ◌++◌, Option, codes}
use Rattle.command_words.specs.Options.{WordUse, Reads, EachOnce, own_words, value_of}
use Rattle.command_words.specs.Compile.{IsPath, compile_options}

-- the first word that chooses the command
abbrev pub waits_word : List ℕ
waits_word = codes "waits"

-- FILE, which ends in `.ipdl`
pub record IsOperand (words : List (List ℕ)) (file : List ℕ) : Type 0 where
  pub front : List ℕ
  pub ending : file ≡ front ++ codes ".ipdl"
  pub one : words ≡ file ∷ []

-- what the words after the first word say
pub record SaysWaits (words : List (List ℕ)) (list : Option (List ℕ)) (path : List (List ℕ)) (file : List ℕ) : Type 0 where
  pub said : List WordUse
  pub reads : Reads compile_options words said
  pub once : EachOnce said
  pub list_is : list ≡ value_of (codes "sync-msg-list") said
  pub path_is : IsPath (value_of (codes "path") said) path
  pub operand : IsOperand (own_words said) file

-- The words are the command that lists what may interrupt a wait in the program of this file, path and list.
abbrev pub IsWaits : List (List ℕ) → Option (List ℕ) → List (List ℕ) → List ℕ → Type 0
IsWaits [] list path file = ⊥
IsWaits (word ∷ words) list path file = (word ≡ waits_word) × SaysWaits words list path file

-- the words are no such command
abbrev pub IsNoWaits : List (List ℕ) → Type 0
IsNoWaits words = (list : Option (List ℕ)) (path : List (List ℕ)) (file : List ℕ) → ¬ IsWaits words list path file
