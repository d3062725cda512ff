-- The command that says whether a text is the transcript of a run: `ipdl audit [-s LIST] [--path DIRS] [--limit N] SCRIPT FILE TRANSCRIPT`.
use Rattle.std.specs.Prelude.{◌≡◌, ℕ, List, [], ◌∷◌, Option, codes}
use Rattle.command_words.specs.Options.{Choice, WordUse, Reads, EachOnce, own_words, value_of}
use Rattle.command_words.specs.Compile.{IsPath, list_option, path_option}
use Rattle.command_words.specs.Operands.{AreScriptOperands}
use Rattle.command_words.specs.Run.{limit_option}
use Rattle.command_words.specs.RunOptions.{IsLimit}

-- the first word that chooses the command
abbrev pub audit_word : List ℕ
audit_word = codes "audit"

abbrev pub audit_options : List Choice
audit_options = list_option ∷ path_option ∷ limit_option ∷ []

-- what the words after the first word say
pub record SaysAudit (words : List (List ℕ)) (list : Option (List ℕ)) (path : List (List ℕ)) (limit : ℕ) (script file transcript : List ℕ) : Type 0 where
  pub said : List WordUse
  pub reads : Reads audit_options words said
  pub once : EachOnce said
  pub list_is : list ≡ value_of (codes "sync-msg-list") said
  pub path_is : IsPath (value_of (codes "path") said) path
  pub limit_is : IsLimit (value_of (codes "limit") said) limit
  pub operands : AreScriptOperands (own_words said) script file transcript

-- The words are the command that says whether this file is the transcript of a run of this script with this limit, by
-- the program of this file, path and list.
abbrev pub IsAudit : List (List ℕ) → Option (List ℕ) → List (List ℕ) → ℕ → List ℕ → List ℕ → List ℕ → Type 0
IsAudit [] list path limit script file transcript = ⊥
IsAudit (word ∷ words) list path limit script file transcript = (word ≡ audit_word) × SaysAudit words list path limit script file transcript

-- the words are no such command
abbrev pub IsNoAudit : List (List ℕ) → Type 0
IsNoAudit words = (list : Option (List ℕ)) (path : List (List ℕ)) (limit : ℕ) (script file transcript : List ℕ) → ¬ IsAudit words list path limit script file transcript
