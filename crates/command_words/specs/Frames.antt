-- The command that prints frames: `ipdl frames [-s LIST] [--path DIRS] [--to 2] FILE FRAMES`.
use Rattle.std.specs.Prelude.{◌≡◌, ℕ, Bool, true, false, List, [], ◌∷◌, ◌++◌, Option, Some, None, codes}
use Rattle.std.specs.List.{AllByRecursion}
use Rattle.command_words.specs.Options.{Choice, WordUse, Reads, EachOnce, own_words, value_of}
use Rattle.command_words.specs.Compile.{IsPath, list_option, path_option}

-- the first word that chooses the command
abbrev pub frames_word : List ℕ
frames_word = codes "frames"

-- `--to 2`
abbrev pub to_option : Choice
to_option = record { name = codes "to"; letter = None }

abbrev pub frames_options : List Choice
frames_options = list_option ∷ path_option ∷ to_option ∷ []

-- the number 2 in decimal digits, perhaps after zeros
pub record IsTwo (text : List ℕ) : Type 0 where
  pub zeros : List ℕ
  pub each : AllByRecursion (λ b. b ≡ 48) zeros
  pub text_is : text ≡ zeros ++ codes "2"

-- whether frames are converted: they are with `--to 2`, and with no other value
abbrev pub IsConversion : Option (List ℕ) → Bool → Type 0
IsConversion None convert = convert ≡ false
IsConversion (Some text) convert = IsTwo text × (convert ≡ true)

-- FILE and FRAMES: FILE ends in `.ipdl`
pub record AreOperands (words : List (List ℕ)) (file frames : List ℕ) : Type 0 where
  pub front : List ℕ
  pub ending : file ≡ front ++ codes ".ipdl"
  pub both : words ≡ file ∷ frames ∷ []

-- what the words after the first word say
pub record SaysFrames (words : List (List ℕ)) (list : Option (List ℕ)) (path : List (List ℕ)) (file frames : List ℕ) (convert : Bool) : Type 0 where
  pub said : List WordUse
  pub reads : Reads frames_options words said
  pub once : EachOnce said
  pub list_is : list ≡ value_of (codes "sync-msg-list") said
  pub path_is : IsPath (value_of (codes "path") said) path
  pub convert_is : IsConversion (value_of (codes "to") said) convert
  pub operands : AreOperands (own_words said) file frames

-- The words are the command that prints or converts the frames of this file, by the program of this file, path and list.
abbrev pub IsFrames : List (List ℕ) → Option (List ℕ) → List (List ℕ) → List ℕ → List ℕ → Bool → Type 0
IsFrames [] list path file frames convert = ⊥
IsFrames (word ∷ words) list path file frames convert = (word ≡ frames_word) × SaysFrames words list path file frames convert

-- the words are no such command
abbrev pub IsNoFrames : List (List ℕ) → Type 0
IsNoFrames words = (list : Option (List ℕ)) (path : List (List ℕ)) (file frames : List ℕ) (convert : Bool) → ¬ IsFrames words list path file frames convert
