-- Options that take a value, and how the words of a command give them.
use Rattle.std.specs.Prelude.{◌≡◌, ◌≢◌, ℕ, ◌⊎◌, if◌then◌else◌, List, [], ◌∷◌, ◌++◌, Option, Some, None, map, codes}
use Rattle.std.specs.Str.{bytes_eq}

-- An option: its long name, and the letter of its short form, if it has one.
pub record Choice : Type 0 where
  pub name : List ℕ
  pub letter : Option ℕ

-- the option is in the table
abbrev pub IsAmong : List Choice → Choice → Type 0
IsAmong [] o = ⊥
IsAmong (p ∷ ps) o = (p ≡ o) ⊎ IsAmong ps o

-- a word that gives no option and is not `--`: it is empty, has one byte, or does not begin with `-`
abbrev pub IsPlain : List ℕ → Type 0
IsPlain [] = Unit {0}
IsPlain (b ∷ []) = Unit {0}
IsPlain (b ∷ c ∷ rest) = b ≢ 45

-- What a word of a command is: the value of an option, with the option's name, or a word of its own.
pub data WordUse : Type 0 where
  Given : List ℕ → List ℕ → WordUse
  Own : List ℕ → WordUse

-- the word `--name` or `-l`, whose option has its value in the next word
abbrev pub IsApart : Choice → List ℕ → Type 0
IsApart o word = (word ≡ codes "--" ++ o.name) ⊎ ((l : ℕ) × (o.letter ≡ Some l) × (word ≡ 45 ∷ l ∷ []))

-- text after `-l` that is its value: it is not empty and does not begin with `=`
abbrev pub IsAttached : List ℕ → Type 0
IsAttached [] = ⊥
IsAttached (b ∷ rest) = b ≢ 61

-- the word `--name=value`, `-l=value` or `-lvalue`
abbrev pub IsJoined : Choice → List ℕ → List ℕ → Type 0
IsJoined o value word = (word ≡ codes "--" ++ (o.name ++ 61 ∷ value))
    ⊎ ((l : ℕ) × (o.letter ≡ Some l) × ((word ≡ 45 ∷ l ∷ 61 ∷ value) ⊎ ((word ≡ 45 ∷ l ∷ value) × IsAttached value)))

-- What the words say, in their order, where these are the options: each word is one of its own,
-- gives an option, or ends the options.
pub data Reads (options : List Choice) : List (List ℕ) → List WordUse → Type 0 where
  ends : Reads options [] []
  rest : (words : List (List ℕ)) → Reads options (codes "--" ∷ words) (map Own words)
  own : (word : List ℕ) (words : List (List ℕ)) (said : List WordUse) → IsPlain word → Reads options words said → Reads options (word ∷ words) (Own word ∷ said)
  apart : (o : Choice) (word value : List ℕ) (words : List (List ℕ)) (said : List WordUse) → IsAmong options o → IsApart o word → IsPlain value → Reads options words said → Reads options (word ∷ value ∷ words) (Given o.name value ∷ said)
  joined : (o : Choice) (word value : List ℕ) (words : List (List ℕ)) (said : List WordUse) → IsAmong options o → IsJoined o value word → Reads options words said → Reads options (word ∷ words) (Given o.name value ∷ said)

-- the words that are values of no option
abbrev pub own_words : List WordUse → List (List ℕ)
own_words [] = []
own_words (Given name value ∷ said) = own_words said
own_words (Own word ∷ said) = word ∷ own_words said

-- the first value that an option is given
abbrev pub value_of : List ℕ → List WordUse → Option (List ℕ)
value_of name [] = None
value_of name (Given n value ∷ said) = if bytes_eq n name then Some value else value_of name said
value_of name (Own word ∷ said) = value_of name said

-- no option is given again after its first value
abbrev pub EachOnce : List WordUse → Type 0
EachOnce [] = Unit {0}
EachOnce (Given name value ∷ said) = (value_of name said ≡ None) × EachOnce said
EachOnce (Own word ∷ said) = EachOnce said
