-- The kinds of single lines of a sync list.
use Rattle.std.specs.Prelude.{◌≡◌, ℕ, ◌⊎◌, List, ◌∷◌, ◌++◌, Option, Some, None, IsTrue, not, find, slice_index, codes}
use Rattle.std.specs.List.{list_all, slice_split}
use Rattle.ipdl_base.specs.Words.{IsWord}
use Rattle.ipdl_base.specs.declared.token.TokenKind.TheVariants.{Word}
use Rattle.ipdl_lex.specs.Pieces.{is_blank, is_line_feed, Spells}

-- the lines of a text: the parts before, between and after its line feeds
abbrev pub lines_of : List ℕ → List (List ℕ)
lines_of text = slice_split is_line_feed text

-- the first byte of a line that is not blank
abbrev pub first_mark : List ℕ → Option ℕ
first_mark line = find (λ b. not (is_blank b)) line

-- each byte is blank
abbrev pub AreBlanks : List ℕ → Type 0
AreBlanks bytes = IsTrue (list_all is_blank bytes)

-- an identifier: a word that is not reserved
abbrev pub IsIdentifier : List ℕ → Type 0
IsIdentifier bytes = Spells Word bytes

-- a blank line: it has only blanks, or nothing
abbrev pub IsBlankLine : List ℕ → Type 0
IsBlankLine line = first_mark line ≡ None

-- a comment: its first byte that is not blank is `#` or `;`
abbrev pub IsComment : List ℕ → Type 0
IsComment line = (first_mark line ≡ Some 35) ⊎ (first_mark line ≡ Some 59)

-- a section line: `[P::M]` with two identifiers, and then blanks
pub record IsSectionLine (line protocol message : List ℕ) : Type 0 where
  pub of_protocol : IsIdentifier protocol
  pub of_message : IsIdentifier message
  pub after : List ℕ
  pub blanks : AreBlanks after
  pub spelled : line ≡ codes "[" ++ (protocol ++ (codes "::" ++ (message ++ (codes "]" ++ after))))

-- a value line: a word, blanks, `=` or `:`, and a value, which is all bytes after that
pub record IsValueLine (line word value : List ℕ) : Type 0 where
  pub is_word : IsWord word
  pub between : List ℕ
  pub blanks : AreBlanks between
  pub sign : ℕ
  pub is_sign : (sign ≡ 61) ⊎ (sign ≡ 58)
  pub spelled : line ≡ word ++ (between ++ sign ∷ value)

-- a line that can continue a value: it begins with a blank, and is neither a blank line nor a comment
pub record IsIndented (line : List ℕ) : Type 0 where
  pub begins : IsTrue (is_blank (slice_index line 0))
  pub no_blank_line : ¬ IsBlankLine line
  pub no_comment : ¬ IsComment line
