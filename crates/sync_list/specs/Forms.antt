-- The forms of the lines of a sync list, each by the forms of the lines before it.
use Rattle.std.specs.Prelude.{◌≡◌, ℕ, Bool, true, false, List, [], ◌∷◌, ◌++◌, Option, Some, None, IsTrue}
use Rattle.std.specs.List.{list_any, Contains}
use Rattle.sync_list.specs.Lines.{IsBlankLine, IsComment, IsSectionLine, IsValueLine, IsIndented}

-- the form of a line in a list; a line that continues a value has the word of this value
pub data LineForm : Type 0 where
  blank : LineForm
  comment : LineForm
  section : (protocol message : List ℕ) → LineForm
  value : (word bytes : List ℕ) → LineForm
  more : (word : List ℕ) → LineForm

-- whether a line of this form is a section
abbrev pub is_section : LineForm → Bool
is_section (section protocol message) = true
is_section _ = false

-- one of these forms is that of a section
abbrev pub HasSection : List LineForm → Type 0
HasSection forms = IsTrue (list_any is_section forms)

-- the word whose value the line after a line of this form can continue
abbrev pub word_of : LineForm → Option (List ℕ)
word_of (value word bytes) = Some word
word_of (more word) = Some word
word_of _ = None

-- the word whose value the line after lines of these forms can continue: only the last of them counts
abbrev pub open_word : List LineForm → Option (List ℕ)
open_word [] = None
open_word (form ∷ []) = word_of form
open_word (first ∷ second ∷ forms) = open_word (second ∷ forms)

-- After lines of these forms, the line has this form: a section is a new one, a value line belongs to a section, and
-- a line that continues a value comes directly after a value line or another line that continues it.
abbrev pub Fits : List LineForm → List ℕ → LineForm → Type 0
Fits before line blank = IsBlankLine line
Fits before line comment = IsComment line
Fits before line (section protocol message) = IsSectionLine line protocol message × ¬ Contains before (section protocol message)
Fits before line (value word bytes) = IsValueLine line word bytes × HasSection before
Fits before line (more word) = IsIndented line × (open_word before ≡ Some word)

-- after lines of the first forms, each of the lines has its form of the others
abbrev pub HaveForms : List LineForm → List (List ℕ) → List LineForm → Type 0
HaveForms before [] [] = Unit {0}
HaveForms before (line ∷ lines) (form ∷ forms) = Fits before line form × HaveForms (before ++ form ∷ []) lines forms
HaveForms before [] (form ∷ forms) = ⊥
HaveForms before (line ∷ lines) [] = ⊥
