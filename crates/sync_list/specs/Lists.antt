-- The sync list that a text spells, and the fault of a text that spells no list.
use Rattle.std.specs.Prelude.{◌≡◌, ℕ, ◌+◌, Bool, false, ◌||◌, ◌&&◌, not, if◌then◌else◌, ◌⊎◌, List, [], ◌∷◌, ◌++◌, length, Result, Err, codes}
use Rattle.std.specs.List.{list_all}
use Rattle.std.specs.Str.{bytes_eq}
use Rattle.ipdl_lex.specs.Pieces.{is_blank}
use Rattle.sync_list.specs.declared.list.Section.{Section}
use Rattle.sync_list.specs.declared.list.ListFault.{ListFault}
use Rattle.sync_list.specs.declared.list.ListFault.TheVariants.{Line, NoMemory}
use Rattle.sync_list.specs.Lines.{lines_of}
use Rattle.sync_list.specs.Forms.{LineForm, section, value, more, is_section, Fits, HaveForms}

-- the word whose value is a section's description
abbrev pub description : List ℕ
description = codes "description"

-- whether a line of this form gives its section a description that is not empty: its part of the value has a byte
-- that is not blank
abbrev pub describes : LineForm → Bool
describes (value word bytes) = bytes_eq word description && not (list_all is_blank bytes)
describes (more word) = bytes_eq word description
describes _ = false

-- whether one of the lines before the next section does
abbrev pub is_described : List LineForm → Bool
is_described [] = false
is_described (form ∷ forms) = if is_section form then false else (describes form || is_described forms)

-- the section that the line of this number begins, or no section if the line has another form
abbrev pub section_at : ℕ → LineForm → Bool → List Section
section_at number (section protocol message) described =
    record { protocol = protocol; message = message; described = described; line = number } ∷ []
section_at number _ described = []

-- the sections of lines of these forms; the first line has this number
abbrev pub sections_from : ℕ → List LineForm → List Section
sections_from number [] = []
sections_from number (form ∷ forms) = section_at number form (is_described forms) ++ sections_from (number + 1) forms

-- the text spells the list: its lines have forms, and the list is their sections
pub record IsListOf (text : List ℕ) (list : List Section) : Type 0 where
  pub forms : List LineForm
  pub each : HaveForms [] (lines_of text) forms
  pub sections : list ≡ sections_from 1 forms

-- the line of this number is the first that is not of the format: the lines before it have forms, and it has no form
-- after them
pub record IsFirstBad (text : List ℕ) (number : ℕ) : Type 0 where
  pub before : List (List ℕ)
  pub line : List ℕ
  pub after : List (List ℕ)
  pub lines : lines_of text ≡ before ++ line ∷ after
  pub forms : List LineForm
  pub each : HaveForms [] before forms
  pub bad : (form : LineForm) → ¬ Fits forms line form
  pub counted : number ≡ length before + 1

-- the text spells no list for the reason that the fault gives
abbrev pub IsFault : List ℕ → ListFault → Type 0
IsFault text (Line number) = IsFirstBad text number
IsFault text NoMemory = ⊥

-- the result of a call is this answer, unless memory ran out
abbrev pub Gives : {X : Type 0} → Result X ListFault → Result X ListFault → Type 0
Gives result answer = (result ≡ Err NoMemory) ⊎ (result ≡ answer)
