-- What the reader knows of the lines that it has read.
use Rattle.std.specs.Prelude.{◌≡◌, ℕ, Bool, true, not, List, [], ◌∷◌, ◌++◌, drop, option_copied}
use Rattle.std.specs.List.{list_all, take_while, prefix_len, Contains}
use Rattle.ipdl_lex.specs.Pieces.{is_blank}
use Rattle.sync_list.specs.declared.line.ListLine.{ListLine}
use Rattle.sync_list.specs.declared.line.ListLine.TheVariants as kind
use Rattle.sync_list.specs.declared.reader.ListReader.{ListReader}
use Rattle.sync_list.specs.Lines.{IsBlankLine, IsComment, IsSectionLine, IsValueLine, IsIndented}
use Rattle.sync_list.specs.Forms.{LineForm, section, value, more, open_word, Fits}
use Rattle.sync_list.specs.Lists.{sections_from}
use Rattle.sync_list.specs.Sets.{same_pair, KeysAre}

-- the text is split after its longest prefix whose bytes pass the test
pub record IsSplit (test : ℕ → Bool) (text front rest : List ℕ) : Type 0 where
  pub front_is : front ≡ take_while test text
  pub rest_is : rest ≡ drop (prefix_len test text) text

-- the line is of none of the kinds of single lines
pub record IsOther (line : List ℕ) : Type 0 where
  pub no_blank_line : ¬ IsBlankLine line
  pub no_comment : ¬ IsComment line
  pub no_section : (protocol message : List ℕ) → ¬ IsSectionLine line protocol message
  pub no_value : (word bytes : List ℕ) → ¬ IsValueLine line word bytes
  pub no_indented : ¬ IsIndented line

-- the line is of this kind
abbrev pub IsLine : List ℕ → ListLine → Type 0
IsLine line kind.Blank = IsBlankLine line
IsLine line kind.Comment = IsComment line
IsLine line (kind.Section protocol message) = IsSectionLine line protocol.now message.now
IsLine line (kind.Value word bytes) = IsValueLine line word.now bytes.now
IsLine line kind.Indented = IsIndented line
IsLine line kind.Other = IsOther line

-- the reader has read lines of these forms
pub record HasRead (forms : List LineForm) (reader : ListReader) : Type 0 where
  pub sections : reader.sections.items ≡ sections_from 1 forms
  pub seen : KeysAre same_pair reader.seen (λ pair. Contains forms (section pair.0.now pair.1.now))
  pub unfinished : option_copied reader.unfinished ≡ open_word forms

-- after lines of these forms the reader has read this line too
pub record ReadsLine (forms : List LineForm) (line : List ℕ) (reader : ListReader) : Type 0 where
  pub form : LineForm
  pub fits : Fits forms line form
  pub following : HasRead (forms ++ form ∷ []) reader

-- after lines of these forms the reader has read the section line of these names, which is not among them
pub record Begins (forms : List LineForm) (protocol message : List ℕ) (reader : ListReader) : Type 0 where
  pub new : ¬ Contains forms (section protocol message)
  pub following : HasRead (forms ++ section protocol message ∷ []) reader

-- the form is that of a line with a value of the word, or of a line that continues it; `filled` is whether this
-- line's part of the value has a byte that is not blank
abbrev pub IsValueOf : List ℕ → Bool → LineForm → Type 0
IsValueOf word filled (value other bytes) = (other ≡ word) × (filled ≡ not (list_all is_blank bytes))
IsValueOf word filled (more other) = (other ≡ word) × (filled ≡ true)
IsValueOf word filled _ = ⊥

-- after lines of these forms the line has no form
abbrev pub IsBad : List LineForm → List ℕ → Type 0
IsBad forms line = (form : LineForm) → ¬ Fits forms line form
