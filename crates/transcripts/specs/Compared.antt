-- How far a text is that of lines.
use Rattle.std.specs.Prelude.{◌≡◌, ◌≢◌, ℕ, ◌+◌, ◌≤◌, List, [], ◌∷◌, ◌++◌, count_by, length, not}
use Rattle.ipdl_base.specs.declared.line.Line.{Line}
use Rattle.ipdl_base.specs.declared.schema.Schema.{Schema}
use Rattle.ipdl_base.specs.Lines.{is_effect}
use Rattle.history.specs.Written.{HasWritten}
use Rattle.transcripts.specs.Printed.{line_texts}
use Rattle.transcripts.specs.TextLines.{text_lines}
use Rattle.transcripts.specs.declared.comparison.LineMatch.{LineMatch}
use Rattle.transcripts.specs.declared.comparison.LineMatch.TheVariants as alike
use Rattle.transcripts.specs.declared.comparison.Comparison.{Comparison}

-- the most bytes of a text that is compared
abbrev pub most_text_bytes : ℕ
most_text_bytes = 16777216

-- the number of events among lines
abbrev pub events_in : List Line → ℕ
events_in lines = count_by (λ line. not (is_effect line.what)) lines

-- the lines so far and the bytes of the rest are within the bound, and there are at most as many events as lines
abbrev pub IsWithin : Comparison → Type 0
IsWithin c = (c.lines + length c.left.now ≤ most_text_bytes) × (c.events ≤ c.lines)

-- These lines have been compared, and this is the rest of the text. The writer has written these lines, or the same lines
-- with other boxes.
pub record HasPassed (lines : List Line) (c : Comparison) : Type 0 where
  pub count : c.lines ≡ length lines
  pub events : c.events ≡ events_in lines
  pub written : HasWritten lines c.writer
  pub within : IsWithin c

-- neither list is empty, and they begin with different lines
abbrev pub DifferAtOnce : List (List ℕ) → List (List ℕ) → Type 0
DifferAtOnce [] others = ⊥
DifferAtOnce (line ∷ lines) [] = ⊥
DifferAtOnce (line ∷ lines) (other ∷ others) = line ≢ other

-- How a comparison ends after equal lines, by the lines that follow them: no line follows, or the text is over, or the text
-- continues with another line.
abbrev pub EndsSo : Schema → List Line → List Line → LineMatch → Comparison → Type 0
EndsSo schema before others alike.All c = (others ≡ []) × HasPassed before c
EndsSo schema before others alike.Over c = (others ≢ []) × (c.left.now ≡ [])
EndsSo schema before others alike.Other c = DifferAtOnce (text_lines c.left.now) (line_texts schema before others)

-- Lines after others have been compared with the rest of a text: the first of them are equal.
pub record HasCompared (schema : Schema) (before lines : List Line) (old : Comparison) (found : LineMatch) (new : Comparison) : Type 0 where
  pub first : List Line
  pub others : List Line
  pub split : lines ≡ first ++ others
  pub is : text_lines old.left.now ≡ line_texts schema before first ++ text_lines new.left.now
  pub count : new.lines ≡ old.lines + length first
  pub within : IsWithin new
  pub ends : EndsSo schema (before ++ first) others found new
