-- What the code reads of one line.
use Rattle.std.specs.Prelude.{◌≡◌, ℕ, ◌==◌, ◌<◌, ◌≤◌, Bool, true, false, not, List, ◌∷◌, drop, length, take, Option, Some, None}
use Rattle.transcripts.specs.TextLines.{text_lines}
use Rattle.transcripts.specs.Told.{finished_line, is_effect_text, side_told, spent_line, tells_delivery}
use Rattle.transcripts.specs.declared.line.Ending.{Ending}
use Rattle.transcripts.specs.declared.line.Ending.TheVariants as ending
use Rattle.transcripts.specs.declared.line.TranscriptLine.{TranscriptLine}
use Rattle.transcripts.specs.declared.line.TranscriptLine.TheVariants as reading

-- whether a byte is not a line feed
abbrev pub is_no_feed : ℕ → Bool
is_no_feed byte = not (byte == 10)

-- This number of bytes are the first line of a text.
pub record IsFirstLine (text : List ℕ) (count : ℕ) : Type 0 where
  pub lines : text_lines text ≡ take count text ∷ text_lines (drop count text)
  pub some : 0 < count
  pub within : count ≤ length text

-- what the first words of a line report
abbrev pub IsReadAs : List ℕ → TranscriptLine → Type 0
IsReadAs line (reading.Event turn) = (side_told line ≡ Some turn.side) × (tells_delivery turn.side line ≡ turn.only_deliver)
IsReadAs line reading.Effect = (side_told line ≡ None) × (is_effect_text line ≡ true)
IsReadAs line reading.Other = (side_told line ≡ None) × (is_effect_text line ≡ false)

-- the last line that a run prints, by how it ended
abbrev pub line_of_ending : Ending → List ℕ
line_of_ending ending.Finished = finished_line
line_of_ending (ending.Spent side) = spent_line side

-- how a run ended that printed this last line, if it is the last line of a run
abbrev pub EndingIs : List ℕ → Option Ending → Type 0
EndingIs line None = (e : Ending) → line ≡ line_of_ending e → ⊥
EndingIs line (Some e) = line ≡ line_of_ending e
