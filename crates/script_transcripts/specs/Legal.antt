-- The texts that runs of a script may print, and how far a text agrees with one of them.
use Rattle.std.specs.Prelude.{◌≡◌, ℕ, ◌≤◌, List, ◌++◌, length, take, Some}
use Rattle.history.specs.Text.{transcript_text}
use Rattle.channel_model.specs.Runs.{RunState}
use Rattle.script_runs.specs.Endings.{EndsAs, ending_line}
use Rattle.script_steps.specs.Choices.{Setting, Choice, beginning_of, played}
use Rattle.script_steps.specs.Turns.{RunEnding}
use Rattle.transcripts.specs.TextLines.{text_lines}

-- The text is what a run by some choices prints: its transcript, and how it ended.
pub record IsLegalText (setting : Setting) (text : List ℕ) : Type 0 where
  pub choices : List Choice
  pub state : RunState
  pub plays : played setting choices (beginning_of setting) ≡ Some state
  pub ending : RunEnding
  pub ends : EndsAs setting state ending
  pub is : text ≡ transcript_text setting.schema state.lines ++ ending_line ending

-- Lines are the first lines of what a run prints.
pub record AreFirstLines (setting : Setting) (lines : List (List ℕ)) : Type 0 where
  pub whole : List ℕ
  pub legal : IsLegalText setting whole
  pub others : List (List ℕ)
  pub is : text_lines whole ≡ lines ++ others

-- This number of first lines of a text are first lines of what a run prints, and no more are.
pub record AreLegalSoFar (setting : Setting) (text : List ℕ) (count : ℕ) : Type 0 where
  pub there : count ≤ length (text_lines text)
  pub first : AreFirstLines setting (take count (text_lines text))
  pub most : (more : ℕ) → more ≤ length (text_lines text) → AreFirstLines setting (take more (text_lines text)) → more ≤ count
