-- What the texts of histories show of them.
use Rattle.std.specs.Prelude.{◌≡◌, ◌↔◌, ℕ, List, ◌++◌, Some}
use Rattle.handler_script.specs.Valid.{IsValid}
use Rattle.ipdl_base.specs.Sound.{IsSound}
use Rattle.channel_model.specs.Runs.{RunState}
use Rattle.history.specs.Text.{transcript_text}
use Rattle.script_runs.specs.Laws.{HasLimit}
use Rattle.script_steps.specs.Choices.{Setting, Choice, beginning_of, played}
use Rattle.script_steps.specs.Turns.{RunEnding}
use Rattle.script_runs.specs.Endings.{EndsAs, ending_line}
use Rattle.script_runs.specs.Replays.{ArePrinted, Follows}
use Rattle.script_transcripts.specs.Legal.{AreFirstLines, IsLegalText}
use Rattle.transcripts.specs.Printed.{SayWords}
use Rattle.transcripts.specs.TextLines.{text_lines}

-- The names in the histories of a valid script are words.
abbrev pub CaseNamesAreWords : Type 0
CaseNamesAreWords = (setting : Setting) (choices : List Choice) (state : RunState) → IsValid setting.schema setting.script → played setting choices (beginning_of setting) ≡ Some state → SayWords state.lines

-- Two runs of a valid script by a sound schema that print the same transcript are the same run.
abbrev pub CaseTextsTellHistories : Type 0
CaseTextsTellHistories =
    (setting : Setting) (one other : List Choice) (state next : RunState) → IsSound setting.schema → IsValid setting.schema setting.script
    → played setting one (beginning_of setting) ≡ Some state → played setting other (beginning_of setting) ≡ Some next
    → transcript_text setting.schema state.lines ≡ transcript_text setting.schema next.lines → (one ≡ other) × (state ≡ next)

-- A run continues to an end.
pub record Ends (setting : Setting) (state : RunState) : Type 0 where
  pub more : List Choice
  pub last : RunState
  pub plays : played setting more state ≡ Some last
  pub ending : RunEnding
  pub ends : EndsAs setting last ending

-- Every run of a valid script can continue until it ends.
abbrev pub CasesEnd : Type 0
CasesEnd =
    (setting : Setting) (choices : List Choice) (state : RunState) → IsSound setting.schema → IsValid setting.schema setting.script → HasLimit setting
    → played setting choices (beginning_of setting) ≡ Some state → Ends setting state

-- A run that follows the lines of a text decides how many of these are first lines of what a run may print: those that it
-- prints.
abbrev pub ReplaysDecide : Type 0
ReplaysDecide =
    (setting : Setting) (front rest : List (List ℕ)) (last : RunState) → IsSound setting.schema → IsValid setting.schema setting.script → HasLimit setting
    → Follows setting (front ++ rest) last → AreFirstLines setting front ↔ ArePrinted setting last front

-- And the text is legal exactly if it is what such a run prints, with how it ends.
abbrev pub LegalTextsDecide : Type 0
LegalTextsDecide =
    (setting : Setting) (text : List ℕ) (last : RunState) → IsSound setting.schema → IsValid setting.schema setting.script → Follows setting (text_lines text) last
    → IsLegalText setting text ↔ ((ending : RunEnding) × EndsAs setting last ending × (text ≡ transcript_text setting.schema last.lines ++ ending_line ending))
