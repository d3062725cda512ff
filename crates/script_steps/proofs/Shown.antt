-- What a script shows with a word.
use Rattle.std.specs.Prelude.{ℕ, Bool, List, Option, option_map}
use Rattle.ipdl_base.specs.declared.line.Line.{Line}
use Rattle.schedules.specs.declared.turn.Turn.{Turn}
use Rattle.script_steps.specs.Choices.{Setting, beginning_of, choices_of, played}
use Rattle.script_steps.specs.Turns.{RunEnding, picked, is_quiet}

-- the lines of a run, how it ended, and whether nothing is left to do
pub record Shown : Type 0 where
  pub lines : List Line
  pub ending : RunEnding
  pub quiet : Bool

abbrev pub shown : Setting → ℕ → List Turn → Option Shown
shown setting turns word =
    option_map (λ end. record { lines = end.state.lines; ending = end.ending; quiet = is_quiet setting end.state })
    (picked setting turns word (beginning_of setting))
