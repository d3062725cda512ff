-- How far a run follows the lines of a text.
use Rattle.std.specs.Prelude.{◌≡◌, ℕ, ◌⊎◌, List, [], ◌∷◌, ◌++◌, Bool, true, false, Option, Some, None}
use Rattle.channel_model.specs.Runs.{RunState}
use Rattle.script_steps.specs.Choices.{Setting, Choice, beginning_of, chosen, played}
use Rattle.script_steps.specs.Turns.{RunEnding}
use Rattle.script_runs.specs.Endings.{EndsAs, ending_line}
use Rattle.script_runs.specs.Told.{choice_told}
use Rattle.transcripts.specs.Printed.{line_texts}
use Rattle.transcripts.specs.Told.{is_effect_text}

-- the choice of a line, if it shows one, and then others; no choices if the line is not the text of an effect either
abbrev pub told_then : Option Choice → Bool → List Choice → List Choice
told_then (Some choice) is_effect others = choice ∷ others
told_then None true others = others
told_then None false others = []

-- the choices that lines show, up to the first line that is the text of neither an event nor an effect
abbrev pub choices_told : List (List ℕ) → List Choice
choices_told [] = []
choices_told (line ∷ lines) = told_then (choice_told line) (is_effect_text line) (choices_told lines)

-- A choice is not possible after the first ones. These have been made, perhaps with others after them.
pub record IsStuck (setting : Setting) (told done : List Choice) : Type 0 where
  pub first : List Choice
  pub choice : Choice
  pub rest : List Choice
  pub told_are : told ≡ first ++ choice ∷ rest
  pub state : RunState
  pub plays : played setting first (beginning_of setting) ≡ Some state
  pub impossible : chosen setting choice state ≡ None
  pub others : List Choice
  pub done_are : done ≡ first ++ others

-- The choices that lines show have been made: all of them, or those before one that is not possible.
pub record Follows (setting : Setting) (lines : List (List ℕ)) (last : RunState) : Type 0 where
  pub done : List Choice
  pub plays : played setting done (beginning_of setting) ≡ Some last
  pub so_far : (choices_told lines ≡ done) ⊎ IsStuck setting (choices_told lines) done

-- the lines of the transcript of a state
abbrev pub printed_lines : Setting → RunState → List (List ℕ)
printed_lines setting state = line_texts setting.schema [] state.lines

-- Lines are the first lines of a state's transcript, or all of them and the line that reports how the run ends there.
abbrev pub ArePrinted : Setting → RunState → List (List ℕ) → Type 0
ArePrinted setting state lines =
    ((others : List (List ℕ)) × (printed_lines setting state ≡ lines ++ others)) ⊎ ((ending : RunEnding) × EndsAs setting state ending × (lines ≡ printed_lines setting state ++ ending_line ending ∷ []))
