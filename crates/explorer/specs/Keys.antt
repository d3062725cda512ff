-- The states that a search has met.
use Rattle.std.specs.Prelude.{◌≡◌, ℕ, Bool, if◌then◌else◌, List, [], ◌∷◌, ◌++◌}
use Rattle.std.specs.List.{AllZip}
use Rattle.ipdl_base.specs.declared.kinds.Side.{Side}
use Rattle.ipdl_base.specs.declared.kinds.Side.TheVariants as sides
use Rattle.ipdl_base.specs.Lines.{same_side}
use Rattle.channel_model.specs.Runs.{RunState}
use Rattle.schedules.specs.declared.turn.Turn.{Turn}
use Rattle.script_steps.specs.Choices.{Choice, Setting, choices_of}
use Rattle.explorations.specs.Explorations.{states_of}
use Rattle.explorer.specs.declared.histories.NextChoice.{NextChoice}
use Rattle.explorer.specs.declared.states.StateKey.{StateKey}
use Rattle.explorer.specs.declared.states.States.{States}
use Rattle.explorer.specs.Numbering.{IsApart, IsListOf}

-- what a side chooses, one after another: whether each choice is a delivery
abbrev pub choices_by : Side → List Choice → List Bool
choices_by side [] = []
choices_by side (choice ∷ more) = if same_side choice.side side then choice.delivers ∷ choices_by side more else choices_by side more

-- the number of what a side has chosen
abbrev pub number_of : Side → StateKey → ℕ
number_of sides.Parent key = key.parent
number_of sides.Child key = key.child

-- the key with another number of a side
abbrev pub with_number : Side → ℕ → StateKey → StateKey
with_number sides.Parent number key = record { parent = number; child = key.child }
with_number sides.Child number key = record { parent = key.parent; child = number }

-- A key is that after one more choice of a side.
pub record IsKeyAfter (before after : List NextChoice) (key : StateKey) (side : Side) (delivers : Bool) (next : StateKey) : Type 0 where
  pub number : ℕ
  pub is : next ≡ with_number side number key
  pub lists : (list : List Bool) → IsListOf before (number_of side key) list → IsListOf after number (list ++ delivers ∷ [])

-- A key is that of a state: its numbers are those of what both sides have chosen.
pub record IsKeyOf (choices : List NextChoice) (key : StateKey) (state : RunState) : Type 0 where
  pub numbers : (side : Side) → IsListOf choices (number_of side key) (choices_by side (choices_of state.lines))

-- The keys are those of the states to which words lead, in order.
pub record HasStates (setting : Setting) (words : List (List Turn)) (states : States) : Type 0 where
  pub apart : IsApart states.histories
  pub keys : AllZip (IsKeyOf states.histories.choices.keys) states.met.keys (states_of setting words)
