-- How many events a run of a script has, by the actions of the script.
use Rattle.std.specs.Prelude.{◌≡◌, ℕ, ◌+◌, ◌-◌, ◌*◌, ◌<◌, ◌≤◌, List, Some}
use Rattle.std.specs.List.{slice_get}
use Rattle.ipdl_base.specs.declared.kinds.Side.{Side}
use Rattle.ipdl_base.specs.declared.kinds.Side.TheVariants.{Parent, Child}
use Rattle.ipdl_base.specs.Sound.{IsSound}
use Rattle.channel_laws.specs.Counts.{how_many}
use Rattle.channel_model.specs.Runs.{RunState}
use Rattle.handler_script.specs.declared.script.Script.{Script}
use Rattle.handler_script.specs.ScriptOf.{blocks_for}
use Rattle.progress_laws.specs.Acts.{tells_act}
use Rattle.script_steps.specs.Choices.{Choice, Setting, beginning_of, played}
use Rattle.script_steps.specs.Progress.{lines_of, progress_of}
use Rattle.script_steps.specs.Turns.{RunEnding, at_rest}
use Rattle.script_runs.specs.Endings.{EndsAs}
use Rattle.script_bounds.specs.Actions.{actions_again, actions_of, actions_served, block_count, deaths, main_actions, side_actions}

-- the messages of the requests that a side has taken, the latest first
abbrev pub taken_by : Side → RunState → List ℕ
taken_by side state = (progress_of side state.lines).taken

-- A side has no more acts than the actions of its main and of the blocks that served its requests, plus its death by a
-- stop.
abbrev pub ActsAreActions : Type 0
ActsAreActions =
    (setting : Setting) (choices : List Choice) (state : RunState) → IsSound setting.schema → played setting choices (beginning_of setting) ≡ Some state
    → (side : Side) → how_many tells_act (lines_of side state.lines) ≤ main_actions setting.script side + (actions_served setting.script side (taken_by side state) + deaths setting.stop side)

-- Whatever requests a side has taken, its main and the blocks that served them have no more actions than the script gives
-- to the side, plus those of blocks that served again.
abbrev pub BlocksServeOnce : Type 0
BlocksServeOnce = (script : Script) (side : Side) (taken : List ℕ) → main_actions script side + actions_served script side taken ≤ side_actions script side + actions_again script side taken

-- what a side may do: the actions that the script gives to it, those by blocks that served again, and its death by a stop
abbrev pub actions_by : Setting → RunState → Side → ℕ
actions_by setting state side = side_actions setting.script side + (actions_again setting.script side (taken_by side state) + deaths setting.stop side)

-- how many events both sides have
abbrev pub event_count : RunState → ℕ
event_count state = (progress_of Parent state.lines).events + (progress_of Child state.lines).events

-- A run of a script has at most seven events for each action: the act, and six that happen by themselves.
abbrev pub RunsAreBounded : Type 0
RunsAreBounded =
    (setting : Setting) (choices : List Choice) (state : RunState) → IsSound setting.schema → played setting choices (beginning_of setting) ≡ Some state
    → event_count state ≤ 7 * (actions_by setting state Parent + actions_by setting state Child)

-- the last block of each message, which serves all further requests, has no actions
abbrev pub ServesAgainWithoutActions : Script → Type 0
ServesAgainWithoutActions script = (side : Side) (number : ℕ) → actions_of (slice_get (blocks_for script side (Some number)) (block_count script side number - 1)) ≡ 0

-- what a script and a stop let both sides do, each action once
abbrev pub all_actions : Setting → ℕ
all_actions setting = (side_actions setting.script Parent + deaths setting.stop Parent) + (side_actions setting.script Child + deaths setting.stop Child)

-- So each run of a script in which the last block of each message has no actions ends at rest, whatever the order of its
-- sides, if the limit is above seven events for each action.
abbrev pub ScriptsComeToRest : Type 0
ScriptsComeToRest =
    (setting : Setting) (choices : List Choice) (state : RunState) (ending : RunEnding) → IsSound setting.schema → ServesAgainWithoutActions setting.script → 7 * all_actions setting < setting.limit
    → played setting choices (beginning_of setting) ≡ Some state → EndsAs setting state ending → ending ≡ at_rest
