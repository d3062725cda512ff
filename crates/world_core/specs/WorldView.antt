-- What contracts see of a world.
use Rattle.std.specs.Prelude.{List, unwrap_or}
use Rattle.ipdl_base.specs.declared.line.Line.{Line}
use Rattle.channel_model.specs.Runs.{RunState}
use Rattle.script_steps.specs.Choices.{Setting, beginning_of, choices_of, played}
use Rattle.world_core.specs.LinkView.{LinkView}

-- The setting of a run, and how far it has come.
pub record WorldView : Type 0 where
  pub setting : Setting
  pub state : RunState

-- a world as it begins
abbrev pub opening_of : Setting → WorldView
opening_of setting = record { setting = setting; state = beginning_of setting }

-- the state of a run that lines report: the one to which their choices lead
unfoldable pub state_of : Setting → List Line → RunState
state_of setting lines = unwrap_or (played setting (choices_of lines) (beginning_of setting)) (beginning_of setting)

-- the setting of a run, and the state that the lines of its link report
abbrev pub seen_by : Setting → LinkView → WorldView
seen_by setting link = record { setting = setting; state = state_of setting link.lines }
