-- Each side of a run of a script, as one end by itself.
use Rattle.std.specs.Prelude.{◌≡◌, List, Some}
use Rattle.ipdl_base.specs.declared.kinds.Side.{Side}
use Rattle.ipdl_base.specs.declared.line.Line.{Line}
use Rattle.ipdl_base.specs.Sound.{IsSound}
use Rattle.alone_laws.specs.Alone.{Alone}
use Rattle.alone_laws.specs.AloneRuns.{RunsAlone}
use Rattle.channel_model.specs.Ends.{Packet, end_of}
use Rattle.channel_model.specs.Runs.{RunState}
use Rattle.script_runs.specs.Laws.{HasLimit}
use Rattle.script_steps.specs.Choices.{Choice, IsCaseHistory, Setting, beginning_of, played}
use Rattle.relay_history.specs.OneHistory.{side_lines}

-- The end of a side came where it is by itself, with the lines of its side, by the packets that were delivered to it.
pub record SideRunsAlone (setting : Setting) (state : RunState) (side : Side) : Type 0 where
  pub delivered : List Packet
  pub run : RunsAlone setting.schema setting.script.top side (end_of side state.world) (side_lines side state.lines) delivered

-- The lines of a side obey the law of one end, by the packets that were delivered to it.
pub record SideObeysAlone (setting : Setting) (lines : List Line) (side : Side) : Type 0 where
  pub delivered : List Packet
  pub alone : Alone setting.schema setting.script.top side (side_lines side lines) delivered

-- So it is with each side of every run of a script.
abbrev pub SidesRunAlone : Type 0
SidesRunAlone = (setting : Setting) (choices : List Choice) (state : RunState) → IsSound setting.schema → HasLimit setting → played setting choices (beginning_of setting) ≡ Some state → (side : Side) → SideRunsAlone setting state side

-- And so each side of every history of a script obeys the law of one end.
abbrev pub SidesObeyAlone : Type 0
SidesObeyAlone = (setting : Setting) (lines : List Line) → IsSound setting.schema → HasLimit setting → IsCaseHistory setting lines → (side : Side) → SideObeysAlone setting lines side
