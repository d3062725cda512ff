-- The history of every world is the script's own, and every law holds of it.
use Rattle.std.proofs.Common.{refl}
use Rattle.channel_model.specs.Runs.{RunState}
use Rattle.script_runs.proofs.CaseRuns.{case_histories_obey_all_laws}
use Rattle.script_runs.specs.Laws.{ObeysAllLaws}
use Rattle.script_steps.specs.Choices.{Setting}
use Rattle.world_core.specs.LinkView.{LinkView}
use Rattle.world_core.specs.Worlds.{IsCase, IsRun}

pub case-of : (setting : Setting) (state : RunState) (link : LinkView) → IsRun setting state link → IsCase (record { setting = setting; state = state })
case-of setting state link is = record { leading = is.choices; plays = is.plays; history = record { choices = is.choices; state = state; plays = is.plays; made = refl } }

pub lawful-of : (setting : Setting) (state : RunState) (link : LinkView) → IsRun setting state link → ObeysAllLaws setting.schema state.lines
lawful-of setting state link is = case_histories_obey_all_laws setting state.lines is.sound (case-of setting state link is).history
