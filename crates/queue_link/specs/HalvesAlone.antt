-- What each half of a relay obeys, whatever the other does.
use Rattle.std.specs.Prelude.{List}
use Rattle.ipdl_base.specs.declared.kinds.Side.{Side}
use Rattle.ipdl_base.specs.declared.line.Line.{Line}
use Rattle.ipdl_base.specs.Sides.{other}
use Rattle.relay_laws.specs.Laws.{ObeysAlone}
use Rattle.relay_runs.specs.RelaySteps.{half_of}
use Rattle.relay_runs.specs.Relays.{Relayed}
use Rattle.script_steps.specs.Choices.{Setting}
use Rattle.script_steps.specs.Turns.{RunEnding}
use Rattle.world_core.specs.declared.answers.RunAnswer.{RunAnswer}
use Rattle.world_core.specs.declared.relay.Halves.{Halves}
use Rattle.world_core.specs.Relaying.{EndedIn}

-- These are the lines of a relay that ended so, and each half obeys the law of one end by itself and the law of falls.
pub record RelayedAlone (setting : Setting) (parent child : List Line) (ending : RunEnding) : Type 0 where
  pub relayed : Relayed setting parent child ending
  pub alone : (side : Side) → ObeysAlone setting side (half_of side relayed.state) (half_of (other side) relayed.state).sent

-- So it is with halves, unless memory ran out.
abbrev pub ObeyAlone : Setting → Halves → RunAnswer → Type 0
ObeyAlone setting halves answer = EndedIn (RelayedAlone setting) halves answer
