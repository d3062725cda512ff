-- What follows for every half run, and for turns.
use Rattle.std.specs.Prelude.{ℕ}
use Rattle.ipdl_base.specs.declared.kinds.Side.{Side}
use Rattle.script_steps.specs.Choices.{Setting}
use Rattle.script_steps.specs.Turns.{RunEnding}
use Rattle.relay_runs.specs.HalfRuns.{HalfRun, HalfState, StandsFor}
use Rattle.relay_runs.specs.RelaySteps.{LeadsOn, RelayState}
use Rattle.relay_runs.specs.Relays.{RelayTurns}

-- A mark that is delivered in place of a packet is the last that is delivered.
abbrev pub MarksComeLast : Type 0
MarksComeLast = (setting : Setting) (side : Side) (state : HalfState) → HalfRun setting side state → StandsFor state.came state.delivered

-- Turns lead by steps from one state to another; so from the beginning they make a relay.
abbrev pub TurnsAreRelays : Type 0
TurnsAreRelays = (setting : Setting) (side : Side) (idle : ℕ) (from last : RelayState) (ending : RunEnding) → RelayTurns setting side idle from last ending → LeadsOn setting from last
