-- A relay does not depend on where the boxes of types and of terms are.
use Rattle.relay_runs.specs.RelaySteps.{IsRelay, RelayState}
use Rattle.relay_runs.specs.Relays.{EndsAs}
use Rattle.schema_laws.specs.Runs.{AreSettingsAlike}
use Rattle.script_steps.specs.Choices.{Setting}
use Rattle.script_steps.specs.Turns.{RunEnding}

-- With settings that are the same except for where their boxes are, there are the same relays, with the same endings.
pub record RelaysAlike : Type 0 where
  pub runs : (a b : Setting) → AreSettingsAlike a b → (state : RelayState) → IsRelay a state → IsRelay b state
  pub ends : (a b : Setting) → AreSettingsAlike a b → (state : RelayState) (ending : RunEnding) → EndsAs a state ending → EndsAs b state ending
