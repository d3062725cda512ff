-- Two halves of which each began by what the other sent only later.
use Rattle.std.specs.Prelude.{◌≡◌, ◌≤◌, [], ◌∷◌, ◌++◌, length}
use Rattle.ipdl_base.specs.declared.kinds.Side.{Side}
use Rattle.channel_model.specs.Ends.{Packet}
use Rattle.ipdl_base.specs.Sides.{other}
use Rattle.script_steps.specs.Choices.{Setting}
use Rattle.relay_runs.specs.HalfRuns.{HalfState, opening_half}
use Rattle.relay_runs.specs.RelaySteps.{RelayState, half_of}
use Rattle.relay_history.specs.HalfSteps.{HalfLeads, HalfStep}

-- A half passed through this state, and left it by getting a packet.
pub record HasWaitedAt (setting : Setting) (side : Side) (half before : HalfState) : Type 0 where
  pub begins : HalfLeads setting side (opening_half setting side) before
  pub next : HalfState
  pub packet : Packet
  pub step : HalfStep setting side before next
  pub comes : next.came ≡ before.came ++ packet ∷ []
  pub leads : HalfLeads setting side next half

-- Both passed through such states, in which neither had yet sent the packet by which the other left its own.
pub record HaveStartedEachOther (setting : Setting) (state : RelayState) : Type 0 where
  pub before : RelayState
  pub waited : (side : Side) → HasWaitedAt setting side (half_of side state) (half_of side before)
  pub unsent : (side : Side) → length (half_of (other side) before).sent ≤ length (half_of side before).came
