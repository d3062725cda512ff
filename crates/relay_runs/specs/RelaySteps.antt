-- A relay, step by step: both ends make steps in any order, each by itself, and a packet reaches one only after the other sent it.
use Rattle.std.specs.Prelude.{◌≡◌, true, [], ◌∷◌, drop, length, Option, Some, None}
use Rattle.handler_script.specs.ScriptOf.{first_of}
use Rattle.ipdl_base.specs.declared.kinds.Side.{Side}
use Rattle.ipdl_base.specs.declared.kinds.Side.TheVariants as sides
use Rattle.channel_model.specs.Ends.{Packet}
use Rattle.channel_model.specs.Events.{Event}
use Rattle.channel_model.specs.Events as event
use Rattle.ipdl_base.specs.Sides.{other}
use Rattle.channel_model.specs.Outputs.{Output, is_open}
use Rattle.channel_model.specs.Steps.{step}
use Rattle.script_steps.specs.Choices.{Setting}
use Rattle.relay_runs.specs.HalfRuns.{HalfState, after, after_packet, delivered_for, is_within, opening_half, own_event}

-- how far both ends have come
pub record RelayState : Type 0 where
  pub parent : HalfState
  pub child : HalfState

abbrev pub half_of : Side → RelayState → HalfState
half_of sides.Parent state = state.parent
half_of sides.Child state = state.child

abbrev pub with_half : Side → HalfState → RelayState → RelayState
with_half sides.Parent half state = record state { parent = half }
with_half sides.Child half state = record state { child = half }

-- both ends as they begin
abbrev pub opening_relay : Setting → RelayState
opening_relay setting = record { parent = opening_half setting sides.Parent; child = opening_half setting sides.Child }

-- what comes to a side next: of what the other has sent, the first that did not come yet
abbrev pub next_packet : Side → RelayState → Option Packet
next_packet side state = first_of (drop (length (half_of side state).came) (half_of (other side) state).sent)

-- A side within the limit takes one step. It does its own event; or it has none and is open, and gets the next packet that
-- the other has sent.
pub data RelayStep (setting : Setting) (side : Side) (state : RelayState) : RelayState → Type 0 where
  acts : (own : Event) (output : Output) → is_within setting side (half_of side state) ≡ true → own_event setting side (half_of side state) ≡ Some own
      → step setting.schema (half_of side state).end [] own ≡ Some output → RelayStep setting side state (with_half side (after (half_of side state) output) state)
  gets : (packet : Packet) (output : Output) → is_within setting side (half_of side state) ≡ true → own_event setting side (half_of side state) ≡ None
      → is_open (half_of side state).end.state ≡ true → next_packet side state ≡ Some packet
      → step setting.schema (half_of side state).end (delivered_for setting.schema (half_of side state).end packet ∷ []) event.deliver ≡ Some output
      → RelayStep setting side state (with_half side (after_packet (half_of side state) packet (delivered_for setting.schema (half_of side state).end packet) output) state)

-- Steps of the sides, in any order, lead from one state to another.
pub data LeadsOn (setting : Setting) (from : RelayState) : RelayState → Type 0 where
  stays : LeadsOn setting from from
  steps : (side : Side) (state next : RelayState) → LeadsOn setting from state → RelayStep setting side state next → LeadsOn setting from next

-- Both ends have come this far, each by itself: steps lead from the beginning to here.
abbrev pub IsRelay : Setting → RelayState → Type 0
IsRelay setting state = LeadsOn setting (opening_relay setting) state
