-- Both ends of a run, each by itself: what one has sent comes to the other in order, and they share nothing else.
use Rattle.std.specs.Prelude.{◌≡◌, ℕ, zero, suc, Bool, true, false, ◌&&◌, ◌||◌, if◌then◌else◌, List, ◌++◌, Option, Some, None, is_some}
use Rattle.ipdl_base.specs.declared.kinds.Side.{Side}
use Rattle.ipdl_base.specs.declared.kinds.Side.TheVariants as sides
use Rattle.ipdl_base.specs.declared.line.Line.{Line}
use Rattle.channel_model.specs.Ends.{Packet}
use Rattle.channel_model.specs.Events.{Event}
use Rattle.ipdl_base.specs.Sides.{other}
use Rattle.channel_model.specs.Outputs.{is_open}
use Rattle.script_steps.specs.Choices.{Setting}
use Rattle.script_steps.specs.Turns.{RunEnding, at_limit, at_rest}
use Rattle.relay_runs.specs.HalfRuns.{HalfRun, HalfState, after_next, after_own, is_within, own_event}
use Rattle.relay_runs.specs.RelaySteps.{IsRelay, RelayState, half_of, next_packet, opening_relay, with_half}

-- whether a side has something left to do: a step of its own or, while it is open, a packet that has not come
abbrev pub has_left : Setting → Side → RelayState → Bool
has_left setting side state = is_some (own_event setting side (half_of side state)) || is_open (half_of side state).end.state && is_some (next_packet side state)

-- how it ends: neither side has anything left to do; or a side has, but has reached the limit
abbrev pub EndsAs : Setting → RelayState → RunEnding → Type 0
EndsAs setting state at_rest = (has_left setting sides.Parent state ≡ false) × (has_left setting sides.Child state ≡ false)
EndsAs setting state (at_limit side) = (has_left setting side state ≡ true) × (is_within setting side (half_of side state) ≡ false)

-- What came to a side is a prefix of what the other has sent.
abbrev pub ComeInOrder : Side → RelayState → Type 0
ComeInOrder side state = (waiting : List Packet) × ((half_of (other side) state).sent ≡ (half_of side state).came ++ waiting)

-- Each end has come this far by itself, and what came to it is a prefix of what the other has sent. Nothing is known of the
-- order of their steps: each of two ends may have been begun by what the other sent only after that.
pub record IsHalfRunPair (setting : Setting) (state : RelayState) : Type 0 where
  pub parent_runs : HalfRun setting sides.Parent state.parent
  pub child_runs : HalfRun setting sides.Child state.child
  pub to_parent : ComeInOrder sides.Parent state
  pub to_child : ComeInOrder sides.Child state

-- What a relay gives: the lines of both ends, and how it ends.
pub record Relayed (setting : Setting) (parent child : List Line) (ending : RunEnding) : Type 0 where
  pub state : RelayState
  pub relay : IsRelay setting state
  pub parent_lines : state.parent.lines ≡ parent
  pub child_lines : state.child.lines ≡ child
  pub ends : EndsAs setting state ending

-- The same where the sides take turns, the parent first.

-- What a turn of a side does: it leads to another state, or there is nothing to do, or the side is at the limit.
pub data RelayTurn : Type 0 where
  leads : RelayState → RelayTurn
  idles : RelayTurn
  exceeds : RelayTurn

-- what is done where the limit lets it
abbrev pub within : Setting → Side → RelayState → HalfState → RelayTurn
within setting side state half = if is_within setting side (half_of side state) then leads (with_half side half state) else exceeds

abbrev pub packet_turn : Setting → Side → RelayState → Option Packet → RelayTurn
packet_turn setting side state None = idles
packet_turn setting side state (Some packet) = within setting side state (after_next setting (half_of side state) packet)

abbrev pub turn_by : Setting → Side → RelayState → Option Event → RelayTurn
turn_by setting side state (Some own) = within setting side state (after_own setting (half_of side state) own)
turn_by setting side state None = if is_open (half_of side state).end.state then packet_turn setting side state (next_packet side state) else idles

-- A turn of a side: its own step, if it has one, and else, while it is open, the packet that comes next.
abbrev pub relay_turn : Setting → Side → RelayState → RelayTurn
relay_turn setting side state = turn_by setting side state (own_event setting side (half_of side state))

-- What the sides do in turn, this one first, where this number of turns in a row still must do nothing until the relay rests.
pub data RelayTurns (setting : Setting) : Side → ℕ → RelayState → RelayState → RunEnding → Type 0 where
  rests : (side : Side) (state : RelayState) → RelayTurns setting side 0 state state at_rest
  goes_on : (side : Side) (idle : ℕ) (state next last : RelayState) (ending : RunEnding) → relay_turn setting side state ≡ leads next → RelayTurns setting (other side) 2 next last ending
      → RelayTurns setting side (suc idle) state last ending
  passes : (side : Side) (idle : ℕ) (state last : RelayState) (ending : RunEnding) → relay_turn setting side state ≡ idles → RelayTurns setting (other side) idle state last ending
      → RelayTurns setting side (suc idle) state last ending
  stops : (side : Side) (idle : ℕ) (state : RelayState) → relay_turn setting side state ≡ exceeds → RelayTurns setting side (suc idle) state state (at_limit side)

-- What the turns of both sides give, from the beginning on.
pub record RelayedByTurns (setting : Setting) (parent child : List Line) (ending : RunEnding) : Type 0 where
  pub last : RelayState
  pub turns : RelayTurns setting sides.Parent 2 (opening_relay setting) last ending
  pub parent_lines : last.parent.lines ≡ parent
  pub child_lines : last.child.lines ≡ child

-- The same as a function, for worked cases, where this number of turns is enough.

-- the last state of a relay, and how it ended there
pub record RelayEnd : Type 0 where
  pub state : RelayState
  pub ending : RunEnding

abbrev pub relayed : Setting → ℕ → Side → ℕ → RelayState → Option RelayEnd
relayed setting fuel side zero state = Some (record { state = state; ending = at_rest })
relayed setting zero side (suc idle) state = None
relayed setting (suc fuel) side (suc idle) state = elim (relay_turn setting side state) [
  | leads next ↦ relayed setting fuel (other side) 2 next
  | idles ↦ relayed setting fuel (other side) idle state
  | exceeds ↦ Some (record { state = state; ending = at_limit side })
]
