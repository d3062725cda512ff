-- The turns of a feed. A feed is a half whose packets come from bytes: in a turn it does its own step, if it has one; else,
-- while its end is open, the packet that the bytes have next comes to it. Else the feed rests.
use Rattle.std.specs.Prelude.{◌≡◌, ℕ, zero, suc, ◌+◌, Bool, true, false, if◌then◌else◌, List, [], ◌∷◌, drop, Option, Some, None}
use Rattle.ipdl_base.specs.declared.kinds.Side.{Side}
use Rattle.ipdl_base.specs.declared.line.Line.{Line}
use Rattle.channel_model.specs.Ends.{Packet, message}
use Rattle.channel_model.specs.Events.{Event}
use Rattle.channel_model.specs.Outputs.{is_open}
use Rattle.script_steps.specs.Choices.{Setting}
use Rattle.relay_runs.specs.HalfRuns.{HalfState, after_next, after_own, is_within, opening_half, own_event}
use Rattle.feed_runs.specs.declared.fault.FeedFault.{FeedFault}
use Rattle.feed_runs.specs.NextFrame.{NextFrame, taken, refused, next_frame}

-- How far a feed has come: its half, how many bytes were read, and the fault that is kept.
pub record FeedState : Type 0 where
  pub half : HalfState
  pub place : ℕ
  pub fault : Option FeedFault

-- the half as it begins, with nothing read
abbrev pub beginning_of : Setting → Side → FeedState
beginning_of setting side = record { half = opening_half setting side; place = 0; fault = None }

-- the fault that is kept of the bytes that are left: none where no byte is left
abbrev pub kept_fault : List ℕ → FeedFault → Option FeedFault
kept_fault [] fault = None
kept_fault (byte ∷ bytes) fault = Some fault

-- the state after an own step
abbrev pub after_step : Setting → FeedState → Event → FeedState
after_step setting state own = record state { half = after_own setting state.half own }

-- the state after the next frame: its message comes and the place moves; or what comes is not taken, and its fault is kept
abbrev pub after_frame : Setting → List ℕ → FeedState → NextFrame → FeedState
after_frame setting bytes state (taken m size) = record state { half = after_next setting state.half (message m); place = state.place + size }
after_frame setting bytes state (refused packet fault) = record state { half = after_next setting state.half packet; fault = kept_fault (drop state.place bytes) fault }

-- What a turn does: it leads to another state, or there is nothing to do, or the end is at the limit.
pub data FeedTurn : Type 0 where
  leads : FeedState → FeedTurn
  idles : FeedTurn
  exceeds : FeedTurn

-- what is done where the limit lets it
abbrev pub within : Setting → Side → FeedState → FeedState → FeedTurn
within setting side state next = if is_within setting side state.half then leads next else exceeds

abbrev pub reading_turn : Setting → Side → List ℕ → FeedState → FeedTurn
reading_turn setting side bytes state =
    if is_open state.half.end.state then within setting side state (after_frame setting bytes state (next_frame setting.schema state.half.end state.place bytes)) else idles

abbrev pub turn_by : Setting → Side → List ℕ → FeedState → Option Event → FeedTurn
turn_by setting side bytes state None = reading_turn setting side bytes state
turn_by setting side bytes state (Some own) = within setting side state (after_step setting state own)

abbrev pub feed_turn : Setting → Side → List ℕ → FeedState → FeedTurn
feed_turn setting side bytes state = turn_by setting side bytes state (own_event setting side state.half)

-- What turns make of bytes, one after another, from a state to the last, and whether the end is spent there: it has a
-- step or a delivery left, but as many events as it may have.
pub data Feeds (setting : Setting) (side : Side) (bytes : List ℕ) : FeedState → FeedState → Bool → Type 0 where
  rests : (state : FeedState) → feed_turn setting side bytes state ≡ idles → Feeds setting side bytes state state false
  stops : (state : FeedState) → feed_turn setting side bytes state ≡ exceeds → Feeds setting side bytes state state true
  goes_on : (state next last : FeedState) (spent : Bool) → feed_turn setting side bytes state ≡ leads next → Feeds setting side bytes next last spent → Feeds setting side bytes state last spent

-- A feed of bytes: its turns from the beginning lead to these lines, these packets were delivered, and this fault is kept.
pub record Feed (setting : Setting) (side : Side) (bytes : List ℕ) (lines : List Line) (packets : List Packet) (fault : Option FeedFault) (spent : Bool) : Type 0 where
  pub last : FeedState
  pub feeds : Feeds setting side bytes (beginning_of setting side) last spent
  pub lines_are : last.half.lines ≡ lines
  pub packets_are : last.half.delivered ≡ packets
  pub fault_is : last.fault ≡ fault

-- The same as a function, for worked cases, where this number of turns is enough.

-- the last state of a feed, and whether the end is spent there
pub record FeedEnd : Type 0 where
  pub state : FeedState
  pub spent : Bool

abbrev pub fed : Setting → Side → List ℕ → ℕ → FeedState → Option FeedEnd
fed setting side bytes zero state = None
fed setting side bytes (suc turns) state = elim (feed_turn setting side bytes state) [
  | leads next ↦ fed setting side bytes turns next
  | idles ↦ Some (record { state = state; spent = false })
  | exceeds ↦ Some (record { state = state; spent = true })
]
