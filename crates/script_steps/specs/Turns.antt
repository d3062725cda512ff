-- Turns of sides, what words of them do, and a run that has nothing left to do.
use Rattle.std.specs.Prelude.{◌≡◌, ℕ, zero, suc, Bool, true, false, not, ◌&&◌, if◌then◌else◌, List, [], ◌∷◌, Option, Some, None, is_some}
use Rattle.std.specs.Option.{option_map_or}
use Rattle.ipdl_base.specs.declared.kinds.Side.{Side}
use Rattle.ipdl_base.specs.declared.kinds.Side.TheVariants as sides
use Rattle.ipdl_base.specs.Sides.{other}
use Rattle.channel_model.specs.Runs.{RunState}
use Rattle.schedules.specs.declared.turn.Turn.{Turn}
use Rattle.script_steps.specs.Choices.{Setting, Choice, own_event, may_deliver, is_within, event_by, following_event}

-- What a turn does: it leads to another state of the run, or there is nothing to do, or the side is at the limit.
pub data TurnOutcome : Type 0 where
  leads : RunState → TurnOutcome
  idles : TurnOutcome
  exceeds : TurnOutcome

-- a delivery, if one is possible
abbrev pub delivery_choice : Side → RunState → Option Choice
delivery_choice side state = if may_deliver side state.world then Some (record { side = side; delivers = true }) else None

-- what a turn chooses: the side's own step, if it has one and the turn is not for deliveries only, or else a delivery
abbrev pub turn_choice : Setting → Turn → RunState → Option Choice
turn_choice setting turn state =
    if not turn.only_deliver && is_some (own_event setting turn.side state) then Some (record { side = turn.side; delivers = false }) else delivery_choice turn.side state

-- the run after the event of a choice
abbrev pub led_to : Setting → Choice → RunState → RunState
led_to setting choice state = option_map_or (following_event setting choice.side state) (event_by setting choice state) state

abbrev pub outcome_by : Setting → Side → RunState → Option Choice → TurnOutcome
outcome_by setting side state None = idles
outcome_by setting side state (Some choice) = if is_within setting side state then leads (led_to setting choice state) else exceeds

-- what a turn does
abbrev pub outcome : Setting → Turn → RunState → TurnOutcome
outcome setting turn state = outcome_by setting turn.side state (turn_choice setting turn state)

-- How a run ends: nothing is left to do, or a side would pass the limit.
pub data RunEnding : Type 0 where
  at_rest : RunEnding
  at_limit : Side → RunEnding

-- a turn for the side's own step or else a delivery
abbrev pub whole_turn : Side → Turn
whole_turn side = record { side = side; only_deliver = false }

-- What sides do in turn, this one first. The number is how many turns in a row must still do nothing before the run rests.
pub data Rests (setting : Setting) : Side → ℕ → RunState → RunState → RunEnding → Type 0 where
  rests : (side : Side) (state : RunState) → Rests setting side 0 state state at_rest
  goes_on : (side : Side) (idle : ℕ) (state next last : RunState) (ending : RunEnding) → outcome setting (whole_turn side) state ≡ leads next → Rests setting (other side) 2 next last ending → Rests setting side (suc idle) state last ending
  passes : (side : Side) (idle : ℕ) (state last : RunState) (ending : RunEnding) → outcome setting (whole_turn side) state ≡ idles → Rests setting (other side) idle state last ending → Rests setting side (suc idle) state last ending
  stops : (side : Side) (idle : ℕ) (state : RunState) → outcome setting (whole_turn side) state ≡ exceeds → Rests setting side (suc idle) state state (at_limit side)

-- What the turns of a word do, one after another. After the word both sides take turns, the parent first, until two turns
-- in a row do nothing.
pub data Picks (setting : Setting) : List Turn → RunState → RunState → RunEnding → Type 0 where
  word_ends : (state last : RunState) (ending : RunEnding) → Rests setting sides.Parent 2 state last ending → Picks setting [] state last ending
  turn_leads : (turn : Turn) (word : List Turn) (state next last : RunState) (ending : RunEnding) → outcome setting turn state ≡ leads next → Picks setting word next last ending → Picks setting (turn ∷ word) state last ending
  turn_idles : (turn : Turn) (word : List Turn) (state last : RunState) (ending : RunEnding) → outcome setting turn state ≡ idles → Picks setting word state last ending → Picks setting (turn ∷ word) state last ending
  turn_exceeds : (turn : Turn) (word : List Turn) (state : RunState) → outcome setting turn state ≡ exceeds → Picks setting (turn ∷ word) state state (at_limit turn.side)

-- The same as functions, for worked cases, where a given number of turns after the word is enough.

-- a state of a run, and how it ended there
pub record RunEnd : Type 0 where
  pub state : RunState
  pub ending : RunEnding

abbrev pub rested : Setting → ℕ → Side → ℕ → RunState → Option RunEnd
rested setting fuel side zero state = Some (record { state = state; ending = at_rest })
rested setting zero side (suc idle) state = None
rested setting (suc fuel) side (suc idle) state = elim (outcome setting (whole_turn side) state) [
  | leads next ↦ rested setting fuel (other side) 2 next
  | idles ↦ rested setting fuel (other side) idle state
  | exceeds ↦ Some (record { state = state; ending = at_limit side })
]

abbrev pub picked : Setting → ℕ → List Turn → RunState → Option RunEnd
picked setting fuel [] state = rested setting fuel sides.Parent 2 state
picked setting fuel (turn ∷ word) state = elim (outcome setting turn state) [
  | leads next ↦ picked setting fuel word next
  | idles ↦ picked setting fuel word state
  | exceeds ↦ Some (record { state = state; ending = at_limit turn.side })
]

-- whether a side has nothing to do: no step of its own and no delivery
abbrev pub is_quiet_at : Setting → RunState → Side → Bool
is_quiet_at setting state side = not (is_some (own_event setting side state)) && not (may_deliver side state.world)

-- whether nothing is left to do
abbrev pub is_quiet : Setting → RunState → Bool
is_quiet setting state = is_quiet_at setting state sides.Parent && is_quiet_at setting state sides.Child
