-- What follows for the histories of scripts and for words of turns.
use Rattle.std.specs.Prelude.{◌≡◌, ℕ, ◌+◌, ◌≤◌, Bool, true, if◌then◌else◌, List, ◌++◌, Some, IsSome}
use Rattle.ipdl_base.specs.declared.kinds.Side.{Side}
use Rattle.ipdl_base.specs.declared.line.Line.{Line}
use Rattle.channel_model.specs.Ends.{end_of, opening}
use Rattle.channel_model.specs.Events.{Event, Move}
use Rattle.channel_model.specs.Runs.{RunState, run}
use Rattle.schedules.specs.declared.turn.Turn.{Turn}
use Rattle.script_steps.specs.Choices.{Setting, Choice, beginning_of, event_by, is_doable, chosen, played, choices_of}
use Rattle.script_steps.specs.Progress.{progress_of}
use Rattle.script_steps.specs.Turns.{RunEnding, at_rest, RunEnd, leads, idles, outcome, turn_choice, Picks, picked, is_quiet}

-- The choices that make a history are those that its lines record.
abbrev pub ChoicesAreRead : Type 0
ChoicesAreRead = (setting : Setting) (choices : List Choice) (state : RunState) → played setting choices (beginning_of setting) ≡ Some state → choices_of state.lines ≡ choices

-- So a history of a script leads to one world.
abbrev pub CaseWorldsAreOne : Type 0
CaseWorldsAreOne =
    (setting : Setting) (one other : List Choice) (state next : RunState) → played setting one (beginning_of setting) ≡ Some state → played setting other (beginning_of setting) ≡ Some next
    → state.lines ≡ next.lines → (one ≡ other) × (state ≡ next)

-- Choices make a run: a history of a script is a legal history.
pub record IsRunOf (setting : Setting) (state : RunState) : Type 0 where
  pub moves : List Move
  pub runs : run setting.schema moves (opening setting.script.top) ≡ state

abbrev pub ChoicesAreRuns : Type 0
ChoicesAreRuns = (setting : Setting) (choices : List Choice) (state : RunState) → played setting choices (beginning_of setting) ≡ Some state → IsRunOf setting state

-- What the lines of a history show of a side: it has no more events than the limit. Its end has sent no more requests, and
-- been delivered no more, than the side has events.
pub record IsCountedBy (setting : Setting) (state : RunState) (side : Side) : Type 0 where
  pub limit : (progress_of side state.lines).events ≤ setting.limit
  pub sent : (end_of side state.world).sent ≤ (progress_of side state.lines).events
  pub delivered : (end_of side state.world).delivered ≤ (progress_of side state.lines).events

abbrev pub ChoicesAreCounted : Type 0
ChoicesAreCounted = (setting : Setting) (choices : List Choice) (state : RunState) → played setting choices (beginning_of setting) ≡ Some state → (side : Side) → IsCountedBy setting state side

-- Further choices continue from where the first ones have led, and add lines after theirs.
pub record GoesOn (setting : Setting) (first more : List Choice) (from last : RunState) : Type 0 where
  pub between : RunState
  pub before : played setting first from ≡ Some between
  pub after : played setting more between ≡ Some last
  pub lines : List Line
  pub following : last.lines ≡ between.lines ++ lines

abbrev pub ChoicesGrow : Type 0
ChoicesGrow = (setting : Setting) (first more : List Choice) (from last : RunState) → played setting (first ++ more) from ≡ Some last → GoesOn setting first more from last

-- A turn that leads to another state does what it chooses, and that is a choice of the run, if it is possible.
pub record TurnIsChoice (setting : Setting) (turn : Turn) (state next : RunState) : Type 0 where
  pub choice : Choice
  pub chooses : turn_choice setting turn state ≡ Some choice
  pub side : choice.side ≡ turn.side
  pub event : Event
  pub does : event_by setting choice state ≡ Some event
  pub plays : is_doable setting turn.side state event ≡ true → chosen setting choice state ≡ Some next

abbrev pub TurnsAreChoices : Type 0
TurnsAreChoices = (setting : Setting) (turn : Turn) (state next : RunState) → outcome setting turn state ≡ leads next → TurnIsChoice setting turn state next

-- A word has one result.
abbrev pub WordsHaveOneResult : Type 0
WordsHaveOneResult =
    (setting : Setting) (word : List Turn) (from one other : RunState) (ending end : RunEnding) → Picks setting word from one ending → Picks setting word from other end → (one ≡ other) × (ending ≡ end)

-- The result of the functions is what the word does.
abbrev pub FunctionsPick : Type 0
FunctionsPick = (setting : Setting) (fuel : ℕ) (word : List Turn) (from : RunState) (end : RunEnd) → picked setting fuel word from ≡ Some end → Picks setting word from end.state end.ending

-- A word that ends at rest leaves nothing to do.
abbrev pub RestIsQuiet : Type 0
RestIsQuiet = (setting : Setting) (word : List Turn) (from last : RunState) → Picks setting word from last at_rest → is_quiet setting last ≡ true

-- If nothing is left to do, no turn does anything.
abbrev pub QuietDoesNothing : Type 0
QuietDoesNothing = (setting : Setting) (turn : Turn) (state : RunState) → is_quiet setting state ≡ true → outcome setting turn state ≡ idles
