-- What turns and words of them give.
use Rattle.std.specs.Prelude.{◌≡◌, ℕ, suc, true, false, List, [], ◌∷◌, ◌++◌, Some}
use Rattle.ipdl_base.specs.declared.kinds.Side.{Side}
use Rattle.ipdl_base.specs.declared.kinds.Side.TheVariants as sides
use Rattle.ipdl_base.specs.declared.line.Line.{Line}
use Rattle.ipdl_base.specs.Sides.{other}
use Rattle.channel_model.specs.Runs.{RunState}
use Rattle.script_runs.specs.Laws.{IsAtRest}
use Rattle.schedules.specs.declared.turn.Turn.{Turn}
use Rattle.script_steps.specs.Choices.{Choice, Setting, chosen, is_within}
use Rattle.script_steps.specs.Turns.{Picks, at_rest, at_limit, exceeds, idles, is_quiet, is_quiet_at, leads, outcome, whole_turn}
use Rattle.world_core.specs.declared.answers.RunAnswer.{RunAnswer}
use Rattle.world_core.specs.declared.answers.RunAnswer.TheVariants as run
use Rattle.world_core.specs.declared.answers.StepAnswer.{StepAnswer}
use Rattle.world_core.specs.declared.answers.StepAnswer.TheVariants as answer
use Rattle.world_core.specs.WorldView.{WorldView}

-- Some choice of the run leads to a state.
pub record IsChosen (setting : Setting) (state next : RunState) : Type 0 where
  pub choice : Choice
  pub is : chosen setting choice state ≡ Some next

-- a turn of a world: it leads to the new state, or there is nothing to do, or the side is at the limit, or memory ran out
abbrev pub TurnGives : WorldView → Turn → StepAnswer → WorldView → Type 0
TurnGives before turn answer.Did after = (outcome before.setting turn before.state ≡ leads after.state) × (after.setting ≡ before.setting) × IsChosen before.setting before.state after.state
TurnGives before turn answer.Nothing after = (outcome before.setting turn before.state ≡ idles) × (after ≡ before)
TurnGives before turn (answer.Spent side) after = (outcome before.setting turn before.state ≡ exceeds) × (side ≡ turn.side) × (after ≡ before)
TurnGives before turn answer.NoMemory after = after ≡ before

-- What sides do in turn, or only the first part of that.
pub data RestsInPart (setting : Setting) : Side → ℕ → RunState → RunState → Type 0 where
  stops : (side : Side) (idle : ℕ) (state : RunState) → RestsInPart setting side idle state state
  goes_on : (side : Side) (idle : ℕ) (state next last : RunState) → outcome setting (whole_turn side) state ≡ leads next → RestsInPart setting (other side) 2 next last → RestsInPart setting side (suc idle) state last
  passes : (side : Side) (idle : ℕ) (state last : RunState) → outcome setting (whole_turn side) state ≡ idles → RestsInPart setting (other side) idle state last → RestsInPart setting side (suc idle) state last

-- What the turns of a word do, and after it both sides in turn, or only the first part of that.
pub data PicksInPart (setting : Setting) : List Turn → RunState → RunState → Type 0 where
  word_ends : (state last : RunState) → RestsInPart setting sides.Parent 2 state last → PicksInPart setting [] state last
  word_stops : (word : List Turn) (state : RunState) → PicksInPart setting word state state
  turn_leads : (turn : Turn) (word : List Turn) (state next last : RunState) → outcome setting turn state ≡ leads next → PicksInPart setting word next last → PicksInPart setting (turn ∷ word) state last
  turn_idles : (turn : Turn) (word : List Turn) (state last : RunState) → outcome setting turn state ≡ idles → PicksInPart setting word state last → PicksInPart setting (turn ∷ word) state last

-- a word of turns is done to its end, or only its first part, where memory ran out
abbrev pub WordGives : WorldView → List Turn → RunAnswer → WorldView → Type 0
WordGives before word run.Finished after = Picks before.setting word before.state after.state at_rest
WordGives before word (run.Spent side) after = Picks before.setting word before.state after.state (at_limit side)
WordGives before word run.NoMemory after = PicksInPart before.setting word before.state after.state

-- A side has something left to do, but has reached its limit of events.
pub record IsSpent (w : WorldView) (side : Side) : Type 0 where
  pub full : is_within w.setting side w.state ≡ false
  pub left : is_quiet_at w.setting w.state side ≡ false

-- a side that an answer names is spent
abbrev pub IsSpentAt : WorldView → RunAnswer → Type 0
IsSpentAt w run.Finished = Unit {0}
IsSpentAt w (run.Spent side) = IsSpent w side
IsSpentAt w run.NoMemory = Unit {0}

-- The state of a run at its end. Where nothing is left to do, no end waits for a reply.
abbrev pub StandsAs : WorldView → RunAnswer → Type 0
StandsAs w run.Finished = (is_quiet w.setting w.state ≡ true) × IsAtRest w.setting w.state
StandsAs w (run.Spent side) = IsSpent w side
StandsAs w run.NoMemory = Unit {0}

-- lines were added after those before
abbrev pub GrowsTo : List Line → List Line → Type 0
GrowsTo before after = (more : List Line) × (after ≡ before ++ more)

-- what a driver gives, unless memory ran out
abbrev pub GivesUnless : (WorldView → WorldView → RunAnswer → Type 0) → WorldView → WorldView → RunAnswer → Type 0
GivesUnless Gives before after run.NoMemory = Unit {0}
GivesUnless Gives before after answer = Gives before after answer
