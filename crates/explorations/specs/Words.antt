-- Words of turns, their order, and what a word leads to.
use Rattle.std.specs.Prelude.{◌≡◌, ℕ, ◌<◌, Bool, true, false, List, [], ◌∷◌, Option, Some, None}
use Rattle.ipdl_base.specs.declared.kinds.Side.{Side}
use Rattle.ipdl_base.specs.declared.kinds.Side.TheVariants as sides
use Rattle.channel_model.specs.Runs.{RunState}
use Rattle.schedules.specs.declared.turn.Turn.{Turn}
use Rattle.script_steps.specs.Choices.{Setting, beginning_of}
use Rattle.script_steps.specs.Progress.{lines_of}
use Rattle.script_steps.specs.Turns.{leads, idles, exceeds, outcome}

-- the place of a letter in the order P C p c
abbrev pub place_in_order : Bool → Side → ℕ
place_in_order false sides.Parent = 0
place_in_order false sides.Child = 1
place_in_order true sides.Parent = 2
place_in_order true sides.Child = 3

abbrev pub rank : Turn → ℕ
rank turn = place_in_order turn.only_deliver turn.side

-- A word precedes another: it is a proper prefix of it, or its letter comes first where they differ first.
pub data Precedes : List Turn → List Turn → Type 0 where
  ends : (turn : Turn) (word : List Turn) → Precedes [] (turn ∷ word)
  differs : (turn other : Turn) (word more : List Turn) → rank turn < rank other → Precedes (turn ∷ word) (other ∷ more)
  continues : (turn : Turn) (word more : List Turn) → Precedes word more → Precedes (turn ∷ word) (turn ∷ more)

-- What a word leads to: a state of a run, or a side that has something left to do there but has reached the limit.
pub record Point : Type 0 where
  pub state : RunState
  pub spent : Option Side

-- a side at the limit, where no letter follows
abbrev pub spent_point : RunState → Side → List Turn → Option Point
spent_point state side [] = Some (record { state = state; spent = Some side })
spent_point state side (turn ∷ word) = None

-- what a word leads to from a state, if each of its turns does something
abbrev pub point_from : Setting → List Turn → RunState → Option Point
point_from setting [] state = Some (record { state = state; spent = None })
point_from setting (turn ∷ word) state = elim (outcome setting turn state) [
  | leads next ↦ point_from setting word next
  | idles ↦ None
  | exceeds ↦ spent_point state turn.side word
]

-- what a word leads to from the start
abbrev pub reached : Setting → List Turn → Option Point
reached setting word = point_from setting word (beginning_of setting)

-- Two points are alike: each side has the same lines, and the same side is spent, or none. How the lines of the two sides
-- are mixed may differ.
pub record AreAlike (one other : Point) : Type 0 where
  pub lines : (side : Side) → lines_of side one.state.lines ≡ lines_of side other.state.lines
  pub spent : one.spent ≡ other.spent
