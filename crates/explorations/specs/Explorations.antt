-- The ways of a script: all that its runs may come to.
use Rattle.std.specs.Prelude.{◌≡◌, ℕ, ◌≤◌, Bool, true, false, if◌then◌else◌, List, [], ◌∷◌, ◌++◌, length, filter_map, Contains, AllPairs, Option, Some, None, option_map, option_and_then}
use Rattle.std.specs.List.{AllByRecursion}
use Rattle.ipdl_base.specs.declared.kinds.Side.{Side}
use Rattle.channel_model.specs.Runs.{RunState}
use Rattle.schedules.specs.declared.turn.Turn.{Turn}
use Rattle.script_steps.specs.Choices.{Setting}
use Rattle.script_steps.specs.Turns.{RunEnding, at_rest, at_limit, is_quiet}
use Rattle.explorations.specs.Words.{AreAlike, Point, Precedes, reached}

-- A word is the first that leads to a point: no word that leads to one like it precedes it.
pub record IsFirst (setting : Setting) (word : List Turn) : Type 0 where
  pub point : Point
  pub leads : reached setting word ≡ Some point
  pub first : (other : List Turn) (same : Point) → reached setting other ≡ Some same → AreAlike point same → Precedes other word → ⊥

-- One of these words leads to a point like this one.
pub record IsCovered (setting : Setting) (words : List (List Turn)) (point : Point) : Type 0 where
  pub word : List Turn
  pub listed : Contains words word
  pub same : Point
  pub leads : reached setting word ≡ Some same
  pub alike : AreAlike same point

-- These are first words in order, up to some word: whatever a word before one of them leads to, one of them leads to it.
pub record AreFirstWords (setting : Setting) (words : List (List Turn)) : Type 0 where
  pub ordered : AllPairs Precedes words
  pub each : AllByRecursion (IsFirst setting) words
  pub none_left_out : (later word : List Turn) (point : Point) → Contains words later → Precedes word later → reached setting word ≡ Some point → IsCovered setting words point

-- How a script may go: what each side prints, which the word tells, and how the run ends.
pub record Way : Type 0 where
  pub ending : RunEnding
  pub word : List Turn

-- how a run ends at a point, if it ends there
abbrev pub ending_at : Setting → RunState → Option Side → Option RunEnding
ending_at setting state (Some side) = Some (at_limit side)
ending_at setting state None = if is_quiet setting state then Some at_rest else None

-- the way that a word shows, if a run ends where it leads
abbrev pub way_of : Setting → List Turn → Option Way
way_of setting word = option_map (λ ending. record { ending = ending; word = word }) (option_and_then (λ point. ending_at setting point.state point.spent) (reached setting word))

abbrev pub ways_of : Setting → List (List Turn) → List Way
ways_of setting words = filter_map (way_of setting) words

-- the state that a word leads to, if it is no spent side
abbrev pub state_at : RunState → Option Side → Option RunState
state_at state None = Some state
state_at state (Some side) = None

abbrev pub states_of : Setting → List (List Turn) → List RunState
states_of setting words = filter_map (λ word. option_and_then (λ point. state_at point.state point.spent) (reached setting word)) words

-- the greatest number of states that an exploration visits
abbrev pub most_states : ℕ
most_states = 100000

-- words with at most so many ways and states
pub record AreFew (setting : Setting) (most : ℕ) (words : List (List Turn)) : Type 0 where
  pub ways : length (ways_of setting words) ≤ most
  pub states : length (states_of setting words) ≤ most_states

-- where an exploration stops: the words lead to all that any word leads to; or one first word more would be too many
abbrev pub StopsAt : Setting → ℕ → List (List Turn) → Bool → Type 0
StopsAt setting most words true = (word : List Turn) (point : Point) → reached setting word ≡ Some point → IsCovered setting words point
StopsAt setting most words false = (next : List Turn) × AreFirstWords setting (words ++ next ∷ []) × (AreFew setting most (words ++ next ∷ []) → ⊥)

-- What an exploration finds: ways in the order of their words, and whether these are all ways.
pub record Exploration : Type 0 where
  pub ways : List Way
  pub whole : Bool

-- It lists the ways of all first words, or of as many as have at most so many ways and states.
pub record IsExplored (setting : Setting) (most : ℕ) (exploration : Exploration) : Type 0 where
  pub words : List (List Turn)
  pub first : AreFirstWords setting words
  pub few : AreFew setting most words
  pub stops : StopsAt setting most words exploration.whole
  pub ways : exploration.ways ≡ ways_of setting words
