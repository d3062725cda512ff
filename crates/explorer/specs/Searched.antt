-- What a search has found so far.
use Rattle.std.specs.Prelude.{◌≡◌, List, Contains, AllPairs, Some, None}
use Rattle.channel_model.specs.Runs.{RunState}
use Rattle.schedules.specs.declared.turn.Turn.{Turn}
use Rattle.script_steps.specs.Choices.{Setting}
use Rattle.explorations.specs.Explorations.{IsCovered, IsFirst}
use Rattle.explorations.specs.Words.{Point, Precedes, reached}

-- Words are the first words among those of a set, in order: they cover whatever a word of the set leads to.
pub record HasCovered (setting : Setting) (IsIn : List Turn → Type 0) (words : List (List Turn)) : Type 0 where
  pub ordered : AllPairs Precedes words
  pub each : (word : List Turn) → Contains words word → IsFirst setting word
  pub inside : (word : List Turn) → Contains words word → IsIn word
  pub covers : (word : List Turn) (point : Point) → IsIn word → reached setting word ≡ Some point → IsCovered setting words point

-- A word leads to a state of a run.
pub record LeadsTo (setting : Setting) (word : List Turn) (state : RunState) : Type 0 where
  pub leads : reached setting word ≡ Some (record { state = state; spent = None })
