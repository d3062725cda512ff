-- What an exploration of a script finds does not depend on where the boxes of types and of terms are.
use Rattle.std.specs.Prelude.{ℕ}
use Rattle.explorations.specs.Explorations.{Exploration, IsExplored}
use Rattle.schema_laws.specs.Runs.{AreSettingsAlike}
use Rattle.script_steps.specs.Choices.{Setting}

-- With settings that are the same up to boxes a script has the same explorations.
abbrev pub ExplorationsAlike : Type 0
ExplorationsAlike = (a b : Setting) → AreSettingsAlike a b → (most : ℕ) (exploration : Exploration) → IsExplored a most exploration → IsExplored b most exploration
