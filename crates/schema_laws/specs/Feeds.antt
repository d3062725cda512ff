-- A feed does not depend on where the boxes of types and of terms are.
use Rattle.std.specs.Prelude.{ℕ, Bool, List}
use Rattle.ipdl_base.specs.declared.kinds.Side.{Side}
use Rattle.feed_runs.specs.FeedTurns.{FeedState, Feeds, beginning_of}
use Rattle.schema_laws.specs.Runs.{AreSettingsAlike}
use Rattle.script_steps.specs.Choices.{Setting}

-- By settings that are the same except for where boxes are, an end does the same with bytes, with the same ending.
abbrev pub FeedsAlike : Type 0
FeedsAlike =
    (a b : Setting) → AreSettingsAlike a b → (side : Side) (bytes : List ℕ) (last : FeedState) (spent : Bool) → Feeds a side bytes (beginning_of a side) last spent → Feeds b side bytes (beginning_of b side) last spent
