-- The states to which a feed comes.
use Rattle.std.specs.Prelude.{◌≡◌, ℕ, List}
use Rattle.ipdl_base.specs.declared.kinds.Side.{Side}
use Rattle.script_steps.specs.Choices.{Setting}
use Rattle.feed_runs.specs.FeedTurns.{FeedState, leads, feed_turn}

-- Turns lead from one state to another.
pub data Reaches (setting : Setting) (side : Side) (bytes : List ℕ) (from : FeedState) : FeedState → Type 0 where
  stays : Reaches setting side bytes from from
  turns : (state next : FeedState) → Reaches setting side bytes from state → feed_turn setting side bytes state ≡ leads next → Reaches setting side bytes from next
