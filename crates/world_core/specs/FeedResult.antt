-- What a feed gives.
use Rattle.std.specs.Prelude.{ℕ, List, map}
use Rattle.channel_model.specs.Ends.{Packet}
use Rattle.end_parts.specs.PlainLines.{plain_line}
use Rattle.ipdl_base.specs.declared.kinds.Side.{Side}
use Rattle.script_steps.specs.Choices.{Setting}
use Rattle.feed_runs.specs.FeedTurns.{Feed}
use Rattle.world_core.specs.declared.feeding.FeedResult.{FeedResult}

-- It is the feed of the bytes: its lines, with every box at one place, the fault that is kept and whether the end is
-- spent are those to which the turns of the feed lead, as they deliver these packets.
pub record IsFeedOf (setting : Setting) (side : Side) (bytes : List ℕ) (fed : FeedResult) : Type 0 where
  pub packets : List Packet
  pub feed : Feed setting side bytes (map plain_line fed.history.lines) packets fed.fault fed.spent
