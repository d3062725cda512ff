-- What follows for every feed.
use Rattle.std.specs.Prelude.{◌≡◌, ℕ, Bool, List}
use Rattle.ipdl_base.specs.declared.kinds.Side.{Side}
use Rattle.ipdl_base.specs.Sound.{IsSound}
use Rattle.value_codec.specs.Laws.{AreBytes}
use Rattle.script_steps.specs.Choices.{Setting}
use Rattle.relay_runs.specs.HalfRuns.{HalfRun}
use Rattle.feed_runs.specs.FeedTurns.{FeedState, Feeds, beginning_of}
use Rattle.feed_runs.specs.ReadFrames.{HasReadFrames}

-- Bytes have one result.
abbrev pub FeedsHaveOneResult : Type 0
FeedsHaveOneResult =
    (setting : Setting) (side : Side) (bytes : List ℕ) (from one other : FeedState) (spent ended : Bool) → Feeds setting side bytes from one spent → Feeds setting side bytes from other ended → (one ≡ other) × (spent ≡ ended)

-- What was delivered is what the bytes say that were read: their frames, in order, and perhaps the mark after them.
abbrev pub FeedsReadFrames : Type 0
FeedsReadFrames =
    (setting : Setting) (side : Side) (bytes : List ℕ) (last : FeedState) (spent : Bool) → IsSound setting.schema → AreBytes bytes → Feeds setting side bytes (beginning_of setting side) last spent → HasReadFrames setting.schema bytes last

-- A feed is a half run, to which its packets came from the bytes.
abbrev pub FeedsAreHalfRuns : Type 0
FeedsAreHalfRuns =
    (setting : Setting) (side : Side) (bytes : List ℕ) (last : FeedState) (spent : Bool) → AreBytes bytes → Feeds setting side bytes (beginning_of setting side) last spent → HalfRun setting side last.half
