-- A half run, and so a feed, as a run of one end by itself; and what each obeys by what is known of each end alone.
use Rattle.std.specs.Prelude.{◌≡◌, ℕ, Bool, List, ◌++◌, Option}
use Rattle.ipdl_base.specs.declared.kinds.Side.{Side}
use Rattle.ipdl_base.specs.declared.line.Line.{Line}
use Rattle.ipdl_base.specs.Sound.{IsSound}
use Rattle.value_codec.specs.Laws.{AreBytes}
use Rattle.channel_model.specs.Ends.{Packet}
use Rattle.ipdl_base.specs.Sides.{other}
use Rattle.history_reading.specs.declared.law.Law.TheVariants as law
use Rattle.history_reading.specs.Holds.{Holds}
use Rattle.script_steps.specs.Choices.{Setting}
use Rattle.alone_laws.specs.Alone.{Alone}
use Rattle.alone_laws.specs.AloneRuns.{RunsAlone}
use Rattle.feed_runs.specs.declared.fault.FeedFault.{FeedFault}
use Rattle.feed_runs.specs.FeedTurns.{Feed, FeedState, Feeds, beginning_of}
use Rattle.relay_runs.specs.HalfRuns.{HalfRun, HalfState, StandsFor}
use Rattle.relay_runs.specs.RelaySteps.{RelayState, half_of}
use Rattle.relay_runs.specs.Relays.{IsHalfRunPair}

-- A half run is a run of its end by itself, with the packets that were delivered.
abbrev pub HalfRunsRunAlone : Type 0
HalfRunsRunAlone = (setting : Setting) (side : Side) (state : HalfState) → HalfRun setting side state → RunsAlone setting.schema setting.script.top side state.end state.lines state.delivered

-- A feed is a half run, and so a run of its end by itself, with the packets that were delivered.
abbrev pub FeedsRunAlone : Type 0
FeedsRunAlone =
    (setting : Setting) (side : Side) (bytes : List ℕ) (last : FeedState) (spent : Bool) → AreBytes bytes → Feeds setting side bytes (beginning_of setting side) last spent
    → RunsAlone setting.schema setting.script.top side last.half.end last.half.lines last.half.delivered

-- So the lines of a feed and the packets that were delivered obey the law of one end, and the lines the law Fallen.
abbrev pub FeedsObeyAlone : Type 0
FeedsObeyAlone =
    (setting : Setting) (side : Side) (bytes : List ℕ) (lines : List Line) (packets : List Packet) (fault : Option FeedFault) (spent : Bool) → IsSound setting.schema → AreBytes bytes → Feed setting side bytes lines packets fault spent
    → Alone setting.schema setting.script.top side lines packets × Holds law.Fallen setting.schema lines

-- A half obeys the law of one end with packets that stand for a prefix of what the other has sent, and its lines obey the law
-- Fallen.
pub record ObeysAlone (setting : Setting) (side : Side) (half : HalfState) (sent : List Packet) : Type 0 where
  pub came : List Packet
  pub waiting : List Packet
  pub front : sent ≡ came ++ waiting
  pub delivered : List Packet
  pub stands : StandsFor came delivered
  pub alone : Alone setting.schema setting.script.top side half.lines delivered
  pub fallen : Holds law.Fallen setting.schema half.lines

-- So does each half of a pair, in whatever order the ends made their steps.
abbrev pub RelaysObeyAlone : Type 0
RelaysObeyAlone = (setting : Setting) (state : RelayState) → IsSound setting.schema → IsHalfRunPair setting state → (side : Side) → ObeysAlone setting side (half_of side state) (half_of (other side) state).sent
