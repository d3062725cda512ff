-- What holds of every relay.
use Rattle.std.specs.Prelude.{◌⊎◌, List}
use Rattle.std.specs.List.{AllByRecursion}
use Rattle.ipdl_base.specs.declared.kinds.Side.{Side}
use Rattle.ipdl_base.specs.declared.line.Line.{Line}
use Rattle.ipdl_base.specs.Sound.{IsSound}
use Rattle.channel_model.specs.Sends.{frames_of}
use Rattle.channel_model.specs.States.{IsAnswered}
use Rattle.script_steps.specs.Choices.{Setting}
use Rattle.script_steps.specs.Turns.{RunEnding, at_rest}
use Rattle.script_runs.specs.Laws.{HasLimit}
use Rattle.relay_runs.specs.RelaySteps.{IsRelay, RelayState, half_of}
use Rattle.relay_runs.specs.Relays.{EndsAs, IsHalfRunPair, RelayedByTurns}
use Rattle.relay_history.specs.OneHistory.{HasOneHistory, IsOneHistory}
use Rattle.relay_history.specs.OneResult.{HaveOneResult}
use Rattle.relay_history.specs.Stamps.{IsStampedRelay}
use Rattle.relay_history.specs.Starts.{HaveStartedEachOther}

-- For a sound schema a relay is one history of the script.
abbrev pub RelaysAreHistories : Type 0
RelaysAreHistories = (setting : Setting) (state : RelayState) → IsSound setting.schema → IsRelay setting state → IsOneHistory setting state

-- Where no side may have 2^28 events its halves are half runs, and what came to each is a prefix of what the other has sent.
abbrev pub RelaysComeInOrder : Type 0
RelaysComeInOrder = (setting : Setting) (state : RelayState) → IsSound setting.schema → HasLimit setting → IsRelay setting state → IsHalfRunPair setting state

-- Any two relays of one setting have one result.
abbrev pub RelaysHaveOneResult : Type 0
RelaysHaveOneResult = (setting : Setting) (one two : RelayState) → IsRelay setting one → IsRelay setting two → HaveOneResult setting one two

-- The lines that turns give are by side those of one history.
abbrev pub TurnsHaveOneHistory : Type 0
TurnsHaveOneHistory = (setting : Setting) (parent child : List Line) (ending : RunEnding) → IsSound setting.schema → RelayedByTurns setting parent child ending → HasOneHistory setting parent child

-- At the end of a finished relay no end waits for an answer.
abbrev pub FinishedRelaysWaitForNothing : Type 0
FinishedRelaysWaitForNothing =
    (setting : Setting) (state : RelayState) → IsSound setting.schema → IsRelay setting state → EndsAs setting state at_rest → (side : Side) → AllByRecursion IsAnswered (frames_of (half_of side state).end)

-- A pair of half runs is a relay, or its halves have started each other; and it is never both.
pub record RunsOrStarts (setting : Setting) (state : RelayState) : Type 0 where
  pub either : IsHalfRunPair setting state → IsRelay setting state ⊎ HaveStartedEachOther setting state
  pub not_both : IsRelay setting state → HaveStartedEachOther setting state → ⊥

abbrev pub RelaysRunOrStart : Type 0
RelaysRunOrStart = (setting : Setting) (state : RelayState) → RunsOrStarts setting state

-- Halves with stamps are a relay.
abbrev pub StampedRelaysRun : Type 0
StampedRelaysRun = (setting : Setting) (state : RelayState) → IsStampedRelay setting state → IsRelay setting state
