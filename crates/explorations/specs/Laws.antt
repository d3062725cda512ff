-- What follows for the ways of a script.
use Rattle.std.specs.Prelude.{◌≡◌, ℕ, true, List, ◌++◌, length, Contains, Some, None}
use Rattle.handler_script.specs.Valid.{IsValid}
use Rattle.ipdl_base.specs.declared.kinds.Side.{Side}
use Rattle.ipdl_base.specs.Sound.{IsSound}
use Rattle.channel_model.specs.Runs.{RunState}
use Rattle.schedules.specs.declared.turn.Turn.{Turn}
use Rattle.script_runs.specs.Laws.{HasLimit}
use Rattle.script_steps.specs.Choices.{Choice, Setting, beginning_of, played}
use Rattle.script_steps.specs.Progress.{lines_of}
use Rattle.script_steps.specs.Turns.{RunEnding, Picks}
use Rattle.script_transcripts.specs.Legal.{IsLegalText}
use Rattle.explorations.specs.Words.{AreAlike, Point, reached}
use Rattle.explorations.specs.Explorations.{Exploration, IsExplored, Way}

-- Two runs of a script in which each side has the same lines lead to the same world.
abbrev pub SidesTellWorlds : Type 0
SidesTellWorlds =
    (setting : Setting) (one other : List Choice) (state next : RunState) → played setting one (beginning_of setting) ≡ Some state → played setting other (beginning_of setting) ≡ Some next
    → ((side : Side) → lines_of side state.lines ≡ lines_of side next.lines) → state.world ≡ next.world

-- Where two words lead to states that are alike, the same word after both leads to points that are alike.
pub record LeadsAlike (setting : Setting) (word : List Turn) (point : Point) : Type 0 where
  pub same : Point
  pub leads : reached setting word ≡ Some same
  pub alike : AreAlike point same

abbrev pub FuturesAreAlike : Type 0
FuturesAreAlike =
    (setting : Setting) (one other word : List Turn) (state next : RunState) (point : Point) → IsSound setting.schema → IsValid setting.schema setting.script → HasLimit setting
    → reached setting one ≡ Some (record { state = state; spent = None }) → reached setting other ≡ Some (record { state = next; spent = None })
    → ((side : Side) → lines_of side state.lines ≡ lines_of side next.lines)
    → reached setting (one ++ word) ≡ Some point → LeadsAlike setting (other ++ word) point

-- Words that lead to points that are alike have the same number of letters.
abbrev pub AlikeWordsAreAsLong : Type 0
AlikeWordsAreAsLong =
    (setting : Setting) (one other : List Turn) (point same : Point) → IsSound setting.schema → IsValid setting.schema setting.script → HasLimit setting
    → reached setting one ≡ Some point → reached setting other ≡ Some same → AreAlike point same → length one ≡ length other

-- A way is that of a run: its word leads to a state with the same lines of each side, and it ends as the run does.
pub record IsWayOf (setting : Setting) (way : Way) (state : RunState) (ending : RunEnding) : Type 0 where
  pub point : Point
  pub leads : reached setting way.word ≡ Some point
  pub lines : (side : Side) → lines_of side point.state.lines ≡ lines_of side state.lines
  pub ends : way.ending ≡ ending

-- Where an exploration is whole, each legal text of the script is that of one of its ways.
abbrev pub WaysCoverTexts : Type 0
WaysCoverTexts =
    (setting : Setting) (most : ℕ) (exploration : Exploration) (text : List ℕ) → IsSound setting.schema → IsValid setting.schema setting.script → HasLimit setting
    → IsExplored setting most exploration → exploration.whole ≡ true → (legal : IsLegalText setting text)
    → (way : Way) × Contains exploration.ways way × IsWayOf setting way legal.state legal.ending

-- The run by the word of a way is that way: its turns lead where the word leads, and it ends so.
pub record IsRunOf (setting : Setting) (way : Way) : Type 0 where
  pub point : Point
  pub leads : reached setting way.word ≡ Some point
  pub runs : Picks setting way.word (beginning_of setting) point.state way.ending

abbrev pub WaysAreRun : Type 0
WaysAreRun = (setting : Setting) (most : ℕ) (exploration : Exploration) (way : Way) → IsExplored setting most exploration → Contains exploration.ways way → IsRunOf setting way

-- No two ways are one: where their words lead, the lines of a side differ, or how they end.
abbrev pub WaysDiffer : Type 0
WaysDiffer =
    (setting : Setting) (most : ℕ) (exploration : Exploration) (one other : Way) (point same : Point) → IsExplored setting most exploration → Contains exploration.ways one → Contains exploration.ways other
    → reached setting one.word ≡ Some point → reached setting other.word ≡ Some same → AreAlike point same → one ≡ other

-- A script has one exploration. So it does not depend on the order of a search.
abbrev pub ExplorationsAreOne : Type 0
ExplorationsAreOne = (setting : Setting) (most : ℕ) (one other : Exploration) → IsExplored setting most one → IsExplored setting most other → one ≡ other

-- And there is one.
abbrev pub ExplorationsExist : Type 0
ExplorationsExist =
    (setting : Setting) (most : ℕ) → IsSound setting.schema → IsValid setting.schema setting.script → HasLimit setting → (exploration : Exploration) × IsExplored setting most exploration
