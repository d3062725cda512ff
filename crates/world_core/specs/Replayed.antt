-- How far lines are the lines that a run prints which follows them.
use Rattle.std.specs.Prelude.{◌≡◌, ℕ, ◌<◌, ◌≤◌, List, [], ◌∷◌, ◌++◌, length, take}
use Rattle.channel_model.specs.Runs.{RunState}
use Rattle.script_runs.specs.Endings.{EndsAs, ending_line}
use Rattle.script_runs.specs.Replays.{ArePrinted, Follows, printed_lines}
use Rattle.script_steps.specs.Choices.{Setting}
use Rattle.script_steps.specs.Turns.{RunEnding}
use Rattle.transcripts.specs.Compared.{events_in}
use Rattle.world_core.specs.declared.world.replay.Replay.{Replay}
use Rattle.world_core.specs.declared.world.replay.Replay.TheVariants as replay

-- A run prints this number of first lines and no more, or they are all that it prints with the line of how it ends.
pub record ArePrintedSoFar (setting : Setting) (lines : List (List ℕ)) (last : RunState) (count : ℕ) : Type 0 where
  pub there : count ≤ length lines
  pub first : ArePrinted setting last (take count lines)
  pub most : (more : ℕ) → more ≤ length lines → ArePrinted setting last (take more lines) → more ≤ count

-- lines are all that a run prints, with the line of how it ends
abbrev pub AreWhole : Setting → RunState → List (List ℕ) → Type 0
AreWhole setting last lines = (ending : RunEnding) × EndsAs setting last ending × (lines ≡ printed_lines setting last ++ ending_line ending ∷ [])

-- What a replay reports of lines and of the run that follows them: they are all that the run prints, and it has this number of
-- events; or it prints all of this number of lines, but they stop early; or it prints this number of them and not the next one.
abbrev pub SaysOf : Setting → List (List ℕ) → RunState → Replay → Type 0
SaysOf setting lines last (replay.Complete events) = AreWhole setting last lines × (events ≡ events_in last.lines)
SaysOf setting lines last (replay.Incomplete count) = ArePrintedSoFar setting lines last count × (count ≡ length lines) × (¬ AreWhole setting last lines)
SaysOf setting lines last (replay.Diverged count) = ArePrintedSoFar setting lines last count × (count < length lines)

-- Lines are replayed: a run follows them, and this is reported of it.
pub record IsReplayed (setting : Setting) (lines : List (List ℕ)) (answer : Replay) : Type 0 where
  pub last : RunState
  pub follows : Follows setting lines last
  pub says : SaysOf setting lines last answer
