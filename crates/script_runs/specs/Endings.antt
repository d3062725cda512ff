-- How runs of a script end, and the line that reports it.
use Rattle.std.specs.Prelude.{◌≡◌, ℕ, true, false, List}
use Rattle.channel_model.specs.Runs.{RunState}
use Rattle.script_steps.specs.Choices.{Setting, is_within}
use Rattle.script_steps.specs.Turns.{RunEnding, at_rest, at_limit, is_quiet, is_quiet_at}
use Rattle.transcripts.specs.Told.{finished_line, spent_line}

-- the last line of what a run prints, which reports how it ended
abbrev pub ending_line : RunEnding → List ℕ
ending_line at_rest = finished_line
ending_line (at_limit side) = spent_line side

-- A run may end like this: nothing is left to do, or this side has something left to do but already has the number of events that it may have.
abbrev pub EndsAs : Setting → RunState → RunEnding → Type 0
EndsAs setting state at_rest = is_quiet setting state ≡ true
EndsAs setting state (at_limit side) = (is_within setting side state ≡ false) × (is_quiet_at setting state side ≡ false)
