-- How a run follows the lines of a text, one by one.
use Rattle.std.specs.Prelude.{◌≡◌, ℕ, ◌<◌, List, ◌∷◌, ◌++◌, length, Option, Some, None}
use Rattle.channel_model.specs.Runs.{RunState}
use Rattle.schedules.specs.declared.turn.Turn.{Turn}
use Rattle.script_runs.specs.Endings.{EndsAs, ending_line}
use Rattle.script_runs.specs.Replays.{printed_lines}
use Rattle.script_runs.specs.Told.{choice_told}
use Rattle.script_steps.specs.Choices.{Choice, Setting}
use Rattle.script_steps.specs.Turns.{RunEnding}
use Rattle.transcripts.specs.TextLines.{text_lines}
use Rattle.transcripts.specs.Compared.{HasPassed}
use Rattle.transcripts.specs.declared.comparison.Comparison.{Comparison}
use Rattle.world_core.specs.declared.world.replay.Replay.{Replay}
use Rattle.world_core.specs.Replayed.{IsReplayed}
use Rattle.world_core.specs.WorldView.{WorldView}

-- the lines that a run has printed, and after them those that are left of a text
abbrev pub lines_seen : WorldView → Comparison → List (List ℕ)
lines_seen w c = printed_lines w.setting w.state ++ text_lines c.left.now

-- the choice that a turn represents
abbrev pub choice_by : Turn → Choice
choice_by turn = record { side = turn.side; delivers = turn.only_deliver }

-- the next line of a text reports this turn
abbrev pub TellsTurn : Comparison → Turn → Type 0
TellsTurn c turn = (line : List ℕ) × (rest : List (List ℕ)) × (text_lines c.left.now ≡ line ∷ rest) × (choice_told line ≡ Some (choice_by turn))

-- The run has followed the next line of a text: it prints that line, and less is left.
pub record GoesOn (before : WorldView) (old : Comparison) (after : WorldView) (new : Comparison) : Type 0 where
  pub about : after.setting ≡ before.setting
  pub same : lines_seen after new ≡ lines_seen before old
  pub passed : HasPassed after.state.lines new
  pub less : length (text_lines new.left.now) < length (text_lines old.left.now)

-- a run continues, or the replay of the text has ended
abbrev pub Goes : WorldView → Comparison → Option Replay → WorldView → Comparison → Type 0
Goes before old None after new = GoesOn before old after new
Goes before old (Some answer) after new = IsReplayed before.setting (lines_seen before old) answer

-- whether a line reports how a run ends in a state
abbrev pub SaysEnding : Setting → RunState → List ℕ → Type 0
SaysEnding setting state line = (ending : RunEnding) × (line ≡ ending_line ending) × EndsAs setting state ending
