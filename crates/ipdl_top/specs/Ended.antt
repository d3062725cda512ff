-- The answer that says how a run or a relay ended.
use Rattle.std.specs.Prelude.{◌≡◌, List, [], ◌++◌, ℕ, Option, Some, None}
use Rattle.ipdl_base.specs.declared.kinds.Side.{Side}
use Rattle.script_runs.specs.Endings.{ending_line}
use Rattle.script_steps.specs.Turns.{RunEnding, at_limit, at_rest}
use Rattle.world_core.specs.declared.answers.RunAnswer.{RunAnswer}
use Rattle.world_core.specs.declared.answers.RunAnswer.TheVariants as run
use Rattle.ipdl_top.specs.declared.answer.CommandAnswer.{CommandAnswer}
use Rattle.ipdl_top.specs.declared.status.Status.{Status}
use Rattle.ipdl_top.specs.declared.status.Status.TheVariants as status

-- how the command ends by how the run did
abbrev pub run_status : RunEnding → Status
run_status at_rest = status.Done
run_status (at_limit side) = status.Spent

-- the answer of a run that ended so
abbrev pub answer_of : RunEnding → RunAnswer
answer_of at_rest = run.Finished
answer_of (at_limit side) = run.Spent side

-- the side that has the most events, if the run ended so
abbrev pub spent_side : RunEnding → Option Side
spent_side at_rest = None
spent_side (at_limit side) = Some side

-- the ending of a run in which this side has the most events, if one has
abbrev pub ending_by : Option Side → RunEnding
ending_by None = at_rest
ending_by (Some side) = at_limit side

-- the answer whose output is this, of a run that ended so
abbrev pub answer_with : List ℕ → RunEnding → CommandAnswer
answer_with out ending = record { status = run_status ending; out = out; err = [] }

-- the answer that is a text, and after it the line of how the run ended
abbrev pub ended_answer : List ℕ → RunEnding → CommandAnswer
ended_answer text ending = answer_with (text ++ ending_line ending) ending

-- The answer is that for how the run ended, which it did.
pub record IsEndedAnswer (answers : RunEnding → CommandAnswer) (ended : RunAnswer) (answer : CommandAnswer) : Type 0 where
  pub ending : RunEnding
  pub ends : ended ≡ answer_of ending
  pub says : answer ≡ answers ending
