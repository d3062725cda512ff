-- What the commands that run a script say of a schema.
use Rattle.std.specs.Prelude.{◌≡◌, ◌≤◌, ◌*◌, ℕ, List, ◌++◌, Option, Some, None}
use Rattle.ipdl_base.specs.declared.kinds.Side.{Side}
use Rattle.ipdl_base.specs.declared.line.Line.{Line}
use Rattle.ipdl_base.specs.declared.schema.Schema.{Schema}
use Rattle.command_words.specs.Run.{Course}
use Rattle.channel_model.specs.Runs.{IsLegalHistory}
use Rattle.handler_script.specs.declared.script.Script.{Script}
use Rattle.charts.specs.Chart.{chart_text}
use Rattle.generated_case.specs.Counts.{counts_of}
use Rattle.generated_case.specs.Summary.{summary_text}
use Rattle.history.specs.Text.{transcript_text}
use Rattle.order_statements.specs.Order.{Order}
use Rattle.order_statements.specs.Laws.{Owed}
use Rattle.progress_laws.specs.Acts.{acts, by_themselves}
use Rattle.progress_laws.specs.Rest.{IsRestingWorld}
use Rattle.relay_history.specs.SidesAlone.{SideObeysAlone}
use Rattle.script_runs.specs.Endings.{ending_line}
use Rattle.script_steps.specs.Choices.{IsCaseHistory, Setting}
use Rattle.script_steps.specs.Turns.{RunEnding, at_rest}
use Rattle.script_transcripts.specs.Legal.{IsLegalText}
use Rattle.schedules.specs.declared.turn.Turn.{Turn}
use Rattle.world_core.specs.declared.answers.RunAnswer.{RunAnswer}
use Rattle.world_core.specs.Turns.{StandsAs, WordGives}
use Rattle.world_core.specs.WorldView.{WorldView, opening_of}
use Rattle.law_statements.specs.Fallen.{Fallen}
use Rattle.law_statements.specs.Living.{Living}
use Rattle.law_statements.specs.Prefix.{Prefix}
use Rattle.law_statements.specs.Readable.{Readable}
use Rattle.law_statements.specs.Settled.{Settled}
use Rattle.law_statements.specs.Waits.{Waits}
use Rattle.ipdl_top.specs.declared.answer.CommandAnswer.{CommandAnswer}
use Rattle.ipdl_top.specs.declared.rendering.Rendering.{Rendering}
use Rattle.ipdl_top.specs.declared.rendering.Rendering.TheVariants as rendering
use Rattle.ipdl_top.specs.Ended.{answer_of, answer_with, spent_side}
use Rattle.ipdl_top.specs.Scripts.{SaysByScript}

-- what a driver gives: the world before, the world after, and how the run ended
abbrev pub Driving : Type 1
Driving = WorldView → WorldView → RunAnswer → Type 0

-- How a run is made: by its word of turns, if one is given, and else as the driver gives it.
abbrev pub IsMade : Driving → Option (List Turn) → WorldView → WorldView → RunAnswer → Type 0
IsMade Gives None before after ending = Gives before after ending
IsMade Gives (Some word) before after ending = WordGives before word ending after

-- what a run is about: the schema, the script, and the death and the limit of its course
abbrev pub setting_by : Schema → Script → Course → Setting
setting_by schema script course = record { schema = schema; script = script; stop = course.death; limit = course.limit }

-- what is printed of a history and of how the run ended: its transcript or its summary, and after it the line of the ending; or
-- its picture
abbrev pub rendered : Rendering → Schema → List Line → RunEnding → List ℕ
rendered rendering.Transcript schema lines ending = transcript_text schema lines ++ ending_line ending
rendered (rendering.Summary rounds actors) schema lines ending = summary_text rounds actors (counts_of lines) ++ ending_line ending
rendered rendering.Chart schema lines ending = chart_text schema lines (spent_side ending)

-- the answer that is what is printed of a history
abbrev pub run_answer : Rendering → Schema → List Line → RunEnding → CommandAnswer
run_answer shown schema lines ending = answer_with (rendered shown schema lines ending) ending

-- The answer is one history of both ends. It is made by the word or as the driver has it, and is the script's own and legal.
-- It can be read, and all five laws hold of it: what is delivered is what was sent; what is taken goes to the living actor
-- of its id, or is dropped; no two waits block each other; a closed end's promises are settled once each; and managed
-- actors fall before managers. Where it is finished nothing is left to do and no end waits; and where it is spent, that
-- side has something to do, but already has the most events. Where it is finished both ends are at rest besides: nothing is
-- left at either, and both are open with nothing on a link, or both have ended. What happens by itself is at most six events
-- for each act of a handler or a main. Each side by itself obeys what one end obeys, by what was delivered to it. What an end
-- takes is the first that it does not defer; and each event gives what it owes: actors that it builds or that fall, answers, and
-- promises settled. With the line of its ending, its transcript is a legal text.
pub record SaysHistory (Gives : Driving) (shown : Rendering) (course : Course) (schema : Schema) (script : Script) (answer : CommandAnswer) : Type 0 where
  pub after : WorldView
  pub ending : RunEnding
  pub made : IsMade Gives course.schedule (opening_of (setting_by schema script course)) after (answer_of ending)
  pub about : after.setting ≡ setting_by schema script course
  pub scripted : IsCaseHistory (setting_by schema script course) after.state.lines
  pub legal : IsLegalHistory schema script.top after.state.lines
  pub readable : Readable schema after.state.lines
  pub prefix : Prefix schema after.state.lines
  pub living : Living schema after.state.lines
  pub waits : Waits schema after.state.lines
  pub settled : Settled schema after.state.lines
  pub fallen : Fallen schema after.state.lines
  pub order : Order schema after.state.lines
  pub owed : Owed schema after.state.lines
  pub stands : StandsAs after (answer_of ending)
  pub rests : ending ≡ at_rest → IsRestingWorld after.state.world
  pub weighed : by_themselves after.state.lines ≤ 6 * acts after.state.lines
  pub alone : (side : Side) → SideObeysAlone (setting_by schema script course) after.state.lines side
  pub legal_text : IsLegalText (setting_by schema script course) (transcript_text schema after.state.lines ++ ending_line ending)
  pub says : answer ≡ run_answer shown schema after.state.lines ending

-- The answer is that for a script of this name and its bytes, where the protocol of the file is the top.
abbrev pub SaysRun : Driving → Rendering → Course → List ℕ → Option (List ℕ) → List ℕ → Schema → CommandAnswer → Type 0
SaysRun Gives shown course name text file schema answer = SaysByScript (SaysHistory Gives shown course schema) name text file schema answer
