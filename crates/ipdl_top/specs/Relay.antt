-- What the command that runs a script over two queues says of a schema.
use Rattle.std.specs.Prelude.{◌≡◌, ◌≤◌, ◌*◌, ℕ, List, ◌++◌, map, Option}
use Rattle.std.specs.List.{AllByRecursion}
use Rattle.ipdl_base.specs.declared.kinds.Side.{Side}
use Rattle.ipdl_base.specs.declared.line.Line.{Line}
use Rattle.ipdl_base.specs.declared.schema.Schema.{Schema}
use Rattle.ipdl_base.specs.Sides.{other}
use Rattle.channel_model.specs.Runs.{IsLegalHistory}
use Rattle.channel_model.specs.Sends.{frames_of}
use Rattle.channel_model.specs.States.{IsAnswered}
use Rattle.command_words.specs.Relay.{RelayCourse}
use Rattle.end_parts.specs.PlainLines.{plain_line}
use Rattle.handler_script.specs.declared.script.Script.{Script}
use Rattle.history.specs.HistoryView.{HistoryView}
use Rattle.history.specs.Text.{transcript_text}
use Rattle.law_statements.specs.Fallen.{Fallen}
use Rattle.law_statements.specs.Readable.{Readable}
use Rattle.relay_history.specs.OneHistory.{IsOneHistory}
use Rattle.relay_laws.specs.Laws.{ObeysAlone}
use Rattle.relay_runs.specs.RelaySteps.{half_of}
use Rattle.relay_runs.specs.Relays.{Relayed}
use Rattle.script_runs.specs.Endings.{ending_line}
use Rattle.script_steps.specs.Choices.{Setting}
use Rattle.script_steps.specs.Turns.{RunEnding, at_rest}
use Rattle.script_transcripts.specs.Legal.{IsLegalText}
use Rattle.world_core.specs.declared.answers.RunAnswer.{RunAnswer}
use Rattle.world_core.specs.declared.relay.Halves.{Halves}
use Rattle.world_core.specs.WorldView.{WorldView, opening_of}
use Rattle.order_statements.specs.Laws.{Owed}
use Rattle.order_statements.specs.Order.{Order}
use Rattle.progress_laws.specs.Acts.{acts, by_themselves}
use Rattle.progress_laws.specs.Rest.{IsRestingWorld}
use Rattle.order_statements.specs.Lawful.{IsLawfulHistory}
use Rattle.ipdl_top.specs.declared.answer.CommandAnswer.{CommandAnswer}
use Rattle.ipdl_top.specs.Ended.{answer_of, ended_answer}
use Rattle.ipdl_top.specs.Scripts.{SaysByScript}

-- what a relay gives: the world as it begins, the lines of both ends, and how it ended
abbrev pub Relaying : Type 1
Relaying = WorldView → Halves → RunAnswer → Type 0

-- what a relay is about: the schema, the script, and the death and the limit of its course
abbrev pub relay_setting : Schema → Script → RelayCourse → Setting
relay_setting schema script course = record { schema = schema; script = script; stop = course.death; limit = course.limit }

-- the lines of one end, with every box at one place
abbrev pub half_lines : HistoryView → List Line
half_lines history = map plain_line history.lines

-- the text of both halves: the parent's lines, and then the child's
abbrev pub halves_text : Schema → Halves → List ℕ
halves_text schema halves = transcript_text schema (half_lines halves.parent) ++ transcript_text schema (half_lines halves.child)

-- The answer has what each end has seen, as the relay gives it: both ends have come there by steps, and a packet reaches one
-- only after the other has sent it. There is one history of the script whose lines by side are those of the two ends, with
-- each packet delivered as it was sent. That history is legal and all five laws hold of it; with the line of the ending its
-- transcript is a legal text. What an end takes there is the first that it does not defer, each event gives what it owes, and
-- what happens by itself is at most six events for each act. The relay is finished exactly where nothing is left to do there,
-- and then both ends are at rest and no end waits; it is spent only where a side has something to do, but already has the most events. Each end obeys what one end by itself
-- obeys, with what was delivered to it; the lines of each can be read, and managed actors fall before managers.
pub record SaysRelayed (Relays : Relaying) (course : RelayCourse) (schema : Schema) (script : Script) (answer : CommandAnswer) : Type 0 where
  pub halves : Halves
  pub ending : RunEnding
  pub made : Relays (opening_of (relay_setting schema script course)) halves (answer_of ending)
  pub relayed : Relayed (relay_setting schema script course) (half_lines halves.parent) (half_lines halves.child) ending
  pub history : IsOneHistory (relay_setting schema script course) relayed.state
  pub legal : IsLegalHistory schema script.top history.lines
  pub lawful : IsLawfulHistory schema history.lines
  pub order : Order schema history.lines
  pub owed : Owed schema history.lines
  pub legal_text : IsLegalText (relay_setting schema script course) (transcript_text schema history.lines ++ ending_line ending)
  pub rests : ending ≡ at_rest → IsRestingWorld history.history.state.world
  pub weighed : by_themselves history.lines ≤ 6 * acts history.lines
  pub answered : ending ≡ at_rest → (side : Side) → AllByRecursion IsAnswered (frames_of (half_of side relayed.state).end)
  pub alone : (side : Side) → ObeysAlone (relay_setting schema script course) side (half_of side relayed.state) (half_of (other side) relayed.state).sent
  pub parent_readable : Readable schema (half_lines halves.parent)
  pub parent_fallen : Fallen schema (half_lines halves.parent)
  pub child_readable : Readable schema (half_lines halves.child)
  pub child_fallen : Fallen schema (half_lines halves.child)
  pub says : answer ≡ ended_answer (halves_text schema halves) ending

-- The answer is that for a script of this name and its bytes.
abbrev pub SaysRelay : Relaying → RelayCourse → List ℕ → Option (List ℕ) → List ℕ → Schema → CommandAnswer → Type 0
SaysRelay Relays course name text file schema answer = SaysByScript (SaysRelayed Relays course schema) name text file schema answer
