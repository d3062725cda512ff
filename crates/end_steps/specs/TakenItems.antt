-- What becomes of an item that is taken, by what decides it.
use Rattle.std.specs.Prelude.{◌-◌, ℤ, Bool, true, false, if◌then◌else◌, List, Option, Some, None}
use Rattle.actor_tree.specs.declared.actor.Actor.{Actor}
use Rattle.ipdl_base.specs.declared.kinds.Reason.TheVariants.{ActorDestroyed}
use Rattle.ipdl_base.specs.declared.kinds.Side.{Side}
use Rattle.ipdl_base.specs.declared.line.What.{What}
use Rattle.ipdl_base.specs.declared.message.Message.{Message}
use Rattle.ipdl_base.specs.declared.schema.MessageRow.{MessageRow}
use Rattle.ipdl_base.specs.declared.schema.Schema.{Schema}
use Rattle.ipdl_base.specs.declared.value.Values.{Values}
use Rattle.nesting_core.specs.declared.frame.Answer.TheVariants as answer
use Rattle.channel_model.specs.Numbers.{protocol_of}
use Rattle.channel_model.specs.Outputs.{line_at, request_answered}
use Rattle.channel_model.specs.Parts.{owes_reply}
use Rattle.channel_model.specs.ValueActors.{lives_as, missing}
use Rattle.end_steps.specs.AnswerPackets.{OwedAnswer}
use Rattle.end_parts.specs.OutputView.{OutputView, with_line}

-- the id for which a request is dropped, by the actors that live
abbrev pub dropped_for_by : Schema → List Actor → MessageRow → Message → Values → Option ℤ
dropped_for_by schema actors row m vs = if lives_as actors (protocol_of m.number) m.route then missing schema actors row.params vs else Some m.route

-- what an open end owes for a request that it drops
abbrev pub owed_by_drop : MessageRow → Message → Option OwedAnswer
owed_by_drop row m = if owes_reply row then Some (record { request = request_answered m; given = answer.Fault ActorDestroyed }) else None

-- the output after a reply: the line of a promise that is settled, which the end has owed
abbrev pub with_settling : Bool → Side → What → OutputView → OutputView
with_settling true side what out = record (with_line out (line_at side what)) { lines_owed = out.lines_owed - 1 }
with_settling false side what out = out
