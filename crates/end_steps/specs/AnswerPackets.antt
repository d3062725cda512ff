-- Answers that an end owes, in their packets.
use Rattle.std.specs.Prelude.{◌≡◌, Bool, ◌||◌, if◌then◌else◌, List, Option, Some, None, is_none}
use Rattle.actor_tree.specs.declared.actor.Actor.{Actor}
use Rattle.ipdl_base.specs.declared.kinds.Reason.TheVariants.{HandlerRejected, ResolverDestroyed}
use Rattle.ipdl_base.specs.declared.kinds.Side.{Side}
use Rattle.ipdl_base.specs.declared.message.Body.{Body}
use Rattle.ipdl_base.specs.declared.message.Body.TheVariants as body
use Rattle.ipdl_base.specs.declared.schema.MessageRow.{MessageRow}
use Rattle.ipdl_base.specs.declared.schema.Schema.{Schema}
use Rattle.ipdl_base.specs.declared.value.Values.{Values}
use Rattle.ipdl_base.specs.declared.value.Values.TheVariants.{Nothing}
use Rattle.ipdl_base.specs.Signatures.{returns_of_row}
use Rattle.nesting_core.specs.declared.frame.Answer.{Answer}
use Rattle.nesting_core.specs.declared.frame.Answer.TheVariants as answer
use Rattle.value_types.specs.declared.layout.TheConstants.{NEW}
use Rattle.value_types.specs.Fits.{Fits}
use Rattle.value_codec.specs.Spelling.{FrameOf}
use Rattle.channel_model.specs.Answers.{resolver_in}
use Rattle.channel_model.specs.Ends.{StackEntry}
use Rattle.channel_model.specs.Numbers.{is_sync_row}
use Rattle.channel_model.specs.Outputs.{AnsweredRequest, answer_line, body_of, line_at, reply_to, resolver_answered}
use Rattle.channel_model.specs.Returns.{dispatch_answered}
use Rattle.channel_model.specs.Sends.{is_too_large}
use Rattle.channel_model.specs.ValueActors.{has_dead}
use Rattle.end_steps.specs.declared.answer_packet.AnswerPacket.{AnswerPacket}
use Rattle.end_parts.specs.declared.packet.Packet.TheVariants.{Bytes}
use Rattle.end_parts.specs.OutputView.{OutputView, with_line, with_packet}
use Rattle.end_parts.specs.PlainLines.{plain_what}

-- An answer that is owed to a request.
pub record OwedAnswer : Type 0 where
  pub request : AnsweredRequest
  pub given : Answer

-- a body that answers
abbrev pub IsAnswering : Body → Type 0
IsAnswering (body.Request vs) = ⊥
IsAnswering (body.Reply vs) = Unit {0}
IsAnswering (body.Fault reason) = Unit {0}
IsAnswering body.Goodbye = ⊥

-- the answer that a body is
abbrev pub answer_in : Body → Answer
answer_in (body.Request vs) = answer.Ok vs
answer_in (body.Reply vs) = answer.Ok vs
answer_in (body.Fault reason) = answer.Fault reason
answer_in body.Goodbye = answer.Ok Nothing

-- A packet is that of an answer, with its line.
pub record IsPacketOf (schema : Schema) (owed : OwedAnswer) (packet : AnswerPacket) : Type 0 where
  pub line : plain_what packet.what ≡ answer_line owed.request.seq owed.given
  pub frame : FrameOf NEW schema (reply_to owed.request (body_of owed.given)) packet.frame

-- the packet of an answer, where one is owed
abbrev pub IsPacketFor : Schema → Option OwedAnswer → Option AnswerPacket → Type 0
IsPacketFor schema None None = Unit {0}
IsPacketFor schema None (Some packet) = ⊥
IsPacketFor schema (Some owed) None = ⊥
IsPacketFor schema (Some owed) (Some packet) = IsPacketOf schema owed packet

-- the output after an answer, if there is one
abbrev pub with_answer_packet : Side → Option AnswerPacket → OutputView → OutputView
with_answer_packet side None out = out
with_answer_packet side (Some packet) out = with_packet (with_line out (line_at side (plain_what packet.what))) (Bytes packet.frame)

-- the answer by values to a request of the message, by the actors that live: they are not sent where they are too large or one of them is dead
abbrev pub answer_by_values : Schema → List Actor → MessageRow → AnsweredRequest → Option Values → Answer
answer_by_values schema actors row q None = answer.Fault HandlerRejected
answer_by_values schema actors row q (Some vs) = if is_too_large schema (reply_to q (body.Reply vs)) || has_dead schema actors (returns_of_row row) vs then answer.Fault HandlerRejected else answer.Ok vs

-- the answer to a sync request whose handler returns these values, or none
abbrev pub return_answer_by : Schema → List Actor → MessageRow → AnsweredRequest → Option Values → Answer
return_answer_by schema actors row q vs = if is_none row.returns then answer.Ok Nothing else answer_by_values schema actors row q vs

-- the fault for a resolver that is destroyed
abbrev pub lost_resolver : StackEntry → OwedAnswer
lost_resolver entry = record { request = resolver_answered (resolver_in entry); given = answer.Fault ResolverDestroyed }

-- what an open end owes when the handler of an entry returns: its answer to a sync request, or the fault for a resolver that is destroyed
abbrev pub owed_by_return : Schema → List Actor → MessageRow → StackEntry → Option Values → Option OwedAnswer
owed_by_return schema actors row entry vs =
    if is_sync_row row then Some (record { request = dispatch_answered entry; given = return_answer_by schema actors row (dispatch_answered entry) vs })
    else (if entry.resolves then Some (lost_resolver entry) else None)

-- only an open end answers
abbrev pub owed_if : Bool → Option OwedAnswer → Option OwedAnswer
owed_if is_open owed = if is_open then owed else None

-- an answer that is owed fits the schema
abbrev pub FitsOwed : Schema → Option OwedAnswer → Type 0
FitsOwed schema None = Unit {0}
FitsOwed schema (Some owed) = Fits schema (reply_to owed.request (body_of owed.given))
