-- Replies by resolvers: whether they may be sent, and what is made of the output.
use Rattle.std.specs.Prelude.{◌≡◌, ℕ, ◌≤◌, ℤ, List, [], ◌∷◌, ◌++◌, Option, Some, None, option_map, option_and_then}
use Rattle.ipdl_base.specs.declared.kinds.SendRefusal.{SendRefusal}
use Rattle.ipdl_base.specs.declared.kinds.Side.{Side}
use Rattle.ipdl_base.specs.declared.line.Line.{Line}
use Rattle.ipdl_base.specs.declared.message.Message.{Message}
use Rattle.ipdl_base.specs.declared.schema.Schema.{Schema}
use Rattle.ipdl_base.specs.declared.value.Values.{Values}
use Rattle.ipdl_base.specs.Plain.{plain_message}
use Rattle.ipdl_base.specs.Sound.{message_of}
use Rattle.value_types.specs.Fits.{Fits}
use Rattle.channel_model.specs.Answers.{answer_body, refused_line, released}
use Rattle.channel_model.specs.Ends.{Naming, StackEntry}
use Rattle.channel_model.specs.Names.{without_name}
use Rattle.channel_model.specs.Outputs.{AnsweredRequest, reply_to, is_open, line_at}
use Rattle.end_parts.specs.declared.packet.Packet.{Packet}
use Rattle.end_parts.specs.OutputView.{OutputView}
use Rattle.end_steps.specs.Refusals.{answer_refusal_by}
use Rattle.end_parts.specs.Replies.{line_of_reply}
use Rattle.channel_core.specs.declared.answers.NamedAnswer.{NamedAnswer}
use Rattle.channel_core.specs.declared.answers.NamedAnswer.TheVariants as answer
use Rattle.channel_core.specs.declared.end.answering.ReplyCheck.{ReplyCheck}
use Rattle.channel_core.specs.declared.end.answering.ReplyCheck.TheVariants.{Refused, Accepted}
use Rattle.channel_core.specs.EndView.{EndView, frame_packet}

-- the reply by a resolver, if one is there
abbrev pub reply_by : Option AnsweredRequest → Option Values → Option Message
reply_by q vs = option_map (λ q. reply_to q (answer_body vs)) q

-- why it is refused, for a request of the message of a number
abbrev pub reply_refusal : EndView → ℕ → Option AnsweredRequest → Option Values → Option SendRefusal
reply_refusal seen number q vs = option_and_then (λ row. answer_refusal_by (is_open seen.end.state) seen.schema seen.end.actors row (reply_by q vs)) (message_of seen.schema number)

-- a check is of this refusal, or of this reply if it is not refused
abbrev pub IsCheckOf : Option SendRefusal → Option Message → ReplyCheck → Type 0
IsCheckOf refusal reply (Refused cause) = refusal ≡ Some cause
IsCheckOf refusal reply (Accepted m) = (refusal ≡ None) × (option_map plain_message reply ≡ Some (plain_message m))

-- More room, and nothing else.
pub record HasReserved (before after : OutputView) : Type 0 where
  pub same : after ≡ record before { line_spare = after.line_spare; packet_spare = after.packet_spare }
  pub lines : before.line_spare ≤ after.line_spare
  pub packets : before.packet_spare ≤ after.packet_spare

-- A line is printed, for which room was made.
pub record HasSaid (line : Line) (before after : OutputView) : Type 0 where
  pub said : after ≡ record before { lines = before.lines ++ line ∷ []; line_spare = after.line_spare; packet_spare = after.packet_spare }
  pub lines : before.lines_owed ≤ after.line_spare
  pub packets : before.packet_spare ≤ after.packet_spare

-- A line is printed and a packet is put after the outbox; room was made for both, and for another packet.
pub record HasReplied (line : Line) (packet : Packet) (before after : OutputView) : Type 0 where
  pub said : after ≡ record before {
    lines = before.lines ++ line ∷ [];
    line_spare = after.line_spare;
    packets = before.packets ++ before.frames ++ packet ∷ [];
    packet_spare = after.packet_spare;
    outbox = [];
    outbox_spare = after.outbox_spare;
    frames = [];
  }
  pub lines : before.lines_owed ≤ after.line_spare
  pub packets : 1 ≤ after.packet_spare

-- an answer is refused with its line
abbrev pub IsRefusedWith : Side → SendRefusal → Option Values → OutputView → NamedAnswer → OutputView → Type 0
IsRefusedWith side cause vs before answer.Sent after = ⊥
IsRefusedWith side cause vs before (answer.Refused told) after = (told ≡ cause) × HasSaid (line_at side (refused_line cause vs)) before after
IsRefusedWith side cause vs before answer.NoMemory after = HasReserved before after

-- a check of the reply by a resolver to a request of the message of a number
abbrev pub IsReplyCheck : EndView → ℕ → Option AnsweredRequest → Option Values → ReplyCheck → Type 0
IsReplyCheck seen number q vs (Refused cause) = reply_refusal seen number q vs ≡ Some cause
IsReplyCheck seen number q vs (Accepted m) = (reply_refusal seen number q vs ≡ None) × (reply_by q vs ≡ Some (plain_message m))

-- the reply that a check accepts fits
abbrev pub FitsCheck : Schema → ReplyCheck → Type 0
FitsCheck schema (Refused cause) = Unit {0}
FitsCheck schema (Accepted m) = Fits schema m

-- what a check has found is printed, and the reply that it accepts is sent
abbrev pub IsPushed : Schema → Side → Option Values → ReplyCheck → OutputView → NamedAnswer → OutputView → Type 0
IsPushed schema side vs (Refused cause) before given after = IsRefusedWith side cause vs before given after
IsPushed schema side vs (Accepted m) before answer.Sent after = HasReplied (line_at side (line_of_reply (plain_message m))) (frame_packet schema (plain_message m)) before after
IsPushed schema side vs (Accepted m) before (answer.Refused cause) after = ⊥
IsPushed schema side vs (Accepted m) before answer.NoMemory after = HasReserved before after

-- the stack after an answer, whose resolver is used where it was sent
abbrev pub stack_answered : NamedAnswer → ℤ → List StackEntry → List StackEntry
stack_answered answer.Sent seq stack = released seq stack
stack_answered (answer.Refused cause) seq stack = stack
stack_answered answer.NoMemory seq stack = stack

-- and the names
abbrev pub names_answered : NamedAnswer → List ℕ → List Naming → List Naming
names_answered answer.Sent name names = without_name name names
names_answered (answer.Refused cause) name names = names
names_answered answer.NoMemory name names = names
