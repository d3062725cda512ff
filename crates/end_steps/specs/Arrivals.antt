-- What arrives at an end, and what it changes.
use Rattle.std.specs.Prelude.{◌≡◌, ◌-◌, ◌+◌, ◌<◌, ◌≤◌, true, if◌then◌else◌, List, [], ◌∷◌, ◌++◌, map, length, Option, Some, None}
use Rattle.ipdl_base.specs.declared.kinds.Reason.TheVariants.{ResolverDestroyed}
use Rattle.ipdl_base.specs.declared.kinds.Side.{Side}
use Rattle.ipdl_base.specs.declared.line.What.{What}
use Rattle.ipdl_base.specs.declared.line.What.TheVariants as what
use Rattle.ipdl_base.specs.declared.message.Body.{Body}
use Rattle.ipdl_base.specs.declared.message.Body.TheVariants.{Request, Reply, Fault, Goodbye}
use Rattle.ipdl_base.specs.declared.message.Message.{Message}
use Rattle.ipdl_base.specs.declared.schema.MessageRow.{MessageRow}
use Rattle.ipdl_base.specs.declared.schema.Schema.{Schema}
use Rattle.nesting_core.specs.declared.frame.Answer.{Answer}
use Rattle.nesting_core.specs.declared.frame.Answer.TheVariants as answer
use Rattle.nesting_core.specs.Answers.{with_answer}
use Rattle.pending_queue.specs.declared.item.Item.{Item}
use Rattle.pending_queue.specs.declared.item.Item.TheVariants as item
use Rattle.pending_queue.specs.Compression.{replaced, staying}
use Rattle.value_codec.specs.Spelling.{FrameOf, frame_bytes}
use Rattle.value_types.specs.Fits.{Fits}
use Rattle.value_types.specs.declared.layout.TheConstants.{NEW}
use Rattle.channel_model.specs.Deliveries.{item_of, with_failed_wait, with_frames}
use Rattle.channel_model.specs.Ends.{StackEntry}
use Rattle.channel_model.specs.Numbers.{makes_promise}
use Rattle.channel_model.specs.Outputs.{AnsweredRequest, line_at, reply_to, request_answered}
use Rattle.end_steps.specs.FailedWaits.{unanswered_in}
use Rattle.end_parts.specs.OutputView.{OutputView, with_line, with_packet, without_outbox}
use Rattle.end_parts.specs.StackDetails.{frames_in}
use Rattle.end_parts.specs.declared.packet.Packet.{Packet}
use Rattle.end_parts.specs.declared.packet.Packet.TheVariants.{Bytes}

-- the answer that a reply gives
abbrev pub reply_answer : Body → Option Answer
reply_answer (Request vs) = None
reply_answer (Reply vs) = Some (answer.Ok vs)
reply_answer (Fault reason) = Some (answer.Fault reason)
reply_answer Goodbye = None

-- what the answer to a request repeats that makes way for another, if any does
abbrev pub replaced_request : Option Item → Option AnsweredRequest
replaced_request None = None
replaced_request (Some item.Broken) = None
replaced_request (Some (item.Message m sync level)) = Some (request_answered m)

-- There is no less room than before, and nothing else is different.
pub record KeepsRoom (out out' : OutputView) : Type 0 where
  pub same : out' ≡ record out { line_spare = out'.line_spare; packet_spare = out'.packet_spare }
  pub lines : out.line_spare ≤ out'.line_spare
  pub packets : out.packet_spare ≤ out'.packet_spare

-- as many lines are owed no more as wait in the outbox
abbrev pub with_outbox_paid : OutputView → OutputView
with_outbox_paid out = record out { lines_owed = out.lines_owed - length out.outbox }

-- a request has made way, with its answer if it gets one
abbrev pub with_replaced : Side → Option AnsweredRequest → Option Packet → OutputView → OutputView
with_replaced side None answer out = out
with_replaced side (Some q) None out = with_line out (line_at side (what.Replaced q.seq))
with_replaced side (Some q) (Some answer) out =
    with_packet (with_line (with_line (with_outbox_paid out) (line_at side (what.Replaced q.seq))) (line_at side (what.AnswerFault q.seq ResolverDestroyed))) answer

-- the packet of the answer to a request that makes way, if it has a promise
abbrev pub replaced_answer : Schema → MessageRow → Option AnsweredRequest → Option Packet
replaced_answer schema row None = None
replaced_answer schema row (Some q) = if makes_promise row then Some (Bytes (frame_bytes NEW schema (reply_to q (Fault ResolverDestroyed)))) else None

-- that answer fits, if it is given
abbrev pub MayAnswerReplaced : Schema → MessageRow → Option AnsweredRequest → Type 0
MayAnswerReplaced schema row None = Unit {0}
MayAnswerReplaced schema row (Some q) = makes_promise row ≡ true → (q.number < 4294967295) × Fits schema (reply_to q (Fault ResolverDestroyed))

-- that answer has a frame, if it is given
abbrev pub IsReplacedFramed : Schema → MessageRow → Option AnsweredRequest → Type 0
IsReplacedFramed schema row None = Unit {0}
IsReplacedFramed schema row (Some q) = makes_promise row ≡ true → FrameOf NEW schema (reply_to q (Fault ResolverDestroyed)) (frame_bytes NEW schema (reply_to q (Fault ResolverDestroyed)))

-- A request goes after what has arrived, in place of one that it replaces and that is answered. Room was made for its
-- lines and its packet.
pub record HasReceivedRequest (schema : Schema) (side : Side) (row : MessageRow) (m : Message) (items : List Item) (out : OutputView) (items' : List Item) (out' : OutputView) : Type 0 where
  pub roomy : OutputView
  pub keeps : KeepsRoom out roomy
  pub lines : out.lines_owed + 3 ≤ roomy.line_spare
  pub packets : length out.frames + 1 + 1 ≤ roomy.packet_spare
  pub request : Option AnsweredRequest
  pub makes_way : request ≡ replaced_request (replaced row.compress (item_of row m) items)
  pub framed : IsReplacedFramed schema row request
  pub arrived : items' ≡ staying row.compress (item_of row m) items ++ item_of row m ∷ []
  pub said : out' ≡ with_replaced side request (replaced_answer schema row request) (with_line roomy (line_at side (what.DeliverRequest m.seq)))

-- A reply goes after what has arrived. Room was made for its line.
pub record HasReceivedReply (side : Side) (row : MessageRow) (m : Message) (items : List Item) (out : OutputView) (items' : List Item) (out' : OutputView) : Type 0 where
  pub roomy : OutputView
  pub keeps : KeepsRoom out roomy
  pub lines : out.lines_owed + 1 ≤ roomy.line_spare
  pub arrived : items' ≡ items ++ item_of row m ∷ []
  pub said : out' ≡ with_line roomy (line_at side (what.DeliverReply m.seq))

-- The reply to a sync request goes into the innermost wait, and its line is one of those that the wait owed.
pub record HasAnswered (side : Side) (m : Message) (stack : List StackEntry) (out : OutputView) (stack' : List StackEntry) (out' : OutputView) : Type 0 where
  pub given : Answer
  pub gives : reply_answer m.body ≡ Some given
  pub answered : stack' ≡ with_frames (with_answer given (frames_in stack)) stack
  pub said : out' ≡ record (with_line out (line_at side (what.DeliverReply m.seq))) { lines_owed = out.lines_owed - 1 }

-- All waits fail and the outbox is dropped, after the line of what has arrived; none of these lines is owed any more.
pub record HasEnded (side : Side) (said : What) (stack : List StackEntry) (out : OutputView) (stack' : List StackEntry) (out' : OutputView) : Type 0 where
  pub failed : stack' ≡ map with_failed_wait stack
  pub says : out' ≡ record (without_outbox out) {
    lines = out.lines ++ line_at side said ∷ map (line_at side) (map what.Fails (unanswered_in stack));
    line_spare = out'.line_spare;
    lines_owed = out.lines_owed - (1 + length (unanswered_in stack) + length out.outbox);
  }
  pub spare : out'.line_spare + (1 + length (unanswered_in stack)) ≡ out.line_spare
