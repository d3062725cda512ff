-- Deliveries of packets.
use Rattle.std.specs.Prelude.{◌+◌, ℤ, false, if◌then◌else◌, List, [], ◌∷◌, ◌++◌, map, filter, Option, Some, None}
use Rattle.std.specs.Option.{option_map_or}
use Rattle.ipdl_base.specs.declared.line.What.TheVariants as what
use Rattle.ipdl_base.specs.declared.kinds.Level.TheVariants.{Not}
use Rattle.ipdl_base.specs.declared.kinds.Reason.TheVariants.{ChannelClosed, ResolverDestroyed}
use Rattle.ipdl_base.specs.declared.message.Body.{Body}
use Rattle.ipdl_base.specs.declared.message.Body.TheVariants.{Request, Reply, Fault, Goodbye}
use Rattle.ipdl_base.specs.declared.message.Message.{Message}
use Rattle.ipdl_base.specs.declared.schema.MessageRow.{MessageRow}
use Rattle.ipdl_base.specs.declared.schema.Schema.{Schema}
use Rattle.ipdl_base.specs.Sound.{message_of}
use Rattle.nesting_core.specs.declared.frame.Answer.{Answer}
use Rattle.nesting_core.specs.declared.frame.Answer.TheVariants as answer
use Rattle.nesting_core.specs.declared.frame.StackFrame.{StackFrame}
use Rattle.nesting_core.specs.declared.frame.StackFrame.TheVariants.{Dispatch, Wait}
use Rattle.nesting_core.specs.Answers.{with_answer}
use Rattle.nesting_core.specs.Frames.{head_of, is_unanswered}
use Rattle.pending_queue.specs.declared.item.Item.{Item}
use Rattle.pending_queue.specs.declared.item.Item.TheVariants as item
use Rattle.pending_queue.specs.Compression.{replaced, staying}
use Rattle.ipdl_base.specs.declared.kinds.EndState.TheVariants.{Draining}
use Rattle.channel_model.specs.Ends.{End, StackEntry, Packet, message, mark}
use Rattle.channel_model.specs.Numbers.{is_sync_row, makes_promise, counting}
use Rattle.channel_model.specs.Outputs.{Change, ◌▷◌, unchanged, when, on_end, line, lines, answered, request_answered}
use Rattle.channel_model.specs.Sends.{frames_of}

-- the stack with its frames replaced by these
abbrev pub with_frames : List StackFrame → List StackEntry → List StackEntry
with_frames [] stack = []
with_frames (frame ∷ frames) [] = []
with_frames (frame ∷ frames) (entry ∷ stack) = record entry { frame = frame } ∷ with_frames frames stack

-- what arrives goes last
abbrev pub arrives : Item → End → End
arrives new e = record e { arrived = e.arrived ++ new ∷ [] }

-- the numbers of the waits that have no answer, innermost first
abbrev pub unanswered : End → List ℤ
unanswered e = map (λ frame. (head_of frame).seq) (filter is_unanswered (frames_of e))

-- a wait that has no answer fails
abbrev pub failed : StackFrame → StackFrame
failed (Dispatch head) = Dispatch head
failed (Wait head None) = Wait head (Some (answer.Fault ChannelClosed))
failed (Wait head (Some a)) = Wait head (Some a)

abbrev pub with_failed_wait : StackEntry → StackEntry
with_failed_wait entry = record entry { frame = failed entry.frame }

-- the other end has closed or died: all waits fail, the outbox is dropped, and the farewell arrives
abbrev pub ended : Item → Change
ended last output =
    (lines (map what.Fails (unanswered output.end))
    ▷ on_end (λ e. record (arrives last e) { state = Draining; outbox = []; stack = map with_failed_wait e.stack })) output

-- a request that a later one replaces
abbrev pub replacing : MessageRow → Option Item → Change
replacing row None = unchanged
replacing row (Some item.Broken) = unchanged
replacing row (Some (item.Message old sync level)) = line (what.Replaced old.seq) ▷ when (makes_promise row) (answered (request_answered old) (answer.Fault ResolverDestroyed))

abbrev pub item_of : MessageRow → Message → Item
item_of row m = item.Message m (is_sync_row row) row.level

-- a request that arrives: it is counted, and put after those that stay
abbrev pub counted : MessageRow → Item → End → End
counted row new e = record e {
  arrived = staying row.compress new e.arrived ++ new ∷ [];
  delivered = e.delivered + 1;
  constructors_delivered = counting row.kind e.constructors_delivered;
}

abbrev pub request_arrives : Message → MessageRow → Change
request_arrives m row output =
    let old : Option Item = replaced row.compress (item_of row m) output.end.arrived in
    (on_end (counted row (item_of row m)) ▷ replacing row old) output

-- the innermost wait without an answer gets one
abbrev pub answers_wait : Answer → End → End
answers_wait a e = record e { stack = with_frames (with_answer a (frames_of e)) e.stack }

-- the reply to a sync request goes to the innermost wait; any other reply arrives
abbrev pub reply_arrives : Message → Answer → MessageRow → Change
reply_arrives m a row = on_end (λ e. if is_sync_row row then answers_wait a e else arrives (item_of row m) e)

-- what is done with a message by its row, or otherwise if it has no row
abbrev pub by_row : Schema → Message → (MessageRow → Change) → Change → Change
by_row schema m change otherwise = option_map_or change (message_of schema m.number) otherwise

abbrev pub body_delivered : Schema → Message → Body → Change
body_delivered schema m (Request vs) = line (what.DeliverRequest m.seq) ▷ by_row schema m (request_arrives m) unchanged
body_delivered schema m (Reply vs) = line (what.DeliverReply m.seq) ▷ by_row schema m (reply_arrives m (answer.Ok vs)) unchanged
body_delivered schema m (Fault reason) = line (what.DeliverReply m.seq) ▷ by_row schema m (reply_arrives m (answer.Fault reason)) unchanged
body_delivered schema m Goodbye = line what.DeliverGoodbye ▷ ended (item.Message m false Not)

-- a packet is delivered
abbrev pub deliver : Schema → Packet → Change
deliver schema (message m) = body_delivered schema m m.body
deliver schema mark = line what.DeliverBroken ▷ ended item.Broken
