-- Handlers that return, calls that continue, and the outbox that is flushed.
use Rattle.std.specs.Prelude.{ℕ, ℤ, Bool, true, false, not, ◌&&◌, ◌||◌, if◌then◌else◌, List, [], ◌∷◌, ◌++◌, drop, length, map, Option, Some, None, is_none, is_some}
use Rattle.ipdl_base.specs.declared.line.What.{What}
use Rattle.ipdl_base.specs.declared.line.What.TheVariants as what
use Rattle.ipdl_base.specs.Signatures.{returns_of_row}
use Rattle.ipdl_base.specs.declared.kinds.Reason.TheVariants.{HandlerRejected}
use Rattle.ipdl_base.specs.declared.message.Body.TheVariants.{Reply}
use Rattle.ipdl_base.specs.declared.message.Message.{Message}
use Rattle.ipdl_base.specs.declared.schema.MessageRow.{MessageRow}
use Rattle.ipdl_base.specs.declared.schema.Schema.{Schema}
use Rattle.ipdl_base.specs.declared.value.Values.{Values}
use Rattle.ipdl_base.specs.declared.value.Values.TheVariants.{Nothing}
use Rattle.nesting_core.specs.declared.frame.Answer.{Answer}
use Rattle.nesting_core.specs.declared.frame.Answer.TheVariants as answer
use Rattle.nesting_core.specs.declared.frame.StackFrame.{StackFrame}
use Rattle.nesting_core.specs.declared.frame.StackFrame.TheVariants.{Dispatch, Wait}
use Rattle.nesting_core.specs.Frames.{head_of}
use Rattle.channel_model.specs.Answers.{resolver_in, have_return_types}
use Rattle.channel_model.specs.Ends.{End, StackEntry, message}
use Rattle.channel_model.specs.Falls.{deletes}
use Rattle.channel_model.specs.Numbers.{is_sync_row}
use Rattle.channel_model.specs.Outputs.{Change, ◌▷◌, when, on_end, line, AnsweredRequest, answered, destroyed, reply_to, is_open}
use Rattle.channel_model.specs.Sends.{is_too_large}
use Rattle.channel_model.specs.ValueActors.{has_dead, received}

-- the frame on top, where it is a dispatch
abbrev pub dispatch_on_top : List StackEntry → Option StackEntry
dispatch_on_top [] = None
dispatch_on_top (entry ∷ below) = elim entry.frame [ Dispatch head ↦ Some entry | Wait head a ↦ None ]

-- what the answer to a dispatch repeats from its request
abbrev pub dispatch_answered : StackEntry → AnsweredRequest
dispatch_answered entry = record { seq = (head_of entry.frame).seq; route = entry.route; number = entry.number; transaction = (head_of entry.frame).transaction }

-- whether a handler may return these values, or no values: only a sync message with returns has values
abbrev pub may_return : Schema → MessageRow → Option Values → Bool
may_return schema row vs = is_none vs || (is_sync_row row && (is_some row.returns && have_return_types schema row vs))

-- whether values are not sent back: they are too large, or contain a dead actor
abbrev pub is_bad_return : Schema → End → MessageRow → StackEntry → Values → Bool
is_bad_return schema e row entry vs = is_too_large schema (reply_to (dispatch_answered entry) (Reply vs)) || has_dead schema e.actors (returns_of_row row) vs

abbrev pub given_answer : Schema → End → MessageRow → StackEntry → Option Values → Answer
given_answer schema e row entry None = answer.Fault HandlerRejected
given_answer schema e row entry (Some vs) = if is_bad_return schema e row entry vs then answer.Fault HandlerRejected else answer.Ok vs

-- the answer to a sync request whose handler returns with these values, or without values
abbrev pub return_answer : Schema → End → MessageRow → StackEntry → Option Values → Answer
return_answer schema e row entry vs = if is_none row.returns then answer.Ok Nothing else given_answer schema e row entry vs

-- the frame on top is removed
abbrev pub popped : Change
popped = on_end (λ e. record e { stack = drop 1 e.stack })

-- a handler returns
abbrev pub return : Schema → End → MessageRow → StackEntry → Option Values → Change
return schema e row entry vs =
    popped
    ▷ line (what.Return (head_of entry.frame).seq)
    ▷ when (is_sync_row row) (answered (dispatch_answered entry) (return_answer schema e row entry vs))
    ▷ when entry.resolves (destroyed (resolver_in entry))
    ▷ deletes entry.route row.kind

-- A wait that has its answer: its number, the number of its message, and the answer.
pub record AnsweredWait : Type 0 where
  pub seq : ℤ
  pub number : ℕ
  pub given : Answer

abbrev pub answered_wait_of : ℕ → StackFrame → Option AnsweredWait
answered_wait_of number (Dispatch head) = None
answered_wait_of number (Wait head None) = None
answered_wait_of number (Wait head (Some a)) = Some (record { seq = head.seq; number = number; given = a })

-- the frame on top, where it is a wait that has its answer
abbrev pub answered_wait_on_top : List StackEntry → Option AnsweredWait
answered_wait_on_top [] = None
answered_wait_on_top (entry ∷ below) = answered_wait_of entry.number entry.frame

abbrev pub resume_line : ℤ → Answer → What
resume_line seq (answer.Ok vs) = what.ResumeOk seq vs
resume_line seq (answer.Fault reason) = what.ResumeFault seq reason

-- a call continues with its answer
abbrev pub resume : Schema → End → AnsweredWait → MessageRow → Change
resume schema e wait row = popped ▷ line (resume_line wait.seq (received schema e.actors row wait.given))

abbrev pub is_empty : List Message → Bool
is_empty [] = true
is_empty (m ∷ ms) = false

abbrev pub may_flush : End → Bool
may_flush e = is_open e.state && not (is_empty e.outbox)

-- the outbox goes onto the link
abbrev pub flush : Change
flush output =
    line (what.Flush (length output.end.outbox))
    (record output { end = record output.end { outbox = [] }; packets = output.packets ++ map message output.end.outbox })
