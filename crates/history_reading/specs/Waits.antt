-- The law Waits: waits end in order and by what was sent, and two waits never block each other.
use Rattle.std.specs.Prelude.{ℤ, Bool, true, false, not, ◌&&◌, ◌||◌, if◌then◌else◌, List, [], is_some}
use Rattle.std.specs.Option.{option_map_or}
use Rattle.ipdl_base.specs.declared.kinds.Reason.{Reason}
use Rattle.ipdl_base.specs.declared.kinds.Reason.TheVariants as reason
use Rattle.ipdl_base.specs.declared.kinds.Side.{Side}
use Rattle.ipdl_base.specs.declared.kinds.Side.TheVariants as side
use Rattle.ipdl_base.specs.declared.schema.ParamRow.{ParamRow}
use Rattle.ipdl_base.specs.declared.schema.Schema.{Schema}
use Rattle.ipdl_base.specs.declared.value.Values.{Values}
use Rattle.ipdl_base.specs.declared.line.What.{What}
use Rattle.ipdl_base.specs.declared.line.What.TheVariants as what
use Rattle.history_reading.specs.declared.parts.EventKind.{EventKind}
use Rattle.history_reading.specs.declared.parts.EventKind.TheVariants as event
use Rattle.history_reading.specs.EndReading.{EndReading, lives, own_request, awaits, has_unanswered, is_sync_request}
use Rattle.history_reading.specs.Nulled.{is_nulled, missing}
use Rattle.history_reading.specs.Numbers.{has}
use Rattle.history_reading.specs.Reading.{Reading}
use Rattle.ipdl_base.specs.Signatures.{returns_of}
use Rattle.history_reading.specs.Still.{awaited_head, defers_head, is_still}
use Rattle.history_reading.specs.SentPacket.{ReplyContent, resolved, rejected, ok, fault, says}

-- the returns of an end's request of a number
abbrev pub own_returns : Schema → EndReading → ℤ → List ParamRow
own_returns schema own n = option_map_or (λ r. returns_of schema r.number) (own_request own n) []

abbrev pub same_reason : Reason → Reason → Bool
same_reason reason.ChannelClosed reason.ChannelClosed = true
same_reason reason.HandlerRejected reason.HandlerRejected = true
same_reason reason.ActorDestroyed reason.ActorDestroyed = true
same_reason reason.ResolverDestroyed reason.ResolverDestroyed = true
same_reason _ _ = false

-- a reply is a fault
abbrev pub is_fault : Reason → ReplyContent → Bool
is_fault r (resolved vs) = false
is_fault r rejected = false
is_fault r (ok vs) = false
is_fault r (fault q) = same_reason q r

-- a reply answers a call with these values, in which dead actors are null
abbrev pub is_ok_with : Schema → EndReading → List ParamRow → Values → ReplyContent → Bool
is_ok_with schema own types values (resolved vs) = false
is_ok_with schema own types values rejected = false
is_ok_with schema own types values (ok vs) = is_nulled schema (lives own) types vs values
is_ok_with schema own types values (fault q) = false

-- a reply answers a call with values in which an actor is missing
abbrev pub is_ok_missing : Schema → EndReading → List ParamRow → ReplyContent → Bool
is_ok_missing schema own types (resolved vs) = false
is_ok_missing schema own types rejected = false
is_ok_missing schema own types (ok vs) = is_some (missing schema (lives own) types vs)
is_ok_missing schema own types (fault q) = false

-- a fault comes without a reply that states it: the channel ended under the call, or an actor is missing
abbrev pub is_own_fault : Schema → EndReading → EndReading → ℤ → Reason → Bool
is_own_fault schema own other n reason.ChannelClosed = has own.failed n
is_own_fault schema own other n reason.ActorDestroyed = says (is_ok_missing schema own (own_returns schema own n)) other.sent n
is_own_fault schema own other n reason.HandlerRejected = false
is_own_fault schema own other n reason.ResolverDestroyed = false

-- a call resumes with values that the other end answered, or with a fault that it sent or that came without a reply
abbrev pub is_answered : Schema → EndReading → EndReading → ℤ → Values → Bool
is_answered schema own other n values = says (is_ok_with schema own (own_returns schema own n) values) other.sent n

abbrev pub is_failed : Schema → EndReading → EndReading → ℤ → Reason → Bool
is_failed schema own other n r = if says (is_fault r) other.sent n then true else is_own_fault schema own other n r

-- an event in which the end of the other end is delivered
abbrev pub is_end_event : EventKind → Bool
is_end_event event.Ends = true
is_end_event _ = false

-- the reply to a sync request finds its wait innermost
abbrev pub is_reply_in_order : EndReading → ℤ → Bool
is_reply_in_order own n = if is_sync_request own n then awaits own.stack n else true

-- a line of an end, after what is read of that end and of the other, obeys the law
abbrev pub waits_line : Schema → EndReading → EndReading → What → Bool
waits_line schema own other (what.DeliverReply n) = is_reply_in_order own n
waits_line schema own other (what.Fails n) = awaits own.stack n && is_end_event own.event
waits_line schema own other (what.ResumeOk n values) = is_answered schema own other n values
waits_line schema own other (what.ResumeFault n r) = is_failed schema own other n r
waits_line schema own other _ = true

-- the head of the call on top whose answer has not come is deferred by the other end, which waits too
abbrev pub blocks : Schema → Side → EndReading → EndReading → Bool
blocks schema end own other = defers_head schema end own other (awaited_head schema other.stack)

-- both ends wait, and each defers what the other waits for
abbrev pub block_each_other : Schema → EndReading → EndReading → Bool
block_each_other schema parent child = blocks schema side.Parent parent child && blocks schema side.Child child parent

-- an end to which the end of the other was delivered in its last event waits for nothing
abbrev pub waits_after_end : EndReading → Bool
waits_after_end own = is_end_event own.event && has_unanswered own.stack

abbrev pub some_waits_after_end : Reading → Bool
some_waits_after_end reading = waits_after_end reading.parent || waits_after_end reading.child

-- some end waits, and does so where nothing but acts is possible
abbrev pub some_waits : Reading → Bool
some_waits reading = has_unanswered reading.parent.stack || has_unanswered reading.child.stack

abbrev pub waits_while_still : Schema → Reading → Bool
waits_while_still schema reading = some_waits reading && is_still schema reading

-- what is read at a moment obeys the law
abbrev pub waits_moment : Schema → Reading → Bool
waits_moment schema reading =
    if block_each_other schema reading.parent reading.child then false else
    (if some_waits_after_end reading then false else not (waits_while_still schema reading))
