-- The law Settled: a promise is settled once, by what was sent or by what happened to it.
use Rattle.std.specs.Prelude.{ℤ, Bool, true, false, not, ◌&&◌, if◌then◌else◌, List, [], ◌∷◌, is_some}
use Rattle.std.specs.List.{list_all}
use Rattle.std.specs.Option.{option_map_or}
use Rattle.std.specs.Ordering.{int_eq}
use Rattle.ipdl_base.specs.declared.kinds.Reason.{Reason}
use Rattle.ipdl_base.specs.declared.kinds.Reason.TheVariants as reason
use Rattle.ipdl_base.specs.declared.kinds.Side.{Side}
use Rattle.ipdl_base.specs.declared.schema.ParamRow.{ParamRow}
use Rattle.ipdl_base.specs.declared.schema.Schema.{Schema}
use Rattle.ipdl_base.specs.declared.value.Values.{Values}
use Rattle.ipdl_base.specs.declared.line.Line.{Line}
use Rattle.ipdl_base.specs.declared.line.What.{What}
use Rattle.ipdl_base.specs.declared.line.What.TheVariants as what
use Rattle.ipdl_base.specs.Lines.{same_side}
use Rattle.history_reading.specs.declared.parts.EventKind.{EventKind}
use Rattle.history_reading.specs.declared.parts.EventKind.TheVariants as event
use Rattle.history_reading.specs.EndReading.{EndReading, lives, own_request, is_promise, is_settled_packet}
use Rattle.history_reading.specs.Nulled.{is_nulled, missing}
use Rattle.history_reading.specs.Numbers.{has}
use Rattle.history_reading.specs.SentPacket.{ReplyContent, SentPacket, resolved, rejected, ok, fault, says}
use Rattle.history_reading.specs.Waits.{is_fault, own_returns}

-- a promise that has not been settled
abbrev pub is_unsettled : EndReading → ℤ → Bool
is_unsettled own n = is_promise own n && not (has own.settled n)

-- a reply resolves with these values, in which dead actors are null
abbrev pub is_resolved_with : Schema → EndReading → List ParamRow → Values → ReplyContent → Bool
is_resolved_with schema own types values (resolved vs) = is_nulled schema (lives own) types vs values
is_resolved_with schema own types values rejected = false
is_resolved_with schema own types values (ok vs) = false
is_resolved_with schema own types values (fault q) = false

-- a reply resolves with values in which an actor is missing
abbrev pub is_resolved_missing : Schema → EndReading → List ParamRow → ReplyContent → Bool
is_resolved_missing schema own types (resolved vs) = is_some (missing schema (lives own) types vs)
is_resolved_missing schema own types rejected = false
is_resolved_missing schema own types (ok vs) = false
is_resolved_missing schema own types (fault q) = false

-- a reply is a handler's rejection
abbrev pub is_rejected : ReplyContent → Bool
is_rejected (resolved vs) = false
is_rejected rejected = true
is_rejected (ok vs) = false
is_rejected (fault q) = false

abbrev pub is_close_event : EventKind → Bool
is_close_event event.Closes = true
is_close_event _ = false

abbrev pub is_settle : What → Bool
is_settle (what.Resolved n values) = true
is_settle (what.Rejected n r) = true
is_settle _ = false

-- the fall of an actor
abbrev pub is_fall_of : ℤ → What → Bool
is_fall_of id (what.Fall a why) = int_eq a id
is_fall_of id _ = false

abbrev pub is_fall_at : Side → ℤ → Line → Bool
is_fall_at end id line = same_side line.side end && is_fall_of id line.what

-- of the lines after, the first that settles nothing is the fall of this actor at this end
abbrev pub falls_next : Side → ℤ → List Line → Bool
falls_next end id [] = false
falls_next end id (line ∷ following) = if is_settle line.what then falls_next end id following else is_fall_at end id line

-- the actor of a promise falls next
unfoldable pub promise_falls_next : Side → EndReading → ℤ → List Line → Bool
promise_falls_next end own n following = option_map_or (λ r. falls_next end r.route following) (own_request own n) false

-- the other end reports that an actor was destroyed
unfoldable pub reports_fallen : EndReading → ℤ → Bool
reports_fallen other n = says (is_fault reason.ActorDestroyed) other.sent n

-- it resolves a promise with values in which an actor is missing
unfoldable pub resolves_missing : Schema → EndReading → EndReading → ℤ → Bool
resolves_missing schema own other n = says (is_resolved_missing schema own (own_returns schema own n)) other.sent n

-- one or the other
abbrev pub reports_destroyed : Schema → EndReading → EndReading → ℤ → Bool
reports_destroyed schema own other n = if reports_fallen other n then true else resolves_missing schema own other n

-- a promise may be rejected because an actor was destroyed: the other end reports it, or the promise's own actor falls
-- next
unfoldable pub is_destroyed : Schema → Side → EndReading → EndReading → ℤ → List Line → Bool
is_destroyed schema end own other n following = if reports_destroyed schema own other n then true else promise_falls_next end own n following

-- a rejection has its cause
abbrev pub is_cause : Schema → Side → EndReading → EndReading → ℤ → List Line → Reason → Bool
is_cause schema end own other n following reason.HandlerRejected = says is_rejected other.sent n
is_cause schema end own other n following reason.ResolverDestroyed = says (is_fault reason.ResolverDestroyed) other.sent n
is_cause schema end own other n following reason.ChannelClosed = is_close_event own.event
is_cause schema end own other n following reason.ActorDestroyed = is_destroyed schema end own other n following

-- a promise is settled with values that the other end resolved it with
abbrev pub is_resolved : Schema → EndReading → EndReading → ℤ → Values → Bool
is_resolved schema own other n values = says (is_resolved_with schema own (own_returns schema own n) values) other.sent n

-- a line of an end, after what is read of that end and of the other and before the lines after it, obeys the law
abbrev pub settled_line : Schema → Side → EndReading → EndReading → What → List Line → Bool
settled_line schema end own other (what.Resolved n values) following = is_unsettled own n && is_resolved schema own other n values
settled_line schema end own other (what.Rejected n r) following = is_unsettled own n && is_cause schema end own other n following r
settled_line schema end own other _ following = true

-- each promise is settled
abbrev pub all_settled : List ℤ → List SentPacket → Bool
all_settled settled sent = list_all (is_settled_packet settled) sent

-- an end that has closed has settled each of its promises
abbrev pub settled_moment : EndReading → Bool
settled_moment own = if own.over then all_settled own.settled own.sent else true
