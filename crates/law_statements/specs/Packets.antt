-- What an end has sent and what was delivered to it, as lists made from its lines, in order.
use Rattle.std.specs.Prelude.{ℕ, ◌+◌, ℤ, pos, Bool, true, false, if◌then◌else◌, List, [], count_by, filter_map, Option, Some, None}
use Rattle.std.specs.List.{list_any}
use Rattle.ipdl_base.specs.declared.line.What.{What}
use Rattle.ipdl_base.specs.declared.line.What.TheVariants as what
use Rattle.ipdl_base.specs.declared.schema.Schema.{Schema}
use Rattle.ipdl_base.specs.declared.value.Values.{Values}
use Rattle.history_reading.specs.declared.parts.PacketKind.{PacketKind}
use Rattle.history_reading.specs.declared.parts.PacketKind.TheVariants as seen
use Rattle.history_reading.specs.Rows.{is_constructor, is_sync_number, wants_number}
use Rattle.history_reading.specs.SentPacket.{Request, SentPacket, request, said, goodbye, broken, resolved, rejected, ok, fault}
use Rattle.law_statements.specs.Said.{made_of}

-- whether a line makes an actor: the send or call of a constructor
abbrev pub constructs : Schema → What → Bool
constructs schema (what.Send n route number values) = is_constructor schema number
constructs schema (what.Call n transaction route number values) = is_constructor schema number
constructs schema _ = false

-- the request of a send or call; a constructor makes the next actor of its sender
abbrev pub request_at : Schema → List What → ℤ → ℤ → ℤ → ℕ → Values → Request
request_at schema before n transaction route number values =
    record { seq = n; transaction = transaction; sync = is_sync_number schema number; wants = wants_number schema number; route = route; number = number; made = if is_constructor schema number then count_by (constructs schema) before + 1 else 0; values = values }

-- whether a line is the close of an end, or the delivery of the other end's last packet
abbrev pub is_farewell : What → Bool
is_farewell what.Close = true
is_farewell what.DeliverGoodbye = true
is_farewell what.DeliverBroken = true
is_farewell _ = false

-- the packet that a line sends: a death sends the mark only if there was no such line before
abbrev pub sent_at : Schema → List What → What → Option SentPacket
sent_at schema before (what.Send n route number values) = Some (request (request_at schema before n (pos 0) route number values))
sent_at schema before (what.Call n transaction route number values) = Some (request (request_at schema before n transaction route number values))
sent_at schema before (what.Resolve n values) = Some (said n (resolved values))
sent_at schema before (what.Reject n) = Some (said n rejected)
sent_at schema before (what.AnswerOk n values) = Some (said n (ok values))
sent_at schema before (what.AnswerFault n reason) = Some (said n (fault reason))
sent_at schema before what.Close = Some goodbye
sent_at schema before what.Die = if list_any is_farewell before then None else Some broken
sent_at schema before _ = None

abbrev pub sent : Schema → List What → List SentPacket
sent schema own = made_of (sent_at schema) [] own

-- what the line of a delivery shows
abbrev pub delivery : What → Option PacketKind
delivery (what.DeliverRequest n) = Some (seen.Request n)
delivery (what.DeliverReply n) = Some (seen.Reply n)
delivery what.DeliverGoodbye = Some seen.Goodbye
delivery what.DeliverBroken = Some seen.Broken
delivery _ = None

abbrev pub delivered : List What → List PacketKind
delivered own = filter_map delivery own

-- the numbers of the requests that were taken or dropped
abbrev pub number_gone : What → Option ℤ
number_gone (what.Take n route number values) = Some n
number_gone (what.Drop n route number id) = Some n
number_gone _ = None

abbrev pub gone : List What → List ℤ
gone own = filter_map number_gone own

-- the numbers of the requests that were replaced
abbrev pub number_replaced : What → Option ℤ
number_replaced (what.Replaced n) = Some n
number_replaced _ = None

abbrev pub replaced : List What → List ℤ
replaced own = filter_map number_replaced own

-- the numbers of the requests whose replies were taken
abbrev pub number_of_reply : What → Option ℤ
number_of_reply (what.TakeReply n) = Some n
number_of_reply _ = None

abbrev pub replies : List What → List ℤ
replies own = filter_map number_of_reply own

-- the numbers of the calls that failed
abbrev pub number_failed : What → Option ℤ
number_failed (what.Fails n) = Some n
number_failed _ = None

abbrev pub failed : List What → List ℤ
failed own = filter_map number_failed own

-- the numbers of the promises that were settled
abbrev pub number_settled : What → Option ℤ
number_settled (what.Resolved n values) = Some n
number_settled (what.Rejected n reason) = Some n
number_settled _ = None

abbrev pub settled : List What → List ℤ
settled own = filter_map number_settled own

-- whether an end has closed
abbrev pub is_closing : What → Bool
is_closing what.Close = true
is_closing what.ShutNormal = true
is_closing what.ShutAbnormal = true
is_closing _ = false

abbrev pub has_closed : List What → Bool
has_closed own = list_any is_closing own
