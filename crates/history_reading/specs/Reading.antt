-- What is read from lines: a fold over the lines of each end.
use Rattle.std.specs.Prelude.{ℕ, ◌+◌, ℤ, pos, Bool, true, false, not, if◌then◌else◌, List, [], ◌∷◌, ◌++◌, length, position, unwrap_or, fold, find, remove, Option, Some, None, option_map}
use Rattle.std.specs.List.{list_any}
use Rattle.std.specs.Option.{option_map_or}
use Rattle.std.specs.Ordering.{int_eq}
use Rattle.ipdl_base.specs.declared.kinds.Destroy.TheVariants.{NormalShutdown, AbnormalShutdown}
use Rattle.ipdl_base.specs.declared.kinds.Destroy.{Destroy}
use Rattle.ipdl_base.specs.declared.kinds.Side.{Side}
use Rattle.ipdl_base.specs.declared.kinds.Side.TheVariants as side
use Rattle.ipdl_base.specs.declared.schema.Schema.{Schema}
use Rattle.ipdl_base.specs.declared.value.Values.{Values}
use Rattle.ipdl_base.specs.declared.line.Line.{Line}
use Rattle.ipdl_base.specs.declared.line.What.{What}
use Rattle.ipdl_base.specs.declared.line.What.TheVariants as what
use Rattle.ipdl_base.specs.Lines.{is_effect}
use Rattle.history_reading.specs.declared.parts.BuiltActor.{BuiltActor}
use Rattle.history_reading.specs.declared.parts.Call.{Call}
use Rattle.history_reading.specs.declared.parts.Cause.{Cause}
use Rattle.history_reading.specs.declared.parts.Cause.TheVariants as cause
use Rattle.history_reading.specs.declared.parts.EventKind.{EventKind}
use Rattle.history_reading.specs.declared.parts.EventKind.TheVariants as event
use Rattle.history_reading.specs.declared.parts.CallFrame.{CallFrame}
use Rattle.history_reading.specs.declared.parts.CallFrame.TheVariants as frame
use Rattle.history_reading.specs.declared.parts.PacketKind.{PacketKind}
use Rattle.history_reading.specs.declared.parts.PacketKind.TheVariants as seen
use Rattle.history_reading.specs.declared.parts.ActorPlace.{ActorPlace}
use Rattle.ipdl_base.specs.declared.kinds.EndState.{EndState}
use Rattle.ipdl_base.specs.declared.kinds.EndState.TheVariants as state
use Rattle.history_reading.specs.EndReading.{EndReading, opening, is_sync_request, is_wait_for}
use Rattle.history_reading.specs.Numbers.{same_packet}
use Rattle.history_reading.specs.Rows.{is_sync_number, wants_number, is_constructor, delete_cause}
use Rattle.history_reading.specs.SentPacket as told
use Rattle.history_reading.specs.SentPacket.{SentPacket, Request, ReplyContent, requests_of}

-- an event begins: nobody has fallen in it
abbrev pub begun : EventKind → Cause → EndReading → EndReading
begun event cause own = record own { event = event; cause = cause; falls = [] }

-- an event in which nobody falls
abbrev pub quiet : EndReading → EndReading
quiet own = begun event.Other cause.Nobody own

-- a packet goes last in what was sent
abbrev pub telling : SentPacket → EndReading → EndReading
telling packet own = record own { sent = own.sent ++ packet ∷ [] }

-- a frame is pushed
abbrev pub pushing : CallFrame → EndReading → EndReading
pushing top own = record own { stack = top ∷ own.stack }

-- the number of actors that an end has constructed after one more request
abbrev pub made_after : Schema → ℕ → ℕ → ℕ
made_after schema number made = if is_constructor schema number then made + 1 else made

abbrev pub request_after : Schema → ℤ → ℤ → ℤ → ℕ → Values → EndReading → Request
request_after schema n transaction route number values own =
    record { seq = n; transaction = transaction; sync = is_sync_number schema number; wants = wants_number schema number; route = route; number = number; made = if is_constructor schema number then own.made + 1 else 0; values = values }

-- a request is sent
abbrev pub sending : Schema → ℤ → ℤ → ℤ → ℕ → Values → EndReading → EndReading
sending schema n transaction route number values own = record (telling (told.request (request_after schema n transaction route number values own)) own) { made = made_after schema number own.made }

-- a packet is delivered, and one that arrives is there until it leaves
abbrev pub delivering : PacketKind → EndReading → EndReading
delivering packet own = record own { delivered = own.delivered ++ packet ∷ [] }

abbrev pub arriving : PacketKind → EndReading → EndReading
arriving packet own = record own { delivered = own.delivered ++ packet ∷ []; arrived = own.arrived ++ packet ∷ [] }

-- the first that shows the packet leaves
unfoldable pub without_first : PacketKind → List PacketKind → List PacketKind
without_first packet packets = option_map_or (remove packets) (position (λ p. same_packet p packet) packets) packets

abbrev pub leaving : PacketKind → EndReading → EndReading
leaving packet own = record own { arrived = without_first packet own.arrived }

-- a wait with its answer
abbrev pub answered_frame : CallFrame → CallFrame
answered_frame (frame.Dispatch d) = frame.Dispatch d
answered_frame (frame.Unanswered c) = frame.Answered c
answered_frame (frame.Answered c) = frame.Answered c

-- the innermost unanswered wait of a number is answered
abbrev pub answered : ℤ → List CallFrame → List CallFrame
answered n [] = []
answered n (top ∷ below) = if is_wait_for n top then answered_frame top ∷ below else top ∷ answered n below

abbrev pub answering : ℤ → EndReading → EndReading
answering n own = record own { stack = answered n own.stack }

-- a reply arrives: that to a sync request answers its wait
abbrev pub replying : ℤ → EndReading → EndReading
replying n own = if is_sync_request own n then answering n (delivering (seen.Reply n) own) else arriving (seen.Reply n) own

-- the end of the channel arrives
abbrev pub draining : PacketKind → EndReading → EndReading
draining packet own = record (arriving packet own) { state = state.Draining; ended = true }

-- a request leaves the arrived ones for good
abbrev pub going : ℤ → EndReading → EndReading
going n own = record (leaving (seen.Request n) own) { gone = own.gone ++ n ∷ [] }

-- the end closes
abbrev pub closing : Destroy → EndReading → EndReading
closing why own = record (begun event.Closes (cause.Closing why) own) { state = state.Closed; over = true; arrived = [] }

-- and does so by its own act: it sends the goodbye
abbrev pub closing_by_act : EndReading → EndReading
closing_by_act own = record (closing NormalShutdown (telling told.goodbye own)) { ended = true }

-- the end dies, and the mark of that is sent where no end was
abbrev pub dying : EndReading → EndReading
dying own = record (quiet own) { state = state.Dead; stack = []; arrived = []; sent = if own.ended then own.sent else own.sent ++ told.broken ∷ [] }

-- the frames below the top one, and why actors fall when that comes off
abbrev pub below_top : List CallFrame → List CallFrame
below_top [] = []
below_top (top ∷ below) = below

abbrev pub return_cause : Schema → List CallFrame → Cause
return_cause schema (frame.Dispatch d ∷ below) = delete_cause schema d.number d.route
return_cause schema _ = cause.Nobody

abbrev pub popping : Cause → EndReading → EndReading
popping cause own = record (begun event.Other cause own) { stack = below_top own.stack }

-- the actor of an event: that to which a request goes or at which it is handled
abbrev pub route_of : EventKind → ℤ
route_of (event.Sends n route) = route
route_of (event.Takes n route) = route
route_of event.Ends = pos 0
route_of event.Closes = pos 0
route_of event.Other = pos 0

abbrev pub building : ℤ → EndReading → EndReading
building id own = record own { built = own.built ++ record { id = id; manager = route_of own.event } ∷ [] }

-- the manager of an actor, 0 where it was not built
abbrev pub manager_of : List BuiltActor → ℤ → ℤ
manager_of built id = unwrap_or (option_map (λ a. a.manager) (find (λ a. int_eq a.id id) built)) (pos 0)

-- the place of an actor among those that were built
unfoldable pub actor_place : List BuiltActor → ℤ → ActorPlace
actor_place built id = record { place = unwrap_or (position (λ a. int_eq a.id id) built) (length built); manager = manager_of built id }

abbrev pub falling : ℤ → EndReading → EndReading
falling id own = record own { fallen = own.fallen ++ id ∷ []; falls = own.falls ++ actor_place own.built id ∷ [] }

-- a reply is taken, a request is replaced, a call fails, a promise is settled
abbrev pub taking_reply : ℤ → EndReading → EndReading
taking_reply n own = quiet (record (leaving (seen.Reply n) own) { replies = own.replies ++ n ∷ [] })

abbrev pub replacing : ℤ → EndReading → EndReading
replacing n own = record (leaving (seen.Request n) own) { replaced = own.replaced ++ n ∷ [] }

abbrev pub failing : ℤ → EndReading → EndReading
failing n own = record (answering n own) { failed = own.failed ++ n ∷ [] }

abbrev pub settling : ℤ → EndReading → EndReading
settling n own = record own { settled = own.settled ++ n ∷ [] }

-- What is read of an end after one more line of it, which is at a place in the history.
abbrev pub after_what : Schema → ℕ → What → EndReading → EndReading
after_what schema place (what.Send n route number values) own = begun (event.Sends n route) (delete_cause schema number route) (sending schema n (pos 0) route number values own)
after_what schema place (what.Call n transaction route number values) own =
    begun (event.Sends n route) cause.Nobody (pushing (frame.Unanswered (record { seq = n; transaction = transaction; number = number; place = place })) (sending schema n transaction route number values own))
after_what schema place (what.RefusedSend refusal number) own = quiet own
after_what schema place (what.RefusedClose refusal) own = quiet own
after_what schema place (what.RefusedResolve refusal) own = quiet own
after_what schema place (what.RefusedReject refusal) own = quiet own
after_what schema place (what.Resolve n values) own = quiet (telling (told.said n (told.resolved values)) own)
after_what schema place (what.Reject n) own = quiet (telling (told.said n told.rejected) own)
after_what schema place (what.Keep n name) own = quiet own
after_what schema place (what.Let name id) own = quiet own
after_what schema place what.Close own = closing_by_act own
after_what schema place what.Die own = dying own
after_what schema place (what.DeliverRequest n) own = quiet (arriving (seen.Request n) own)
after_what schema place (what.DeliverReply n) own = quiet (replying n own)
after_what schema place what.DeliverGoodbye own = begun event.Ends cause.Nobody (draining seen.Goodbye own)
after_what schema place what.DeliverBroken own = begun event.Ends cause.Nobody (draining seen.Broken own)
after_what schema place (what.Take n route number values) own =
    begun (event.Takes n route) cause.Nobody (pushing (frame.Dispatch (record { seq = n; route = route; number = number })) (going n own))
after_what schema place (what.Drop n route number id) own = quiet (going n own)
after_what schema place (what.TakeReply n) own = taking_reply n own
after_what schema place what.ShutNormal own = closing NormalShutdown own
after_what schema place what.ShutAbnormal own = closing AbnormalShutdown own
after_what schema place (what.Return n) own = popping (return_cause schema own.stack) own
after_what schema place (what.ResumeOk n values) own = popping cause.Nobody own
after_what schema place (what.ResumeFault n reason) own = popping cause.Nobody own
after_what schema place (what.Flush count) own = quiet own
after_what schema place (what.Built id protocol) own = building id own
after_what schema place (what.Replaced n) own = replacing n own
after_what schema place (what.AnswerOk n values) own = telling (told.said n (told.ok values)) own
after_what schema place (what.AnswerFault n reason) own = telling (told.said n (told.fault reason)) own
after_what schema place (what.Fails n) own = failing n own
after_what schema place (what.Resolved n values) own = settling n own
after_what schema place (what.Rejected n reason) own = settling n own
after_what schema place (what.Fall id destroy) own = falling id own

-- What is read of both ends, the end of the last event, and the number of lines.
pub record Reading : Type 0 where
  pub parent : EndReading
  pub child : EndReading
  pub last : Option Side
  pub lines : ℕ

abbrev pub opening_reading : Reading
opening_reading = record { parent = opening; child = opening; last = None; lines = 0 }

-- What is read of an end, and that of the other
abbrev pub end_reading_of : Side → Reading → EndReading
end_reading_of side.Parent reading = reading.parent
end_reading_of side.Child reading = reading.child

abbrev pub other_of : Side → Reading → EndReading
other_of side.Parent reading = reading.child
other_of side.Child reading = reading.parent

-- the end of the last event, where this is a line of an end
abbrev pub last_after : What → Side → Option Side → Option Side
last_after said end before = if is_effect said then before else Some end

-- the reading after one more line
abbrev pub after_at : Schema → Side → What → Reading → Reading
after_at schema side.Parent said reading =
    record { parent = after_what schema reading.lines said reading.parent; child = reading.child; last = last_after said side.Parent reading.last; lines = reading.lines + 1 }
after_at schema side.Child said reading =
    record { parent = reading.parent; child = after_what schema reading.lines said reading.child; last = last_after said side.Child reading.last; lines = reading.lines + 1 }

abbrev pub after : Schema → Reading → Line → Reading
after schema reading line = after_at schema line.side line.what reading

-- the reading of lines
abbrev pub read : Schema → List Line → Reading
read schema lines = fold (after schema) opening_reading lines
