-- What an end defers, and whether nothing but acts is possible, as far as lines show.
use Rattle.std.specs.Prelude.{ℕ, ℤ, Bool, true, false, not, ◌&&◌, ◌==◌, nat_lt, if◌then◌else◌, List, [], ◌∷◌, length, Option, Some, None, option_map, option_and_then}
use Rattle.std.specs.List.{list_any}
use Rattle.std.specs.Option.{option_map_or}
use Rattle.ipdl_base.specs.declared.kinds.Level.{Level}
use Rattle.ipdl_base.specs.declared.kinds.Level.TheVariants.{InsideSync}
use Rattle.ipdl_base.specs.declared.kinds.Side.{Side}
use Rattle.ipdl_base.specs.declared.kinds.Side.TheVariants as side
use Rattle.ipdl_base.specs.declared.schema.MessageRow.{MessageRow}
use Rattle.ipdl_base.specs.declared.schema.Schema.{Schema}
use Rattle.ipdl_base.specs.Deferral.{rank, Arrival, request, reply, goodbye, mark, defers_arrival}
use Rattle.ipdl_base.specs.Sound.{is_sync, message_of}
use Rattle.nesting_core.specs.declared.frame.Head.{Head}
use Rattle.history_reading.specs.declared.parts.Call.{Call}
use Rattle.history_reading.specs.declared.parts.CallFrame.{CallFrame}
use Rattle.history_reading.specs.declared.parts.CallFrame.TheVariants as frame
use Rattle.history_reading.specs.declared.parts.PacketKind.{PacketKind}
use Rattle.history_reading.specs.declared.parts.PacketKind.TheVariants as seen
use Rattle.ipdl_base.specs.declared.kinds.EndState.{EndState}
use Rattle.ipdl_base.specs.declared.kinds.EndState.TheVariants as state
use Rattle.history_reading.specs.EndReading.{EndReading, own_request}
use Rattle.history_reading.specs.Reading.{Reading}

-- the head of a message with a number and a transaction; none where there is no such message
abbrev pub head_of_row : ℤ → ℤ → MessageRow → Head
head_of_row seq transaction row = record { sync = is_sync row.semantics; level = row.level; seq = seq; transaction = transaction }

abbrev pub head_of : Schema → ℕ → ℤ → ℤ → Option Head
head_of schema number seq transaction = option_map (head_of_row seq transaction) (message_of schema number)

-- the head of a call, by its line
abbrev pub call_head : Schema → Call → Option Head
call_head schema call = head_of schema call.number call.seq call.transaction

-- the head of a request that the other end has sent
abbrev pub request_head : Schema → EndReading → ℤ → Option Head
request_head schema other n = option_and_then (λ r. head_of schema r.number n r.transaction) (own_request other n)

-- the head of a frame: that of a wait by its own line, that of a dispatch by the request of the other end
abbrev pub frame_head : Schema → EndReading → CallFrame → Option Head
frame_head schema other (frame.Dispatch d) = request_head schema other d.seq
frame_head schema other (frame.Unanswered c) = call_head schema c
frame_head schema other (frame.Answered c) = call_head schema c

-- the transaction of a frame of a sync message of level inside_sync
abbrev pub inner_of_head : Head → Option ℤ
inner_of_head head = if head.sync && (rank head.level == rank InsideSync) then Some head.transaction else None

abbrev pub frame_inner : Schema → EndReading → CallFrame → Option ℤ
frame_inner schema other f = option_and_then inner_of_head (frame_head schema other f)

-- that of the innermost such frame
abbrev pub inner_transaction : Schema → EndReading → List CallFrame → Option ℤ
inner_transaction schema other [] = None
inner_transaction schema other (top ∷ below) = option_map_or Some (frame_inner schema other top) (inner_transaction schema other below)

-- the call on top whose answer has not come
abbrev pub awaited_call : List CallFrame → Option Call
awaited_call (frame.Unanswered c ∷ below) = Some c
awaited_call _ = None

-- its head, and its level
abbrev pub awaited_head : Schema → List CallFrame → Option Head
awaited_head schema stack = option_and_then (call_head schema) (awaited_call stack)

abbrev pub awaited_level : Schema → List CallFrame → Option Level
awaited_level schema stack = option_map (λ head. head.level) (awaited_head schema stack)

-- what decides deferral at an end: its side, the level of the call whose answer it awaits, and its inner transaction
pub record DeferralState : Type 0 where
  pub side : Side
  pub level : Option Level
  pub inner : Option ℤ

abbrev pub deferral_of : Schema → Side → EndReading → EndReading → DeferralState
deferral_of schema end own other = record { side = end; level = awaited_level schema own.stack; inner = inner_transaction schema other own.stack }

-- what is deferred of what arrives; a request whose head is not known is not
abbrev pub defers : DeferralState → Arrival → Bool
defers d arrival = defers_arrival d.side d.level d.inner arrival

abbrev pub defers_request_head : DeferralState → Option Head → Bool
defers_request_head d None = false
defers_request_head d (Some head) = defers d (request head.sync head.level head.transaction)

abbrev pub defers_head : Schema → Side → EndReading → EndReading → Option Head → Bool
defers_head schema end own other head = defers_request_head (deferral_of schema end own other) head

-- and of the packets that have arrived: a request that the other end has not sent is not
abbrev pub defers_packet : Schema → EndReading → DeferralState → PacketKind → Bool
defers_packet schema other d (seen.Request n) = defers_request_head d (request_head schema other n)
defers_packet schema other d (seen.Reply n) = defers d (reply false)
defers_packet schema other d seen.Goodbye = defers d goodbye
defers_packet schema other d seen.Broken = defers d mark

abbrev pub is_open : EndState → Bool
is_open state.Open = true
is_open _ = false

abbrev pub takes_items : EndState → Bool
takes_items state.Open = true
takes_items state.Draining = true
takes_items _ = false

-- a packet can be delivered
abbrev pub can_deliver : EndReading → EndReading → Bool
can_deliver own other = is_open own.state && nat_lt (length own.delivered) (length other.sent)

-- nothing is on top but a wait that is not answered
abbrev pub can_take_now : List CallFrame → Bool
can_take_now [] = true
can_take_now (frame.Dispatch d ∷ below) = false
can_take_now (frame.Unanswered c ∷ below) = true
can_take_now (frame.Answered c ∷ below) = false

-- some packet is not deferred
abbrev pub some_is_free : Schema → EndReading → DeferralState → List PacketKind → Bool
some_is_free schema other d packets = list_any (λ packet. not (defers_packet schema other d packet)) packets

-- some packet that has arrived can be taken
abbrev pub can_take : Schema → Side → EndReading → EndReading → Bool
can_take schema end own other = takes_items own.state && some_is_free schema other (deferral_of schema end own other) own.arrived

-- nothing is possible at an end but acts: no delivery, no return and no call that resumes, no packet that is taken
abbrev pub is_still_at : Schema → Side → EndReading → EndReading → Bool
is_still_at schema end own other = if can_deliver own other then false else (if can_take_now own.stack then not (can_take schema end own other) else false)

abbrev pub is_still : Schema → Reading → Bool
is_still schema reading = is_still_at schema side.Parent reading.parent reading.child && is_still_at schema side.Child reading.child reading.parent
