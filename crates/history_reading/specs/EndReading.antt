-- What is read from the lines of one end.
use Rattle.std.specs.Prelude.{ℕ, ℤ, pos, Bool, true, false, ◌&&◌, not, if◌then◌else◌, List, [], ◌∷◌, find, Option, Some, None, option_map}
use Rattle.std.specs.List.{list_any}
use Rattle.std.specs.Option.{option_map_or}
use Rattle.std.specs.Ordering.{int_eq}
use Rattle.history_reading.specs.declared.parts.BuiltActor.{BuiltActor}
use Rattle.history_reading.specs.declared.parts.Call.{Call}
use Rattle.history_reading.specs.declared.parts.Cause.{Cause}
use Rattle.history_reading.specs.declared.parts.Cause.TheVariants as cause
use Rattle.history_reading.specs.declared.parts.EventKind.{EventKind}
use Rattle.history_reading.specs.declared.parts.EventKind.TheVariants as event
use Rattle.history_reading.specs.declared.parts.CallFrame.{CallFrame}
use Rattle.history_reading.specs.declared.parts.CallFrame.TheVariants as frame
use Rattle.history_reading.specs.declared.parts.PacketKind.{PacketKind}
use Rattle.history_reading.specs.declared.parts.ActorPlace.{ActorPlace}
use Rattle.ipdl_base.specs.declared.kinds.EndState.{EndState}
use Rattle.ipdl_base.specs.declared.kinds.EndState.TheVariants as state
use Rattle.ipdl_base.specs.Sides.{top_id}
use Rattle.history_reading.specs.Numbers.{has}
use Rattle.history_reading.specs.SentPacket as told
use Rattle.history_reading.specs.SentPacket.{SentPacket, Request, request_of}

-- Stacks have the innermost frame first, all other lists the oldest first.
pub record EndReading : Type 0 where
  -- the state of the end, whether it has sent or been given an end of the channel, whether it has closed
  pub state : EndState
  pub ended : Bool
  pub over : Bool
  -- the actors that were built, first the top actor, and the ids of those that fell
  pub built : List BuiltActor
  pub fallen : List ℤ
  -- the number of actors that the end has constructed
  pub made : ℕ
  -- what was sent, delivered, and has arrived and not left
  pub sent : List SentPacket
  pub delivered : List PacketKind
  pub arrived : List PacketKind
  -- the numbers of the requests that were taken or dropped, and of those that were replaced
  pub gone : List ℤ
  pub replaced : List ℤ
  -- the numbers of the replies that were taken, of the calls that failed, of the promises that were settled
  pub replies : List ℤ
  pub failed : List ℤ
  pub settled : List ℤ
  pub stack : List CallFrame
  -- the last event, why actors fall in it, and the places of those that fell in it
  pub event : EventKind
  pub cause : Cause
  pub falls : List ActorPlace

-- what is read of no lines: the top actor lives
abbrev pub opening : EndReading
opening = record {
  state = state.Open;
  ended = false;
  over = false;
  built = record { id = top_id; manager = pos 0 } ∷ [];
  fallen = [];
  made = 0;
  sent = [];
  delivered = [];
  arrived = [];
  gone = [];
  replaced = [];
  replies = [];
  failed = [];
  settled = [];
  stack = [];
  event = event.Other;
  cause = cause.Nobody;
  falls = [];
}

-- an actor of this id was built
abbrev pub was_built : List BuiltActor → ℤ → Bool
was_built built id = list_any (λ a. int_eq a.id id) built

-- an actor lives where it was built and has not fallen
abbrev pub lives : EndReading → ℤ → Bool
lives own id = was_built own.built id && not (has own.fallen id)

-- the request of a number that the end has sent
abbrev pub own_request : EndReading → ℤ → Option Request
own_request own n = request_of own.sent n

-- whether the end's request of a number is sync, and whether it is async with returns
abbrev pub is_sync_request : EndReading → ℤ → Bool
is_sync_request own n = option_map_or (λ r. r.sync) (own_request own n) false

abbrev pub is_promise : EndReading → ℤ → Bool
is_promise own n = option_map_or (λ r. r.wants) (own_request own n) false

-- whether a frame is a wait that is not answered, and whether it is that of this number
abbrev pub is_unanswered : CallFrame → Bool
is_unanswered (frame.Dispatch d) = false
is_unanswered (frame.Unanswered c) = true
is_unanswered (frame.Answered c) = false

abbrev pub is_wait_for : ℤ → CallFrame → Bool
is_wait_for n (frame.Dispatch d) = false
is_wait_for n (frame.Unanswered c) = int_eq c.seq n
is_wait_for n (frame.Answered c) = false

-- the number of a frame's request
abbrev pub frame_seq : CallFrame → ℤ
frame_seq (frame.Dispatch d) = d.seq
frame_seq (frame.Unanswered c) = c.seq
frame_seq (frame.Answered c) = c.seq

-- the number of the innermost unanswered wait
abbrev pub awaited : List CallFrame → Option ℤ
awaited stack = option_map frame_seq (find is_unanswered stack)

-- whether that is this number
abbrev pub awaits : List CallFrame → ℤ → Bool
awaits stack n = option_map_or (λ m. int_eq m n) (awaited stack) false

-- whether some wait is not answered
abbrev pub has_unanswered : List CallFrame → Bool
has_unanswered stack = list_any is_unanswered stack

-- whether a packet that is a request which is async with returns is settled
abbrev pub is_settled_packet : List ℤ → SentPacket → Bool
is_settled_packet settled (told.request r) = if r.wants then has settled r.seq else true
is_settled_packet settled (told.said n what) = true
is_settled_packet settled told.goodbye = true
is_settled_packet settled told.broken = true
