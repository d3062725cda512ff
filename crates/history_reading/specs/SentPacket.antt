-- What an end has sent to the other, by its lines.
use Rattle.std.specs.Prelude.{ℕ, ℤ, Bool, false, ◌&&◌, not, is_some, List, find, Option, Some, None}
use Rattle.std.specs.List.{list_any, filter_map}
use Rattle.std.specs.Option.{option_map_or}
use Rattle.std.specs.Ordering.{int_eq}
use Rattle.ipdl_base.specs.declared.kinds.Reason.{Reason}
use Rattle.ipdl_base.specs.declared.value.Values.{Values}
use Rattle.history_reading.specs.declared.parts.PacketKind.{PacketKind}
use Rattle.history_reading.specs.declared.parts.PacketKind.TheVariants as seen
use Rattle.history_reading.specs.Numbers.{has}

-- A request: its number, its transaction (0 where its line has none), whether its message is sync and
-- whether it is async with returns, the actor that it goes to, its message, the how-manyeth actor of its
-- sender it makes (0 where it makes none), and its values.
pub record Request : Type 0 where
  pub seq : ℤ
  pub transaction : ℤ
  pub sync : Bool
  pub wants : Bool
  pub route : ℤ
  pub number : ℕ
  pub made : ℕ
  pub values : Values

-- what a reply states: values or a rejection of a handler that was given a resolver, else values or a fault
pub data ReplyContent : Type 0 where
  resolved : Values → ReplyContent
  rejected : ReplyContent
  ok : Values → ReplyContent
  fault : Reason → ReplyContent

-- a packet: a request, a reply to the request of a number, the goodbye, or the mark of a death
pub data SentPacket : Type 0 where
  request : Request → SentPacket
  said : ℤ → ReplyContent → SentPacket
  goodbye : SentPacket
  broken : SentPacket

-- what a delivery shows of a packet
abbrev pub packet_kind : SentPacket → PacketKind
packet_kind (request r) = seen.Request r.seq
packet_kind (said n what) = seen.Reply n
packet_kind goodbye = seen.Goodbye
packet_kind broken = seen.Broken

-- the request that a packet is
abbrev pub request_in : SentPacket → Option Request
request_in (request r) = Some r
request_in (said n what) = None
request_in goodbye = None
request_in broken = None

-- the requests among packets
abbrev pub requests_of : List SentPacket → List Request
requests_of sent = filter_map request_in sent

-- the request of a number: the first with it
abbrev pub request_of : List SentPacket → ℤ → Option Request
request_of sent n = find (λ r. int_eq r.seq n) (requests_of sent)

-- whether a packet is a reply to the request of a number which passes
abbrev pub is_said : (ReplyContent → Bool) → ℤ → SentPacket → Bool
is_said test n (request r) = false
is_said test n (said m what) = int_eq m n && test what
is_said test n goodbye = false
is_said test n broken = false

-- whether some reply to the request of a number passes
abbrev pub says : (ReplyContent → Bool) → List SentPacket → ℤ → Bool
says test sent n = list_any (is_said test n) sent
