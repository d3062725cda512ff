-- The order in which an end takes what has arrived, by its lines.
use Rattle.std.specs.Prelude.{◌≡◌, ◌≢◌, ℤ, Bool, true, false, not, ◌&&◌, IsTrue, List, ◌∷◌, ◌++◌, Option, Some, None, option_map}
use Rattle.std.specs.List.{list_any}
use Rattle.ipdl_base.specs.declared.kinds.Level.{Level}
use Rattle.ipdl_base.specs.declared.kinds.Level.TheVariants.{Not, InsideSync, InsideCpow}
use Rattle.ipdl_base.specs.declared.kinds.Side.{Side}
use Rattle.ipdl_base.specs.declared.kinds.Side.TheVariants.{Parent}
use Rattle.ipdl_base.specs.declared.line.Line.{Line}
use Rattle.ipdl_base.specs.declared.line.What.{What}
use Rattle.ipdl_base.specs.declared.line.What.TheVariants as what
use Rattle.ipdl_base.specs.declared.schema.Schema.{Schema}
use Rattle.ipdl_base.specs.Deferral.{Arrival, request, reply, goodbye, mark}
use Rattle.nesting_core.specs.declared.frame.Head.{Head}
use Rattle.history_reading.specs.declared.parts.PacketKind.{PacketKind}
use Rattle.history_reading.specs.declared.parts.PacketKind.TheVariants as seen
use Rattle.law_statements.specs.Arrived.{Passing, arrives, is_giving_up, is_leaving, passings}
use Rattle.ipdl_base.specs.Sides.{other as other_end}
use Rattle.law_statements.specs.Said.{line_of, said_by}
use Rattle.law_statements.specs.Waits.{NoneWaits, defers_kind, sent_head}

-- the packet that a line takes, or drops
abbrev pub packet_taken : What → Option PacketKind
packet_taken (what.Take n route number values) = Some (seen.Request n)
packet_taken (what.Drop n route number id) = Some (seen.Request n)
packet_taken (what.TakeReply n) = Some (seen.Reply n)
packet_taken what.ShutNormal = Some seen.Goodbye
packet_taken what.ShutAbnormal = Some seen.Broken
packet_taken _ = None

-- whether a packet that arrived still waits to be taken, given the passings after its arrival: it has not left, and
-- nothing was given up
abbrev pub still_waits : PacketKind → List Passing → Bool
still_waits packet later = not (list_any is_giving_up later) && not (list_any (is_leaving packet) later)

-- the part of a packet that decides deferral; a request that was not sent has none
abbrev pub request_arrival : Head → Arrival
request_arrival head = request head.sync head.level head.transaction

abbrev pub arrival_of : Schema → List What → PacketKind → Option Arrival
arrival_of schema other (seen.Request n) = option_map request_arrival (sent_head schema other n)
arrival_of schema other (seen.Reply n) = Some (reply false)
arrival_of schema other seen.Goodbye = Some goodbye
arrival_of schema other seen.Broken = Some mark

-- What waits while any call waits for its answer: an async request below level inside_cpow, or the reply for a
-- promise.
pub data IsAsync : Arrival → Type 0 where
  of_request : (level : Level) (transaction : ℤ) → level ≢ InsideCpow → IsAsync (request false level transaction)
  of_reply : IsAsync (reply false)

-- Which packets may be taken before an older one that waits, at the end of a side.
pub data MayOvertake : Side → Arrival → Arrival → Type 0 where
  -- a sync request of level inside_sync overtakes async ones, and at the child nothing else overtakes
  sync_over_async : {side : Side} {older : Arrival} (transaction : ℤ) → IsAsync older → MayOvertake side (request true InsideSync transaction) older
  -- at the parent it also overtakes sync ones that are not nested, and those of its own level of another transaction
  sync_over_plain : (transaction other : ℤ) → MayOvertake Parent (request true InsideSync transaction) (request true Not other)
  sync_over_another : (transaction other : ℤ) → transaction ≢ other → MayOvertake Parent (request true InsideSync transaction) (request true InsideSync other)
  -- at the parent a request of level inside_cpow overtakes async ones, and sync ones of lower levels
  cpow_over_async : {older : Arrival} (sync : Bool) (transaction : ℤ) → IsAsync older → MayOvertake Parent (request sync InsideCpow transaction) older
  cpow_over_sync : (sync : Bool) (transaction : ℤ) (level : Level) (other : ℤ) → level ≢ InsideCpow → MayOvertake Parent (request sync InsideCpow transaction) (request true level other)

-- One packet may overtake another, by the requests or replies that they are.
pub record PacketOvertakes (schema : Schema) (end : Side) (other : List What) (packet older : PacketKind) : Type 0 where
  pub taken : Arrival
  pub waiting : Arrival
  pub taken_is : arrival_of schema other packet ≡ Some taken
  pub waiting_is : arrival_of schema other older ≡ Some waiting
  pub may : MayOvertake end taken waiting

-- An older packet that waits is passed over: the end defers it, and the table allows the taken packet to overtake it.
pub record IsPassedOver (schema : Schema) (end : Side) (before : List Line) (packet older : PacketKind) : Type 0 where
  pub deferred : IsTrue (defers_kind schema end before older)
  pub overtaken : PacketOvertakes schema end (said_by (other_end end) before) packet older

-- What an end takes has arrived and waits, and the end does not defer it. It passes over each older packet that
-- waits.
pub record TakesFirstFree (schema : Schema) (end : Side) (before : List Line) (packet : PacketKind) : Type 0 where
  pub earlier : List Passing
  pub later : List Passing
  pub arrival : passings schema (said_by end before) ≡ earlier ++ arrives packet ∷ later
  pub waits : IsTrue (still_waits packet later)
  pub free : defers_kind schema end before packet ≡ false
  pub older : (other : PacketKind) (front back : List Passing) → earlier ≡ front ++ arrives other ∷ back → IsTrue (still_waits other (back ++ arrives packet ∷ later)) → IsPassedOver schema end before packet other

-- whether an end closes because the other end has ended
abbrev pub is_shut : What → Bool
is_shut what.ShutNormal = true
is_shut what.ShutAbnormal = true
is_shut _ = false

-- One packet alone waits at an end, and no call of the end waits for its answer.
pub record WaitsAlone (schema : Schema) (end : Side) (before : List Line) (packet : PacketKind) : Type 0 where
  pub alone : (other : PacketKind) (earlier later : List Passing) → passings schema (said_by end before) ≡ earlier ++ arrives other ∷ later → IsTrue (still_waits other later) → other ≡ packet
  pub nobody : NoneWaits schema end before

pub record Order (schema : Schema) (lines : List Line) : Type 0 where
  -- what is taken or dropped is the first packet that the end does not defer
  pub takes : (end : Side) (w : What) (packet : PacketKind) (before following : List Line) → lines ≡ before ++ line_of end w ∷ following → packet_taken w ≡ Some packet → TakesFirstFree schema end before packet
  -- an end closes because the other end has ended only when nothing else waits
  pub farewells : (end : Side) (w : What) (packet : PacketKind) (before following : List Line) → lines ≡ before ++ line_of end w ∷ following → IsTrue (is_shut w) → packet_taken w ≡ Some packet → WaitsAlone schema end before packet
