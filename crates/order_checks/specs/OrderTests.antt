-- A test of the order in which an end takes what has arrived, by what is read of both ends before a line.
use Rattle.std.specs.Prelude.{ℤ, Bool, true, false, not, ◌&&◌, ◌||◌, if◌then◌else◌, List, find, Option, Some, option_map}
use Rattle.std.specs.List.{list_all, take_while}
use Rattle.std.specs.Option.{option_map_or}
use Rattle.std.specs.Ordering.{int_eq}
use Rattle.ipdl_base.specs.declared.kinds.Level.{Level}
use Rattle.ipdl_base.specs.declared.kinds.Level.TheVariants.{Not, InsideSync, InsideCpow}
use Rattle.ipdl_base.specs.declared.kinds.Side.{Side}
use Rattle.ipdl_base.specs.declared.kinds.Side.TheVariants.{Parent, Child}
use Rattle.ipdl_base.specs.declared.line.What.{What}
use Rattle.ipdl_base.specs.declared.schema.Schema.{Schema}
use Rattle.ipdl_base.specs.Deferral.{Arrival, request, reply, goodbye, mark}
use Rattle.history_reading.specs.declared.parts.PacketKind.{PacketKind}
use Rattle.history_reading.specs.declared.parts.PacketKind.TheVariants as seen
use Rattle.history_reading.specs.EndReading.{EndReading, has_unanswered}
use Rattle.history_reading.specs.Numbers.{same_packet}
use Rattle.history_reading.specs.Still.{defers_packet, deferral_of, request_head}
use Rattle.order_statements.specs.Order.{is_shut, packet_taken, request_arrival}
use Rattle.order_checks.specs.declared.order.Arrival as kept
use Rattle.order_checks.specs.declared.order.Arrival.TheVariants as arrival

-- the code's words for what deferral looks at
abbrev pub arrival_view : kept.Arrival → Arrival
arrival_view (arrival.Request head) = request_arrival head
arrival_view arrival.Reply = reply false
arrival_view arrival.Goodbye = goodbye
arrival_view arrival.Mark = mark

-- what deferral looks at of a packet, by what is read of its sender
abbrev pub packet_arrival : Schema → EndReading → PacketKind → Option Arrival
packet_arrival schema other (seen.Request n) = option_map request_arrival (request_head schema other n)
packet_arrival schema other (seen.Reply n) = Some (reply false)
packet_arrival schema other seen.Goodbye = Some goodbye
packet_arrival schema other seen.Broken = Some mark

abbrev pub is_below_cpow : Level → Bool
is_below_cpow InsideCpow = false
is_below_cpow _ = true

-- what waits while any call waits: an async request below level inside_cpow, or the reply of a promise
abbrev pub is_async : Arrival → Bool
is_async (request sync level transaction) = not sync && is_below_cpow level
is_async (reply sync) = not sync
is_async _ = false

-- a sync request that is not nested, or of level inside_sync and another transaction
abbrev pub is_of_another : ℤ → Level → ℤ → Bool
is_of_another transaction Not other = true
is_of_another transaction InsideSync other = not (int_eq transaction other)
is_of_another transaction InsideCpow other = false

abbrev pub is_call_of_another : ℤ → Arrival → Bool
is_call_of_another transaction (request sync level other) = sync && is_of_another transaction level other
is_call_of_another transaction _ = false

-- a sync request below level inside_cpow
abbrev pub is_call_below_cpow : Arrival → Bool
is_call_below_cpow (request sync level transaction) = sync && is_below_cpow level
is_call_below_cpow _ = false

abbrev pub is_parent : Side → Bool
is_parent Parent = true
is_parent Child = false

-- a request may be taken before an older packet at the end of a side
abbrev pub request_overtakes : Side → Bool → Level → ℤ → Arrival → Bool
request_overtakes side sync Not transaction older = false
request_overtakes side sync InsideSync transaction older = sync && (is_async older || (is_parent side && is_call_of_another transaction older))
request_overtakes side sync InsideCpow transaction older = is_parent side && (is_async older || is_call_below_cpow older)

abbrev pub may_overtake : Side → Arrival → Arrival → Bool
may_overtake side (request sync level transaction) older = request_overtakes side sync level transaction older
may_overtake side _ older = false

abbrev pub packet_overtakes : Schema → Side → EndReading → PacketKind → PacketKind → Bool
packet_overtakes schema end other packet older = option_map_or (λ taken. option_map_or (may_overtake end taken) (packet_arrival schema other older) false) (packet_arrival schema other packet) false

-- what an end defers of the packets that wait
abbrev pub is_deferred : Schema → Side → EndReading → EndReading → PacketKind → Bool
is_deferred schema end own other packet = defers_packet schema other (deferral_of schema end own other) packet

-- the first packet that the end does not defer is this one, and it may be taken before all that are older
abbrev pub is_first_free : (PacketKind → Bool) → PacketKind → List PacketKind → Bool
is_first_free deferred packet waiting = option_map_or (λ first. same_packet first packet) (find (λ p. not (deferred p)) waiting) false

abbrev pub takes_first_free : (PacketKind → Bool) → (PacketKind → Bool) → PacketKind → List PacketKind → Bool
takes_first_free deferred overtaken packet waiting = is_first_free deferred packet waiting && list_all overtaken (take_while deferred waiting)

-- nothing else waits, and no call of the end waits for its answer
abbrev pub waits_alone : EndReading → List PacketKind → PacketKind → Bool
waits_alone own waiting packet = list_all (λ p. same_packet p packet) waiting && not (has_unanswered own.stack)

abbrev pub is_taken_in_order : Schema → Side → EndReading → EndReading → List PacketKind → Bool → PacketKind → Bool
is_taken_in_order schema end own other waiting shut packet =
    takes_first_free (is_deferred schema end own other) (packet_overtakes schema end other packet) packet waiting && (if shut then waits_alone own waiting packet else true)

-- A line of an end takes in order: by what is read of the end and of the other before it, and the packets that wait at the end.
abbrev pub order_line : Schema → Side → EndReading → EndReading → List PacketKind → What → Bool
order_line schema end own other waiting w = option_map_or (is_taken_in_order schema end own other waiting (is_shut w)) (packet_taken w) true
