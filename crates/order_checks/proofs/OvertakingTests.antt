-- The test of who overtakes whom decides the table.
use Rattle.std.proofs.Common.{◌≡◌, ◌≢◌, ℤ, Bool, true, false, not, ◌||◌, List, Some, option_and_then, option_map, refl, sym, ap, ◌∙◌}
use Rattle.std.specs.Bool.{Decides}
use Rattle.std.specs.Option.{option_map_or}
use Rattle.std.specs.Ordering.{int_eq}
use Rattle.std.proofs.lemmas.Bool.Decides.{Decides-int_eq}
use Rattle.std.proofs.lemmas.Bool.{false≢true, not-true}
use Rattle.ipdl_base.specs.declared.kinds.Level.{Level}
use Rattle.ipdl_base.specs.declared.kinds.Level.TheVariants.{Not, InsideSync, InsideCpow}
use Rattle.ipdl_base.specs.declared.kinds.Side.{Side}
use Rattle.ipdl_base.specs.declared.kinds.Side.TheVariants.{Parent, Child}
use Rattle.ipdl_base.specs.declared.line.What.{What}
use Rattle.ipdl_base.specs.declared.schema.Schema.{Schema}
use Rattle.ipdl_base.specs.Deferral.{Arrival, request, reply, goodbye, mark}
use Rattle.history_reading.specs.declared.parts.PacketKind.{PacketKind}
use Rattle.history_reading.specs.declared.parts.PacketKind.TheVariants as seen
use Rattle.history_reading.specs.EndReading.{EndReading}
use Rattle.history_reading.specs.SentPacket.{Request, SentPacket, request_of}
use Rattle.history_reading.specs.Still.{head_of}
use Rattle.law_statements.specs.Packets.{sent}
use Rattle.law_statements.proofs.Deciding.{found, recast}
use Rattle.order_statements.specs.Order.{IsAsync, MayOvertake, PacketOvertakes, arrival_of, cpow_over_async, cpow_over_sync, of_reply, of_request, request_arrival, sync_over_another, sync_over_async, sync_over_plain}
use Rattle.order_checks.specs.OrderTests.{is_async, is_below_cpow, is_call_below_cpow, is_call_of_another, may_overtake, packet_arrival, packet_overtakes}

below-to : (l : Level) → is_below_cpow l ≡ true → l ≢ InsideCpow
below-to InsideCpow e = cc
below-to Not e = λ k. cc
below-to InsideSync e = λ k. cc

below-from : (l : Level) → l ≢ InsideCpow → is_below_cpow l ≡ true
below-from InsideCpow h = absurd (h refl)
below-from Not h = refl
below-from InsideSync h = refl

async-to : (x : Arrival) → is_async x ≡ true → IsAsync x
async-to (request true l t) e = cc
async-to (request false l t) e = of_request l t (below-to l e)
async-to (reply true) e = cc
async-to (reply false) e = of_reply
async-to goodbye e = cc
async-to mark e = cc

async-from : (x : Arrival) → IsAsync x → is_async x ≡ true
async-from x (of_request l t apart) = below-from l apart
async-from x of_reply = refl

-- one of two
one-of : {P : Type 0} (a b : Bool) → (a ≡ true → P) → (b ≡ true → P) → (a || b) ≡ true → P
one-of true b f g e = f refl
one-of false b f g e = g e

or-first : (a b : Bool) → a ≡ true → (a || b) ≡ true
or-first true b e = refl
or-first false b e = absurd (false≢true e)

over-another : (t : ℤ) (y : Arrival) → is_call_of_another t y ≡ true → MayOvertake Parent (request true InsideSync t) y
over-another t (request false l u) e = cc
over-another t (request true Not u) e = sync_over_plain t u
over-another t (request true InsideSync u) e = sync_over_another t u (λ same. false≢true (sym (not-true (int_eq t u) e) ∙ (Decides-int_eq t u).1 same))
over-another t (request true InsideCpow u) e = cc
over-another t (reply sync) e = cc
over-another t goodbye e = cc
over-another t mark e = cc

over-below : (sync : Bool) (t : ℤ) (y : Arrival) → is_call_below_cpow y ≡ true → MayOvertake Parent (request sync InsideCpow t) y
over-below sync t (request false l u) e = cc
over-below sync t (request true l u) e = cpow_over_sync sync t l u (below-to l e)
over-below sync t (reply s) e = cc
over-below sync t goodbye e = cc
over-below sync t mark e = cc

overtake-to : (side : Side) (x y : Arrival) → may_overtake side x y ≡ true → MayOvertake side x y
overtake-to side (request sync Not t) y e = cc
overtake-to side (request false InsideSync t) y e = cc
overtake-to Parent (request true InsideSync t) y e = one-of (is_async y) (is_call_of_another t y) (λ a. sync_over_async t (async-to y a)) (over-another t y) e
overtake-to Child (request true InsideSync t) y e = one-of (is_async y) false (λ a. sync_over_async t (async-to y a)) (λ k. absurd (false≢true k)) e
overtake-to Parent (request sync InsideCpow t) y e = one-of (is_async y) (is_call_below_cpow y) (λ a. cpow_over_async sync t (async-to y a)) (over-below sync t y) e
overtake-to Child (request sync InsideCpow t) y e = cc
overtake-to side (reply s) y e = cc
overtake-to side goodbye y e = cc
overtake-to side mark y e = cc

overtake-from : (side : Side) (x y : Arrival) → MayOvertake side x y → may_overtake side x y ≡ true
overtake-from Parent x y (sync_over_async t a) = or-first (is_async y) (is_call_of_another t y) (async-from y a)
overtake-from Child x y (sync_over_async t a) = or-first (is_async y) false (async-from y a)
overtake-from side x y (sync_over_plain t u) = refl
overtake-from side x y (sync_over_another t u apart) = ap not (differ (int_eq t u) refl)
  where
    differ : (b : Bool) → int_eq t u ≡ b → b ≡ false
    differ true is = absurd (apart ((Decides-int_eq t u).0 is))
    differ false is = refl
overtake-from side x y (cpow_over_async sync t a) = or-first (is_async y) (is_call_below_cpow y) (async-from y a)
overtake-from side x y (cpow_over_sync sync t l u apart) = below-from l apart

-- packets

arrival-read : (schema : Schema) (other : EndReading) (told : List What) → other.sent ≡ sent schema told → (p : PacketKind) → packet_arrival schema other p ≡ arrival_of schema told p
arrival-read schema other told e (seen.Request n) = ap (λ (ps : List SentPacket). option_map request_arrival (option_and_then (λ (r : Request). head_of schema r.number n r.transaction) (request_of ps n))) e
arrival-read schema other told e (seen.Reply n) = refl
arrival-read schema other told e seen.Goodbye = refl
arrival-read schema other told e seen.Broken = refl

pub overtakes-is : (schema : Schema) (end : Side) (other : EndReading) (told : List What) → other.sent ≡ sent schema told → (packet older : PacketKind)
    → Decides (packet_overtakes schema end other packet older) (PacketOvertakes schema end told packet older)
overtakes-is schema end other told e packet older =
    recast (packet_overtakes schema end other packet older)
    (found (packet_arrival schema other packet) (λ taken. option_map_or (may_overtake end taken) (packet_arrival schema other older) false)
    (λ taken. (y : Arrival) × (packet_arrival schema other older ≡ Some y) × MayOvertake end taken y)
    (λ taken. found (packet_arrival schema other older) (may_overtake end taken) (MayOvertake end taken) (λ y. (overtake-to end taken y, overtake-from end taken y))))
    (λ p. record { taken = p.0; waiting = p.2.0; taken_is = sym (arrival-read schema other told e packet) ∙ p.1; waiting_is = sym (arrival-read schema other told e older) ∙ p.2.1; may = p.2.2 })
    (λ o. (o.taken, arrival-read schema other told e packet ∙ o.taken_is, (o.waiting, arrival-read schema other told e older ∙ o.waiting_is, o.may)))
