-- What a link carries shows whether the end that sends is open.
use Rattle.std.proofs.Common.{◌≡◌, ℤ, List, [], ◌∷◌}
use Rattle.std.specs.List.{AllByRecursion}
use Rattle.ipdl_base.specs.declared.kinds.Side.{Side}
use Rattle.nesting_laws.specs.Alone.{IsAlone, no_reply_comes, reply_comes}
use Rattle.nesting_laws.specs.Calls.{Call, SyncFrame, SyncPacket, request, IsNoFarewell, SyncEnd, sync_end}
use Rattle.nesting_laws.specs.Chains.{Exchange, requested, queued, running, replied}
use Rattle.nesting_laws.specs.Laws.{LinksTellOfEnds}
use Rattle.nesting_laws.specs.Nested.{IsBeside, in_arrived, in_link, AreNested, idle, of_parent, of_child, beside_parent, beside_child, overtaken, crossed, crossed_back, crossed_after, on_way, at_hand, to_arrive, to_take, on_top}
use Rattle.nesting_laws.specs.Steps.{IsInserted, here, there}

caller-no_farewell : {base : List SyncFrame} {t : ℤ} {s : Side} {stack : List SyncFrame} {others : List Call} {link : List SyncPacket} {b : SyncEnd} → Exchange base t s (sync_end stack others link) b → AllByRecursion IsNoFarewell link
caller-no_farewell (requested chain) = tt
caller-no_farewell (queued chain) = tt
caller-no_farewell (running chain) = tt
caller-no_farewell (replied chain) = (tt, tt)

other-no_farewell : {base : List SyncFrame} {t : ℤ} {s : Side} {stack : List SyncFrame} {others : List Call} {link : List SyncPacket} {a : SyncEnd} → Exchange base t s a (sync_end stack others link) → AllByRecursion IsNoFarewell link
other-no_farewell (requested chain) = (tt, tt)
other-no_farewell (queued chain) = tt
other-no_farewell (running chain) = tt
other-no_farewell (replied chain) = tt

inserted-no_farewell : {x : Call} {packets link : List SyncPacket} → IsInserted (request x) packets link → AllByRecursion IsNoFarewell packets → AllByRecursion IsNoFarewell link
inserted-no_farewell here h = (tt, h)
inserted-no_farewell (there i) h = (h.0, inserted-no_farewell i h.1)

beside-no_farewell : {x : Call} {others all : List Call} {packets link : List SyncPacket} → IsBeside x others packets all link → AllByRecursion IsNoFarewell packets → AllByRecursion IsNoFarewell link
beside-no_farewell (in_arrived i) h = h
beside-no_farewell (in_link i) h = inserted-no_farewell i h

parent-no_farewell : {stack : List SyncFrame} {others : List Call} {link : List SyncPacket} {c : SyncEnd} → AreNested (sync_end stack others link) c → AllByRecursion IsNoFarewell link
parent-no_farewell idle = tt
parent-no_farewell (of_parent exchange) = caller-no_farewell exchange
parent-no_farewell (of_child exchange) = other-no_farewell exchange
parent-no_farewell (beside_parent h d exchange w) = beside-no_farewell w (caller-no_farewell exchange)
parent-no_farewell (beside_child h d exchange w) = beside-no_farewell w (other-no_farewell exchange)
parent-no_farewell (overtaken h k) = tt
parent-no_farewell (crossed h k is to_arrive comes) = (tt, tt)
parent-no_farewell (crossed h k is to_take comes) = tt
parent-no_farewell (crossed h k is on_top comes) = tt
parent-no_farewell (crossed_back h k is w) = tt
parent-no_farewell (crossed_after h k is) = (tt, (tt, tt))

child-no_farewell : {stack : List SyncFrame} {others : List Call} {link : List SyncPacket} {p : SyncEnd} → AreNested p (sync_end stack others link) → AllByRecursion IsNoFarewell link
child-no_farewell idle = tt
child-no_farewell (of_parent exchange) = other-no_farewell exchange
child-no_farewell (of_child exchange) = caller-no_farewell exchange
child-no_farewell (beside_parent h d exchange w) = other-no_farewell exchange
child-no_farewell (beside_child h d exchange w) = caller-no_farewell exchange
child-no_farewell (overtaken h k) = (tt, (tt, tt))
child-no_farewell (crossed h k is serves on_way) = (tt, tt)
child-no_farewell (crossed h k is serves at_hand) = tt
child-no_farewell (crossed_back h k is w) = beside-no_farewell w (tt, tt)
child-no_farewell (crossed_after h k is) = tt

-- an end that is alone has something on its link
alone-some : (side : Side) (stack : List SyncFrame) (others : List Call) (link : List SyncPacket) → IsAlone side (sync_end stack others link) → link ≡ [] → ⊥
alone-some side stack others [] (no_reply_comes l) e = elim l [ ]
alone-some side _ others [] (reply_comes h l) e = elim l [ ]
alone-some side stack others (p ∷ link) a e = cc

pub links_tell_of_ends : LinksTellOfEnds
links_tell_of_ends = record { to_parent = λ stack arrived link c n. parent-no_farewell n; to_child = λ stack arrived link p n. child-no_farewell n; alone = alone-some }
