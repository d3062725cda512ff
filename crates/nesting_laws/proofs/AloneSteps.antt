-- An open end whose other end has closed or died.
use Rattle.std.proofs.Common.{ℤ, List, [], ◌∷◌, ◌++◌}
use Rattle.std.specs.List.{AllByRecursion}
use Rattle.ipdl_base.specs.declared.kinds.Side.{Side}
use Rattle.ipdl_base.specs.declared.kinds.Side.TheVariants.{Parent, Child}
use Rattle.nesting_laws.proofs.Deferrals.{beside-deferred, cpow-deferred, not-taken}
use Rattle.nesting_laws.proofs.Exchanges.{IsInside}
use Rattle.nesting_laws.proofs.NestedSteps.{caller-inside, other-inside}
use Rattle.nesting_laws.specs.Alone.{IsAlone, ReplyThenFarewell, RequestsThenFarewell, no_reply_comes, only_farewell, reply_comes, reply_first, request_ahead, request_first}
use Rattle.nesting_laws.specs.Calls.{Call, SyncEnd, SyncFrame, SyncPacket, dispatch, farewell, reply, request, sync_end, wait, with_packets}
use Rattle.nesting_laws.specs.Chains.{Exchange, queued, replied, requested, running}
use Rattle.nesting_laws.specs.Laws.{AloneStays}
use Rattle.nesting_laws.specs.Nested.{AreNested, IsBeside, at_hand, beside_child, beside_parent, crossed, crossed_back, crossed_after, idle, in_arrived, in_link, of_child, of_parent, on_top, on_way, overtaken, to_arrive, to_take}
use Rattle.nesting_laws.specs.Steps.{DefersCall, IsBelowCpow, IsInserted, IsTransactionOf, Step, calls, calls_inside, drops, here, reply_arrives, request_arrives, returns, takes, there}

-- Steps

all-appended : {A : Type 0} (P : A → Type 0) (xs : List A) (x : A) → AllByRecursion P xs → P x → AllByRecursion P (xs ++ x ∷ [])
all-appended P [] x h p = (p, tt)
all-appended P (y ∷ xs) x h p = (h.0, all-appended P xs x h.1 p)

all-member : {A : Type 0} (P : A → Type 0) {x : A} {rest all : List A} → AllByRecursion P all → IsInserted x rest all → P x
all-member P h here = h.0
all-member P h (there i) = all-member P h.1 i

alone_step : {side : Side} {h new : SyncEnd} {sent : List SyncPacket} → IsAlone side h → Step side h new sent → IsAlone side new
alone_step (no_reply_comes l) (calls a b) = no_reply_comes l
alone_step (no_reply_comes l) (calls_inside a b c) = no_reply_comes l
alone_step (no_reply_comes (request_first l)) request_arrives = no_reply_comes l
alone_step (no_reply_comes l) reply_arrives = elim l [ ]
alone_step (no_reply_comes l) (takes i may) = no_reply_comes l
alone_step (no_reply_comes l) (drops i may) = no_reply_comes l
alone_step (no_reply_comes l) returns = no_reply_comes l
alone_step {side} (reply_comes {w} {arrived} h (request_ahead {q} k l)) request_arrives = reply_comes (all-appended (DefersCall side w) arrived q h k) l
alone_step (reply_comes h (reply_first l)) reply_arrives = no_reply_comes l
alone_step {side} (reply_comes {w} {below} h l) (takes {q} i may) = not-taken side w q below (all-member (DefersCall side w) h i) may
alone_step {side} (reply_comes {w} {below} h l) (drops {q} i may) = not-taken side w q below (all-member (DefersCall side w) h i) may

-- The last packet of the other end

-- a request among those is deferred under the wait on top
abbrev IsAfterTop : Side → Call → List SyncFrame → Type 0
IsAfterTop side x [] = Unit {0}
IsAfterTop side x (wait w ∷ below) = DefersCall side w x
IsAfterTop side x (dispatch d ∷ below) = Unit {0}

not-last : {A : Type 0} (xs : List SyncPacket) → RequestsThenFarewell (farewell ∷ xs ++ farewell ∷ []) → A
not-last [] l = elim l [ ]
not-last (y ∷ xs) l = elim l [ ]

farewell-inserted : {x : Call} {packets link : List SyncPacket} → IsInserted (request x) packets link → RequestsThenFarewell (packets ++ farewell ∷ []) → RequestsThenFarewell (link ++ farewell ∷ [])
farewell-inserted here l = request_first l
farewell-inserted (there {y = request q} i) (request_first l) = request_first (farewell-inserted i l)
farewell-inserted (there {y = reply seq} i) l = elim l [ ]
farewell-inserted (there {y = farewell} {xs} i) l = not-last xs l

reply-inserted : {side : Side} {w x : Call} {packets link : List SyncPacket} → DefersCall side w x → IsInserted (request x) packets link → ReplyThenFarewell side w (packets ++ farewell ∷ []) → ReplyThenFarewell side w (link ++ farewell ∷ [])
reply-inserted h here l = request_ahead h l
reply-inserted h (there i) (reply_first l) = reply_first (farewell-inserted i l)
reply-inserted h (there i) (request_ahead k l) = request_ahead k (reply-inserted h i l)

all-inserted : {A : Type 0} (P : A → Type 0) {x : A} {others all : List A} → IsInserted x others all → P x → AllByRecursion P others → AllByRecursion P all
all-inserted P here p h = (p, h)
all-inserted P (there i) p h = (h.0, all-inserted P i p h.1)

alone-beside : {side : Side} {x : Call} {stack : List SyncFrame} {others all : List Call} {packets link : List SyncPacket} → IsAfterTop side x stack → IsBeside x others packets all link → IsAlone side (sync_end stack others (packets ++ farewell ∷ [])) → IsAlone side (sync_end stack all (link ++ farewell ∷ []))
alone-beside h (in_arrived i) (no_reply_comes l) = no_reply_comes l
alone-beside h (in_link i) (no_reply_comes l) = no_reply_comes (farewell-inserted i l)
alone-beside {side} h (in_arrived i) (reply_comes {w} k l) = reply_comes (all-inserted (DefersCall side w) i h k) l
alone-beside h (in_link i) (reply_comes k l) = reply_comes k (reply-inserted h i l)

caller-alone : {base : List SyncFrame} {t : ℤ} {s : Side} {a b : SyncEnd} → Exchange base t s a b → IsAlone s (with_packets a (farewell ∷ []))
caller-alone (requested chain) = no_reply_comes only_farewell
caller-alone (queued chain) = no_reply_comes only_farewell
caller-alone (running chain) = no_reply_comes only_farewell
caller-alone (replied chain) = reply_comes tt (reply_first only_farewell)

other-alone : {base : List SyncFrame} {t : ℤ} {s o : Side} {a b : SyncEnd} → Exchange base t s a b → IsAlone o (with_packets b (farewell ∷ []))
other-alone (requested chain) = no_reply_comes (request_first only_farewell)
other-alone (queued chain) = no_reply_comes only_farewell
other-alone (running chain) = no_reply_comes only_farewell
other-alone (replied chain) = no_reply_comes only_farewell

following-inside : (t : ℤ) (x : Call) (stack : List SyncFrame) → IsInside t stack × IsTransactionOf Parent t → IsBelowCpow x.level → IsTransactionOf Child x.transaction → IsAfterTop Parent x stack
following-inside t x [] h d c = tt
following-inside t x (wait w ∷ below) h d c = beside-deferred t x w h.0 h.1 d c
following-inside t x (dispatch q ∷ below) h d c = tt

parent_alone : {p c : SyncEnd} → AreNested p c → IsAlone Parent (with_packets p (farewell ∷ []))
parent_alone idle = no_reply_comes only_farewell
parent_alone (of_parent exchange) = caller-alone exchange
parent_alone (of_child exchange) = other-alone exchange
parent_alone (beside_parent {t} {x} {stack} h d exchange w) = alone-beside (following-inside t x stack (caller-inside exchange) d h.transaction) w (caller-alone exchange)
parent_alone (beside_child {t} {x} {stack} h d exchange w) = alone-beside (following-inside t x stack (other-inside exchange) d h.transaction) w (other-alone exchange)
parent_alone (overtaken h k) = no_reply_comes only_farewell
parent_alone (crossed h k is to_arrive comes) = no_reply_comes (request_first only_farewell)
parent_alone (crossed h k is to_take comes) = no_reply_comes only_farewell
parent_alone (crossed h k is on_top comes) = no_reply_comes only_farewell
parent_alone (crossed_back h k is w) = no_reply_comes only_farewell
parent_alone (crossed_after h k is) = reply_comes tt (reply_first (request_first only_farewell))

child_alone : {p c : SyncEnd} → AreNested p c → IsAlone Child (with_packets c (farewell ∷ []))
child_alone idle = no_reply_comes only_farewell
child_alone (of_parent exchange) = other-alone exchange
child_alone (of_child exchange) = caller-alone exchange
child_alone (beside_parent h d exchange w) = other-alone exchange
child_alone (beside_child h d exchange w) = caller-alone exchange
child_alone (overtaken h k) = reply_comes tt (reply_first (request_first only_farewell))
child_alone (crossed h k is serves on_way) = no_reply_comes (request_first only_farewell)
child_alone (crossed h k is serves at_hand) = no_reply_comes only_farewell
child_alone (crossed_back {x} {q} h k is w) = alone-beside (cpow-deferred x q is h.level) w (reply_comes tt (reply_first only_farewell))
child_alone (crossed_after h k is) = no_reply_comes only_farewell

pub alone_stays : AloneStays
alone_stays = record { parent = λ p c n. parent_alone n; child = λ p c n. child_alone n; stays = λ side h new sent a step. alone_step a step }
