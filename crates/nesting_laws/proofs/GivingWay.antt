-- One of two waits on top does not defer the call of the other.
use Rattle.nesting_laws.proofs.Exchanges.{parent-inside}
use Rattle.std.proofs.Common.{◌≡◌, ℤ, true, List, ◌∷◌, Some}
use Rattle.ipdl_base.specs.declared.kinds.Level.{Level}
use Rattle.ipdl_base.specs.declared.kinds.Level.TheVariants.{Not, InsideSync, InsideCpow}
use Rattle.ipdl_base.specs.declared.kinds.Side.TheVariants.{Parent, Child}
use Rattle.ipdl_base.specs.Deferral.{defers_request}
use Rattle.nesting_laws.specs.Calls.{Call, SyncEnd, SyncFrame, SyncPacket, sync_end, wait}
use Rattle.nesting_laws.specs.Chains.{Chain, Exchange, by_child, inside, queued, replied, requested, running}
use Rattle.nesting_laws.specs.Laws.{OneGivesWay}
use Rattle.nesting_laws.specs.Nested.{AreNested, beside_child, beside_parent, crossed, crossed_back, crossed_after, of_child, of_parent, overtaken, to_arrive, to_take}

-- the parent's wait on top has level inside_sync

caller-level : {base : List SyncFrame} {t : ℤ} {w : Call} {below : List SyncFrame} {arrived : List Call} {link : List SyncPacket} {b : SyncEnd} → Exchange base t Parent (sync_end (wait w ∷ below) arrived link) b → w.level ≡ InsideSync
caller-level (requested chain) = (parent-inside chain).0
caller-level (queued chain) = (parent-inside chain).0
caller-level (running chain) = (parent-inside chain).0
caller-level (replied chain) = (parent-inside chain).0

under-level : {base : List SyncFrame} {t : ℤ} {w q : Call} {below mine : List SyncFrame} → Chain base t Child q below (wait w ∷ mine) → w.level ≡ InsideSync
under-level (by_child a b c) = cc
under-level (inside f chain c d e g) = c

other-level : {base : List SyncFrame} {t : ℤ} {w : Call} {below : List SyncFrame} {arrived : List Call} {link : List SyncPacket} {a : SyncEnd} → Exchange base t Child a (sync_end (wait w ∷ below) arrived link) → w.level ≡ InsideSync
other-level (requested chain) = under-level chain
other-level (queued chain) = under-level chain
other-level (replied chain) = under-level chain

parent-level : {w : Call} {below : List SyncFrame} {others : List Call} {link : List SyncPacket} {c : SyncEnd} → AreNested (sync_end (wait w ∷ below) others link) c → w.level ≡ InsideSync
parent-level (of_parent exchange) = caller-level exchange
parent-level (of_child exchange) = other-level exchange
parent-level (beside_parent h d exchange w) = caller-level exchange
parent-level (beside_child h d exchange w) = other-level exchange
parent-level (overtaken h k) = h.level
parent-level (crossed h k is to_arrive comes) = h.level
parent-level (crossed h k is to_take comes) = h.level
parent-level (crossed_back h k is w) = h.level
parent-level (crossed_after h k is) = h.level

gives_way : (w v : Level) (m n : ℤ) → w ≡ InsideSync → defers_request Parent w (Some m) true v n ≡ true → defers_request Child v (Some n) true w m ≡ true → ⊥
gives_way InsideSync Not m n e h k = cc
gives_way InsideSync InsideSync m n e h k = cc
gives_way InsideSync InsideCpow m n e h k = cc
gives_way Not v m n e h k = cc
gives_way InsideCpow v m n e h k = cc

pub one_gives_way : OneGivesWay
one_gives_way w v below under others some link way n h k = gives_way w.level v.level w.transaction v.transaction (parent-level n) h k
