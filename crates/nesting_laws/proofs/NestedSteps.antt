-- Every step of an open end keeps the shape in which both ends wait.
use Rattle.std.proofs.Common.{◌≡◌, ℤ, List, [], ◌∷◌, refl, sym, subst}
use Rattle.ipdl_base.specs.declared.kinds.Level.{Level}
use Rattle.ipdl_base.specs.declared.kinds.Level.TheVariants.{Not, InsideSync, InsideCpow}
use Rattle.ipdl_base.specs.declared.kinds.Side.{Side}
use Rattle.ipdl_base.specs.declared.kinds.Side.TheVariants.{Parent, Child}
use Rattle.nesting_laws.proofs.Beside.{StepBeside, arrives, beside-append, may_take, step-beside, without}
use Rattle.nesting_laws.proofs.Deferrals.{beside-not_taken, cpow-not_taken}
use Rattle.nesting_laws.proofs.Exchanges.{AfterCaller, AfterOther, IsInside, back, called, called_beside, caller-step, ended, none-inserted, of-parent, other-step, parent-inside, parent-inside_too, stays, with-nothing}
use Rattle.nesting_laws.specs.Calls.{Call, SyncEnd, SyncFrame, SyncPacket, reply, reply_of, request, sync_end, wait, with_packets}
use Rattle.nesting_laws.specs.Chains.{Exchange, by_child, by_parent, down, queued, replied, requested, running, up}
use Rattle.nesting_laws.specs.Laws.{NestingStays}
use Rattle.nesting_laws.specs.Nested.{AreNested, IsBeside, IsComing, IsFirstCall, IsServing, at_hand, beside_child, beside_parent, crossed, crossed_back, crossed_after, idle, in_arrived, in_link, of_child, of_parent, on_top, on_way, overtaken, to_arrive, to_take}
use Rattle.nesting_laws.specs.Steps.{Allows, IsBelowCpow, IsTransactionOf, Step, calls, calls_inside, drops, here, reply_arrives, request_arrives, returns, takes, there}

-- a chain that continues between its ends where nothing is sent
nothing_sent : {p c : SyncEnd} → AreNested p c → AreNested p (with_packets c [])
nothing_sent {p} {c} n = subst (AreNested p) (sym (with-nothing c)) n

nothing_sent_up : {p c : SyncEnd} → AreNested p c → AreNested (with_packets p []) c
nothing_sent_up {p} {c} n = subst (λ (h : SyncEnd). AreNested h c) (sym (with-nothing p)) n

-- Calls at one time

below_cpow : (x : Call) (level : Level) → x.level ≡ level → IsBelowCpow level → IsBelowCpow x.level
below_cpow x level is h = subst IsBelowCpow (sym is) h

-- the child calls, at a level that the parent defers, beside a chain that the parent has begun
child_calls_below : (x : Call) {t : ℤ} {p : SyncEnd} {others : List Call} {link : List SyncPacket} → IsBelowCpow x.level → IsTransactionOf Child x.transaction → Exchange [] t Parent p (sync_end [] others link) → AreNested (with_packets p (request x ∷ [])) (sync_end (wait x ∷ []) others link)
child_calls_below x d of (requested (by_parent a b c)) = beside_parent (record { level = tt; transaction = of }) d (requested (by_parent a b c)) (in_link here)
child_calls_below x d of (queued (by_parent a b c)) = beside_parent (record { level = tt; transaction = of }) d (queued (by_parent a b c)) (in_link here)
child_calls_below x d of (replied (by_parent {q} a b c)) = beside_parent (record { level = tt; transaction = of }) d (replied (by_parent {q = q} a b c)) (in_link (there here))

child_calls_cpow : (x : Call) {t : ℤ} {p : SyncEnd} {others : List Call} {link : List SyncPacket} → x.level ≡ InsideCpow → IsTransactionOf Child x.transaction → Exchange [] t Parent p (sync_end [] others link) → AreNested (with_packets p (request x ∷ [])) (sync_end (wait x ∷ []) others link)
child_calls_cpow x is of (requested (by_parent a b c)) = crossed (record { level = a; transaction = subst (IsTransactionOf Parent) (sym b) c }) (record { level = tt; transaction = of }) is to_arrive on_way
child_calls_cpow x is of (queued (by_parent a b c)) = crossed (record { level = a; transaction = subst (IsTransactionOf Parent) (sym b) c }) (record { level = tt; transaction = of }) is to_arrive at_hand
child_calls_cpow x is of (replied (by_parent a b c)) = crossed_after (record { level = a; transaction = subst (IsTransactionOf Parent) (sym b) c }) (record { level = tt; transaction = of }) is

child_calls : (x : Call) (level : Level) {t : ℤ} {p : SyncEnd} {others : List Call} {link : List SyncPacket} → x.level ≡ level → IsTransactionOf Child x.transaction → Exchange [] t Parent p (sync_end [] others link) → AreNested (with_packets p (request x ∷ [])) (sync_end (wait x ∷ []) others link)
child_calls x Not is of exchange = child_calls_below x (below_cpow x Not is tt) of exchange
child_calls x InsideSync is of exchange = child_calls_below x (below_cpow x InsideSync is tt) of exchange
child_calls x InsideCpow is of exchange = child_calls_cpow x is of exchange

-- the parent calls beside a chain that the child has begun
parent_beside : (q x : Call) (level : Level) {others : List Call} {link : List SyncPacket} → x.level ≡ level → IsFirstCall Parent q → IsFirstCall Child x → IsBeside x [] [] others link → AreNested (sync_end (wait q ∷ []) others link) (sync_end (wait x ∷ []) [] (request q ∷ []))
parent_beside q x Not is h k w = beside_parent k (below_cpow x Not is tt) (requested (by_parent h.level refl h.transaction)) w
parent_beside q x InsideSync is h k w = beside_parent k (below_cpow x InsideSync is tt) (requested (by_parent h.level refl h.transaction)) w
parent_beside q x InsideCpow is h k (in_arrived here) = crossed h k is to_take on_way
parent_beside q x InsideCpow is h k (in_link here) = crossed h k is to_arrive on_way

parent_calls : (q : Call) {t : ℤ} {c : SyncEnd} {others : List Call} {link : List SyncPacket} → IsFirstCall Parent q → Exchange [] t Child c (sync_end [] others link) → AreNested (sync_end (wait q ∷ []) others link) (with_packets c (request q ∷ []))
parent_calls q h (requested (by_child {q = x} a b c)) = parent_beside q x x.level refl h (record { level = tt; transaction = subst (IsTransactionOf Child) (sym b) c }) (in_link here)
parent_calls q h (queued (by_child {q = x} a b c)) = parent_beside q x x.level refl h (record { level = tt; transaction = subst (IsTransactionOf Child) (sym b) c }) (in_arrived here)
parent_calls q h (replied (by_child {q = x} a b c)) = overtaken h (record { level = tt; transaction = subst (IsTransactionOf Child) (sym b) c })

-- Steps of the parent

-- the result for its own chain
parent_returned : {t : ℤ} {next c : SyncEnd} {sent : List SyncPacket} → AfterCaller [] t Parent next sent c → AreNested next (with_packets c sent)
parent_returned (ended e) = idle
parent_returned (back down exchange) = nothing_sent (of_child exchange)

parent_went : {t : ℤ} {c p next : SyncEnd} {sent : List SyncPacket} → Exchange [] t Child c p → AfterOther [] t Child Parent c p next sent → AreNested next (with_packets c sent)
parent_went exchange (stays new) = of_child new
parent_went exchange (called new) = of_parent new
parent_went exchange (called_beside {q} level is) = parent_calls q (record { level = level; transaction = is }) exchange

-- a call of the child that has waited begins a chain
freed : {x : Call} {others : List Call} {link : List SyncPacket} → IsFirstCall Child x → IsBeside x [] [] others link → AreNested (sync_end [] others link) (sync_end (wait x ∷ []) [] [])
freed h (in_arrived here) = of_child (queued (by_child refl refl h.transaction))
freed h (in_link here) = of_child (requested (by_child refl refl h.transaction))

-- with a stray below them the child's stack is not empty
unmet : {x : Call} {t : ℤ} {s : Side} {a : SyncEnd} {others : List Call} {link : List SyncPacket} {A : Type 0} → Exchange (wait x ∷ []) t s a (sync_end [] others link) → A
unmet (requested chain) = elim chain [ ]
unmet (queued chain) = elim chain [ ]
unmet (replied chain) = elim chain [ ]

-- the same beside a call of the child
parent_returned_beside : {t : ℤ} {x : Call} {stack : List SyncFrame} {others all : List Call} {packets link : List SyncPacket} {c : SyncEnd} {sent : List SyncPacket} → IsFirstCall Child x → IsBelowCpow x.level → AfterCaller (wait x ∷ []) t Parent (sync_end stack others packets) sent c → IsBeside x others packets all link → AreNested (sync_end stack all link) (with_packets c sent)
parent_returned_beside h d (ended e) w = freed h w
parent_returned_beside h d (back down exchange) w = nothing_sent (beside_child h d exchange w)

parent_went_beside : {t : ℤ} {x : Call} {c p : SyncEnd} {stack : List SyncFrame} {others all : List Call} {packets link : List SyncPacket} {sent : List SyncPacket} → IsFirstCall Child x → IsBelowCpow x.level → Exchange (wait x ∷ []) t Child c p → AfterOther (wait x ∷ []) t Child Parent c p (sync_end stack others packets) sent → IsBeside x others packets all link → AreNested (sync_end stack all link) (with_packets c sent)
parent_went_beside h d exchange (stays new) w = beside_child h d new w
parent_went_beside h d exchange (called new) w = beside_parent h d new w
parent_went_beside h d exchange (called_beside level is) w = unmet exchange

parent_beside_parent : {t : ℤ} {x : Call} {stack : List SyncFrame} {others : List Call} {packets : List SyncPacket} {c next : SyncEnd} {sent : List SyncPacket}
    → IsFirstCall Child x → IsBelowCpow x.level → IsInside t stack → IsTransactionOf Parent t → Exchange (wait x ∷ []) t Parent (sync_end stack others packets) c → StepBeside x Parent stack others packets next sent → AreNested next (with_packets c sent)
parent_beside_parent h d inside_it of exchange (arrives w) = nothing_sent (beside_parent h d exchange w)
parent_beside_parent {t} {x} {stack} h d inside_it of exchange (may_take may) = beside-not_taken t x stack inside_it of d h.transaction may
parent_beside_parent h d inside_it of exchange (without step w) = parent_returned_beside h d (caller-step exchange step) w

parent_beside_child : {t : ℤ} {x : Call} {stack : List SyncFrame} {others : List Call} {packets : List SyncPacket} {c next : SyncEnd} {sent : List SyncPacket}
    → IsFirstCall Child x → IsBelowCpow x.level → IsInside t stack → IsTransactionOf Parent t → Exchange (wait x ∷ []) t Child c (sync_end stack others packets) → StepBeside x Parent stack others packets next sent → AreNested next (with_packets c sent)
parent_beside_child h d inside_it of exchange (arrives w) = nothing_sent (beside_child h d exchange w)
parent_beside_child {t} {x} {stack} h d inside_it of exchange (may_take may) = beside-not_taken t x stack inside_it of d h.transaction may
parent_beside_child h d inside_it of exchange (without step w) = parent_went_beside h d exchange (other-step tt down exchange step) w

-- a property of the parent's stack in a chain that it has begun, with a call of the child beside
pub caller-inside : {x : Call} {t : ℤ} {stack : List SyncFrame} {others : List Call} {packets : List SyncPacket} {c : SyncEnd} → Exchange (wait x ∷ []) t Parent (sync_end stack others packets) c → IsInside t stack × IsTransactionOf Parent t
caller-inside (requested chain) = (parent-inside chain, of-parent chain)
caller-inside (queued chain) = (parent-inside chain, of-parent chain)
caller-inside (running chain) = (parent-inside chain, of-parent chain)
caller-inside (replied chain) = (parent-inside chain, of-parent chain)

pub other-inside : {x : Call} {t : ℤ} {stack : List SyncFrame} {others : List Call} {packets : List SyncPacket} {c : SyncEnd} → Exchange (wait x ∷ []) t Child c (sync_end stack others packets) → IsInside t stack × IsTransactionOf Parent t
other-inside (requested chain) = (parent-inside_too chain, of-parent chain)
other-inside (queued chain) = (parent-inside_too chain, of-parent chain)
other-inside (running chain) = (tt, of-parent chain)
other-inside (replied chain) = (parent-inside_too chain, of-parent chain)

-- the answer to the child's call of level inside_cpow follows the parent's call, or is beside it
answered_beside : {x q : Call} {others : List Call} {link : List SyncPacket} → IsFirstCall Parent q → IsFirstCall Child x → x.level ≡ InsideCpow → IsComing q others link → AreNested (sync_end (wait q ∷ []) [] []) (with_packets (sync_end (wait x ∷ []) others link) (reply (reply_of x) ∷ []))
answered_beside h k is on_way = crossed_back h k is (in_link here)
answered_beside h k is at_hand = crossed_back h k is (in_arrived here)

allows_nothing : {A : Type 0} (d q : Level) → d ≡ InsideCpow → Allows d q → A
allows_nothing InsideCpow q e h = absurd h
allows_nothing Not q e h = cc
allows_nothing InsideSync q e h = cc

parent_serves : {x q : Call} {p next : SyncEnd} {others : List Call} {link sent : List SyncPacket} → IsFirstCall Parent q → IsFirstCall Child x → x.level ≡ InsideCpow → IsServing x q p → IsComing q others link → Step Parent p next sent → AreNested next (with_packets (sync_end (wait x ∷ []) others link) sent)
parent_serves h k is to_arrive comes request_arrives = nothing_sent (crossed h k is to_take comes)
parent_serves h k is to_arrive comes (takes i may) = none-inserted i
parent_serves h k is to_arrive comes (drops i may) = none-inserted i
parent_serves h k is to_take comes (takes here may) = nothing_sent (crossed h k is on_top comes)
parent_serves h k is to_take comes (takes (there i) may) = none-inserted i
parent_serves h k is to_take comes (drops here may) = answered_beside h k is comes
parent_serves h k is to_take comes (drops (there i) may) = none-inserted i
parent_serves {x} h k is on_top comes (calls_inside {q = new} a b c) = allows_nothing x.level new.level is b
parent_serves h k is on_top comes (takes i may) = none-inserted i
parent_serves h k is on_top comes (drops i may) = none-inserted i
parent_serves h k is on_top comes returns = answered_beside h k is comes

pub parent_step : {p c next : SyncEnd} {sent : List SyncPacket} → AreNested p c → Step Parent p next sent → AreNested next (with_packets c sent)
parent_step idle (calls level is) = of_parent (requested (by_parent level refl is))
parent_step idle (takes i may) = none-inserted i
parent_step idle (drops i may) = none-inserted i
parent_step (of_parent exchange) step = parent_returned (caller-step exchange step)
parent_step (of_child exchange) step = parent_went exchange (other-step tt down exchange step)
parent_step (beside_parent h d exchange w) step = parent_beside_parent h d (caller-inside exchange).0 (caller-inside exchange).1 exchange (step-beside w step)
parent_step (beside_child h d exchange w) step = parent_beside_child h d (other-inside exchange).0 (other-inside exchange).1 exchange (step-beside w step)
parent_step (overtaken h k) (takes i may) = none-inserted i
parent_step (overtaken h k) (drops i may) = none-inserted i
parent_step (crossed h k is serves comes) step = parent_serves h k is serves comes step
parent_step (crossed_back h k is w) (takes i may) = none-inserted i
parent_step (crossed_back h k is w) (drops i may) = none-inserted i
parent_step (crossed_after h k is) reply_arrives = of_child (requested (by_child refl refl k.transaction))
parent_step (crossed_after h k is) (takes i may) = none-inserted i
parent_step (crossed_after h k is) (drops i may) = none-inserted i

-- Steps of the child

child_returned : {t : ℤ} {next p : SyncEnd} {sent : List SyncPacket} → AfterCaller [] t Child next sent p → AreNested (with_packets p sent) next
child_returned (ended e) = idle
child_returned (back up exchange) = nothing_sent_up (of_parent exchange)

child_went : {t : ℤ} {p c next : SyncEnd} {sent : List SyncPacket} → Exchange [] t Parent p c → AfterOther [] t Parent Child p c next sent → AreNested (with_packets p sent) next
child_went exchange (stays new) = of_parent new
child_went exchange (called new) = of_child new
child_went exchange (called_beside {q} level is) = child_calls q q.level refl is exchange

child_went_beside : {t : ℤ} {x : Call} {c next : SyncEnd} {stack : List SyncFrame} {others all : List Call} {packets link sent : List SyncPacket}
    → IsFirstCall Child x → IsBelowCpow x.level → Exchange (wait x ∷ []) t Parent (sync_end stack others packets) c → AfterOther (wait x ∷ []) t Parent Child (sync_end stack others packets) c next sent → IsBeside x others packets all link → AreNested (with_packets (sync_end stack all link) sent) next
child_went_beside {sent} h d exchange (stays new) w = beside_parent h d new (beside-append sent w)
child_went_beside {sent} h d exchange (called new) w = beside_child h d new (beside-append sent w)
child_went_beside h d exchange (called_beside level is) w = unmet exchange

child_returned_beside : {t : ℤ} {x : Call} {next : SyncEnd} {stack : List SyncFrame} {others all : List Call} {packets link sent : List SyncPacket}
    → IsFirstCall Child x → IsBelowCpow x.level → AfterCaller (wait x ∷ []) t Child next sent (sync_end stack others packets) → IsBeside x others packets all link → AreNested (with_packets (sync_end stack all link) sent) next
child_returned_beside h d (ended e) w = cc
child_returned_beside h d (back up exchange) w = nothing_sent_up (beside_parent h d exchange w)

-- the parent's call comes to a child that waits at level inside_cpow
child_comes : {x q : Call} {p next : SyncEnd} {others : List Call} {link sent : List SyncPacket} → IsFirstCall Parent q → IsFirstCall Child x → x.level ≡ InsideCpow → IsServing x q p → IsComing q others link → Step Child (sync_end (wait x ∷ []) others link) next sent → AreNested (with_packets p sent) next
child_comes h k is serves on_way request_arrives = nothing_sent_up (crossed h k is serves at_hand)
child_comes h k is serves on_way (takes i may) = none-inserted i
child_comes h k is serves on_way (drops i may) = none-inserted i
child_comes {x} {q} h k is serves at_hand (takes here may) = cpow-not_taken x q [] is h.level may
child_comes h k is serves at_hand (takes (there i) may) = none-inserted i
child_comes {x} {q} h k is serves at_hand (drops here may) = cpow-not_taken x q [] is h.level may
child_comes h k is serves at_hand (drops (there i) may) = none-inserted i

child_waits : {x q : Call} {next : SyncEnd} {others : List Call} {link sent : List SyncPacket} → IsFirstCall Parent q → IsFirstCall Child x → x.level ≡ InsideCpow → IsBeside q [] (reply (reply_of x) ∷ []) others link → Step Child (sync_end (wait x ∷ []) others link) next sent → AreNested (with_packets (sync_end (wait q ∷ []) [] []) sent) next
child_waits h k is (in_arrived here) reply_arrives = of_parent (queued (by_parent h.level refl h.transaction))
child_waits {x} {q} h k is (in_arrived here) (takes here may) = cpow-not_taken x q [] is h.level may
child_waits h k is (in_arrived here) (takes (there i) may) = none-inserted i
child_waits {x} {q} h k is (in_arrived here) (drops here may) = cpow-not_taken x q [] is h.level may
child_waits h k is (in_arrived here) (drops (there i) may) = none-inserted i
child_waits h k is (in_link here) request_arrives = crossed_back h k is (in_arrived here)
child_waits h k is (in_link here) (takes i may) = none-inserted i
child_waits h k is (in_link here) (drops i may) = none-inserted i
child_waits h k is (in_link (there here)) reply_arrives = of_parent (requested (by_parent h.level refl h.transaction))
child_waits h k is (in_link (there here)) (takes i may) = none-inserted i
child_waits h k is (in_link (there here)) (drops i may) = none-inserted i

pub child_step : {p c next : SyncEnd} {sent : List SyncPacket} → AreNested p c → Step Child c next sent → AreNested (with_packets p sent) next
child_step idle (calls level is) = of_child (requested (by_child refl refl is))
child_step idle (takes i may) = none-inserted i
child_step idle (drops i may) = none-inserted i
child_step (of_parent exchange) step = child_went exchange (other-step tt up exchange step)
child_step (of_child exchange) step = child_returned (caller-step exchange step)
child_step (beside_parent h d exchange w) step = child_went_beside h d exchange (other-step tt up exchange step) w
child_step (beside_child h d exchange w) step = child_returned_beside h d (caller-step exchange step) w
child_step (overtaken h k) reply_arrives = of_parent (requested (by_parent h.level refl h.transaction))
child_step (overtaken h k) (takes i may) = none-inserted i
child_step (overtaken h k) (drops i may) = none-inserted i
child_step (crossed h k is serves comes) step = child_comes h k is serves comes step
child_step (crossed_back h k is w) step = child_waits h k is w step
child_step (crossed_after h k is) (takes i may) = none-inserted i
child_step (crossed_after h k is) (drops i may) = none-inserted i

pub nesting_stays : NestingStays
nesting_stays = record { parent = λ p c next sent n step. parent_step n step; child = λ p c next sent n step. child_step n step }
