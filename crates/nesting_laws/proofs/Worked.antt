-- Two ends at work: calls that cross, one inside another, and which steps are possible.
use Rattle.std.proofs.Common.{ℤ, pos, negsuc, List, [], ◌∷◌, refl}
use Rattle.ipdl_base.specs.declared.kinds.Level.{Level}
use Rattle.ipdl_base.specs.declared.kinds.Level.TheVariants.{Not, InsideSync, InsideCpow}
use Rattle.ipdl_base.specs.declared.kinds.Side.TheVariants.{Parent, Child}
use Rattle.nesting_laws.specs.Calls.{Call, SyncFrame, wait, dispatch, request, reply, farewell, SyncEnd, sync_end, reply_of}
use Rattle.nesting_laws.specs.Steps.{DefersCall, here, Step, calls, calls_inside, request_arrives, takes}
use Rattle.nesting_laws.specs.Chains.{down, up, Chain, by_parent, inside, requested, queued}
use Rattle.nesting_laws.specs.Nested.{IsFirstCall, in_arrived, in_link, on_way, to_take, AreNested, beside_parent, overtaken, crossed}
use Rattle.nesting_laws.specs.Alone.{IsAlone}
use Rattle.nesting_laws.specs.Progress.{IsForTop, IsNotStuck}
use Rattle.nesting_laws.proofs.NestedSteps.{nesting_stays}
use Rattle.nesting_laws.proofs.AloneSteps.{alone_stays}
use Rattle.nesting_laws.proofs.Replies.{replies_are_for_top}
use Rattle.nesting_laws.proofs.Progress.{nobody_is_stuck}
use Rattle.nesting_laws.proofs.GivingWay.{one_gives_way}

-- a call with this number in this transaction
abbrev call : Level → ℤ → ℤ → Call
call level seq transaction = record { level = level; seq = seq; transaction = transaction; route = pos 2147483647; number = 6 }

-- The parent's first call and the child's, which begin transactions of their own, and calls inside the parent's.

abbrev q1 : Call
q1 = call InsideSync (pos 1) (pos 1)

abbrev x1 : Level → Call
x1 level = call level (negsuc 0) (negsuc 0)

abbrev q2 : Call
q2 = call InsideSync (negsuc 1) (pos 1)

abbrev q3 : Call
q3 = call InsideSync (pos 2) (pos 1)

first_of_parent : IsFirstCall Parent q1
first_of_parent = record { level = refl; transaction = refl }

first_of_child : (level : Level) → IsFirstCall Child (x1 level)
first_of_child level = record { level = tt; transaction = refl }

-- Both ends call at once, at one level: the parent's call begins a chain, and the child's is the stray.

abbrev parent_calls : SyncEnd
parent_calls = sync_end (wait q1 ∷ []) [] (request (x1 InsideSync) ∷ [])

abbrev child_calls : SyncEnd
child_calls = sync_end (wait (x1 InsideSync) ∷ []) [] (request q1 ∷ [])

at_once : AreNested parent_calls child_calls
at_once = beside_parent (first_of_child InsideSync) tt (requested (by_parent refl refl refl)) (in_link here)

-- each end has made its call by a step
parent_called : Step Parent (sync_end [] [] []) (sync_end (wait q1 ∷ []) [] []) (request q1 ∷ [])
parent_called = calls refl refl

child_called : Step Child (sync_end [] [] (request q1 ∷ [])) child_calls (request (x1 InsideSync) ∷ [])
child_called = calls tt refl

-- the parent defers the child's call, and the child takes the parent's
parent_defers : DefersCall Parent q1 (x1 InsideSync)
parent_defers = refl

child_takes : Step Child (sync_end (wait (x1 InsideSync) ∷ []) (q1 ∷ []) []) (sync_end (dispatch q1 ∷ wait (x1 InsideSync) ∷ []) [] []) []
child_takes = takes here refl

-- so the two calls do not defer each other
child_does_not_defer : DefersCall Child (x1 InsideSync) q1 → ⊥
child_does_not_defer h = one_gives_way q1 (x1 InsideSync) [] [] [] [] (request (x1 InsideSync) ∷ []) (request q1 ∷ []) at_once parent_defers h

-- and something can happen
at_once_goes_on : IsNotStuck parent_calls child_calls
at_once_goes_on = nobody_is_stuck.nested parent_calls child_calls at_once

-- a delivery at the child keeps them nested
delivered_at_child : AreNested parent_calls (sync_end (wait (x1 InsideSync) ∷ []) (q1 ∷ []) [])
delivered_at_child = nesting_stays.child parent_calls child_calls (sync_end (wait (x1 InsideSync) ∷ []) (q1 ∷ []) []) [] at_once request_arrives

-- The parent has answered the child's call, and calls before the reply is delivered.

overtaken_stray : AreNested (sync_end (wait q1 ∷ []) [] []) (sync_end (wait (x1 Not) ∷ []) [] (reply (reply_of (x1 Not)) ∷ request q1 ∷ []))
overtaken_stray = overtaken first_of_parent (first_of_child Not)

reply_is_for_top : IsForTop (wait (x1 Not) ∷ []) (reply_of (x1 Not))
reply_is_for_top = replies_are_for_top.child (wait (x1 Not) ∷ []) [] (reply_of (x1 Not)) (request q1 ∷ []) (sync_end (wait q1 ∷ []) [] []) overtaken_stray

-- Calls cross, the child's of level inside_cpow: the parent serves it while the child defers the parent's.

crossed_cpow : AreNested (sync_end (wait q1 ∷ []) (x1 InsideCpow ∷ []) []) (sync_end (wait (x1 InsideCpow) ∷ []) [] (request q1 ∷ []))
crossed_cpow = crossed first_of_parent (first_of_child InsideCpow) refl to_take on_way

child_defers : DefersCall Child (x1 InsideCpow) q1
child_defers = refl

parent_takes : Step Parent (sync_end (wait q1 ∷ []) (x1 InsideCpow ∷ []) []) (sync_end (dispatch (x1 InsideCpow) ∷ wait q1 ∷ []) [] []) []
parent_takes = takes here refl

-- while the parent handles the call, it may not call
no_call_inside_cpow : {next : SyncEnd} {q : Call} → Step Parent (sync_end (dispatch (x1 InsideCpow) ∷ wait q1 ∷ []) [] []) next (request q ∷ []) → ⊥
no_call_inside_cpow (calls_inside h k e) = k

-- Three calls inside one another, of sides that take turns, in one transaction, above a stray of the child.

abbrev parent_stack : List SyncFrame
parent_stack = wait q3 ∷ dispatch q2 ∷ wait q1 ∷ []

abbrev child_stack : List SyncFrame
child_stack = wait q2 ∷ dispatch q1 ∷ wait (x1 InsideSync) ∷ []

three_deep : Chain (wait (x1 InsideSync) ∷ []) (pos 1) Parent q3 (dispatch q2 ∷ wait q1 ∷ []) child_stack
three_deep = inside down (inside up (by_parent refl refl refl) refl tt tt refl) refl refl tt refl

third_has_arrived : AreNested (sync_end parent_stack (x1 InsideSync ∷ []) []) (sync_end child_stack (q3 ∷ []) [])
third_has_arrived = beside_parent (first_of_child InsideSync) tt (queued three_deep) (in_arrived here)

-- A parent that closes then leaves the child alone.
child_is_alone : IsAlone Child (sync_end child_stack (q3 ∷ []) (farewell ∷ []))
child_is_alone = alone_stays.child (sync_end parent_stack (x1 InsideSync ∷ []) []) (sync_end child_stack (q3 ∷ []) []) third_has_arrived
