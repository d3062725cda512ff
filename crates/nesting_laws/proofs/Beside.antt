-- A call beside others at an end: a step of the end is about one of the others, or about this call.
use Rattle.std.proofs.Common.{◌≡◌, List, [], ◌∷◌, ◌++◌, refl, subst}
use Rattle.ipdl_base.specs.declared.kinds.Side.{Side}
use Rattle.nesting_laws.specs.Calls.{Call, SyncEnd, SyncFrame, SyncPacket, dispatch, reply, reply_of, sync_end}
use Rattle.nesting_laws.specs.Nested.{IsBeside, in_arrived, in_link}
use Rattle.nesting_laws.specs.Steps.{IsInserted, MayTake, Step, calls, calls_inside, drops, here, reply_arrives, request_arrives, returns, takes, there}

pub inserted-append : {A : Type 0} {x : A} {others all : List A} (tail : List A) → IsInserted x others all → IsInserted x (others ++ tail) (all ++ tail)
inserted-append tail here = here
inserted-append tail (there i) = there (inserted-append tail i)

pub inserted-last : {A : Type 0} {x : A} (others : List A) → IsInserted x others (others ++ x ∷ [])
inserted-last [] = here
inserted-last (y ∷ others) = there (inserted-last others)

-- Two places in a list: they are the same, or each element stays in the list without the other.
data TwoPlaces {A : Type 0} (x y : A) (without_x without_y : List A) : Type 0 where
  one_place : y ≡ x → TwoPlaces x y without_x without_y
  two_places : {rest : List A} → IsInserted y rest without_x → IsInserted x rest without_y → TwoPlaces x y without_x without_y

two-there : {A : Type 0} {x y z : A} {without_x without_y : List A} → TwoPlaces x y without_x without_y → TwoPlaces x y (z ∷ without_x) (z ∷ without_y)
two-there (one_place e) = one_place e
two-there (two_places i j) = two_places (there i) (there j)

two-places : {A : Type 0} {x y : A} {without_x without_y all : List A} → IsInserted x without_x all → IsInserted y without_y all → TwoPlaces x y without_x without_y
two-places here here = one_place refl
two-places here (there j) = two_places j here
two-places (there i) here = two_places here i
two-places (there i) (there j) = two-there (two-places i j)

pub beside-append : {x : Call} {others all : List Call} {packets link : List SyncPacket} (sent : List SyncPacket) → IsBeside x others packets all link → IsBeside x others (packets ++ sent) all (link ++ sent)
beside-append sent (in_arrived i) = in_arrived i
beside-append sent (in_link i) = in_link (inserted-append sent i)

-- What a step of an end with the call x beside others is: x arrives, or the end may take x, or the step is possible
-- without x and leaves x beside the remaining calls.
pub data StepBeside (x : Call) (side : Side) (stack : List SyncFrame) (others : List Call) (packets : List SyncPacket) : SyncEnd → List SyncPacket → Type 0 where
  arrives : {all : List Call} {link : List SyncPacket} → IsBeside x others packets all link → StepBeside x side stack others packets (sync_end stack all link) []
  may_take : {next : SyncEnd} {sent : List SyncPacket} → MayTake side stack x → StepBeside x side stack others packets next sent
  without : {new : List SyncFrame} {others' all' : List Call} {packets' link' sent : List SyncPacket} → Step side (sync_end stack others packets) (sync_end new others' packets') sent → IsBeside x others' packets' all' link' → StepBeside x side stack others packets (sync_end new all' link') sent

beside-takes : {x q : Call} {side : Side} {stack : List SyncFrame} {others rest : List Call} {link : List SyncPacket} → MayTake side stack q → TwoPlaces x q others rest → StepBeside x side stack others link (sync_end (dispatch q ∷ stack) rest link) []
beside-takes {x} {q} {side} {stack} may (one_place e) = may_take (subst (MayTake side stack) e may)
beside-takes may (two_places i j) = without (takes i may) (in_arrived j)

beside-drops : {x q : Call} {side : Side} {stack : List SyncFrame} {others rest : List Call} {link : List SyncPacket} → MayTake side stack q → TwoPlaces x q others rest → StepBeside x side stack others link (sync_end stack rest link) (reply (reply_of q) ∷ [])
beside-drops {x} {q} {side} {stack} may (one_place e) = may_take (subst (MayTake side stack) e may)
beside-drops may (two_places i j) = without (drops i may) (in_arrived j)

pub step-beside : {x : Call} {side : Side} {stack : List SyncFrame} {others all : List Call} {packets link : List SyncPacket} {next : SyncEnd} {sent : List SyncPacket} → IsBeside x others packets all link → Step side (sync_end stack all link) next sent → StepBeside x side stack others packets next sent
step-beside w (calls a b) = without (calls a b) w
step-beside w (calls_inside a b c) = without (calls_inside a b c) w
step-beside (in_arrived i) (request_arrives {q}) = without request_arrives (in_arrived (inserted-append (q ∷ []) i))
step-beside (in_link here) (request_arrives {arrived}) = arrives (in_arrived (inserted-last arrived))
step-beside (in_link (there i)) request_arrives = without request_arrives (in_link i)
step-beside (in_arrived i) reply_arrives = without reply_arrives (in_arrived i)
step-beside (in_link (there i)) reply_arrives = without reply_arrives (in_link i)
step-beside (in_arrived i) (takes j may) = beside-takes may (two-places i j)
step-beside (in_link i) (takes j may) = without (takes j may) (in_link i)
step-beside (in_arrived i) (drops j may) = beside-drops may (two-places i j)
step-beside (in_link i) (drops j may) = without (drops j may) (in_link i)
step-beside w returns = without returns w
