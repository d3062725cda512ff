-- Chains of calls, each made while the one before is handled, and where the last call of a chain is.
use Rattle.std.specs.Prelude.{◌≡◌, ℤ, List, [], ◌∷◌}
use Rattle.ipdl_base.specs.declared.kinds.Level.TheVariants.{InsideSync}
use Rattle.ipdl_base.specs.declared.kinds.Side.{Side}
use Rattle.ipdl_base.specs.declared.kinds.Side.TheVariants.{Parent, Child}
use Rattle.nesting_laws.specs.Calls.{Call, reply_of, SyncFrame, wait, dispatch, request, reply, SyncEnd, sync_end}
use Rattle.nesting_laws.specs.Steps.{HasLevelOf, IsTransactionOf, IsAboveNot}

-- The two sides, one toward the other.
pub data Faces : Side → Side → Type 0 where
  down : Faces Parent Child
  up : Faces Child Parent

-- A chain of calls in one transaction. The side waits for the last call, which the other end does not handle yet, or
-- does not handle any more. The lists are the stack of the side below that wait, and the stack of the other end. The
-- first call was made above an empty stack, to an end that had the stack `base`. Each later call is made by the end
-- that handles the one before.
pub data Chain (base : List SyncFrame) (transaction : ℤ) : Side → Call → List SyncFrame → List SyncFrame → Type 0 where
  by_parent : {q : Call} → q.level ≡ InsideSync → q.transaction ≡ transaction → IsTransactionOf Parent transaction → Chain base transaction Parent q [] base
  by_child : {q : Call} → base ≡ [] → q.transaction ≡ transaction → IsTransactionOf Child transaction → Chain base transaction Child q [] base
  inside : {side facing : Side} {p q : Call} {below mine : List SyncFrame} → Faces side facing → Chain base transaction facing p below mine → p.level ≡ InsideSync → HasLevelOf side q → IsAboveNot q.level → q.transaction ≡ transaction → Chain base transaction side q (dispatch p ∷ mine) (wait p ∷ below)

-- A chain with the place of its last call: the request is on the link, has arrived, or is handled, or the reply is on
-- the link back. The first end is that of the side that waits for the last call.
pub data Exchange (base : List SyncFrame) (transaction : ℤ) : Side → SyncEnd → SyncEnd → Type 0 where
  requested : {side : Side} {q : Call} {below theirs : List SyncFrame} → Chain base transaction side q below theirs → Exchange base transaction side (sync_end (wait q ∷ below) [] []) (sync_end theirs [] (request q ∷ []))
  queued : {side : Side} {q : Call} {below theirs : List SyncFrame} → Chain base transaction side q below theirs → Exchange base transaction side (sync_end (wait q ∷ below) [] []) (sync_end theirs (q ∷ []) [])
  running : {side : Side} {q : Call} {below theirs : List SyncFrame} → Chain base transaction side q below theirs → Exchange base transaction side (sync_end (wait q ∷ below) [] []) (sync_end (dispatch q ∷ theirs) [] [])
  replied : {side : Side} {q : Call} {below theirs : List SyncFrame} → Chain base transaction side q below theirs → Exchange base transaction side (sync_end (wait q ∷ below) [] (reply (reply_of q) ∷ [])) (sync_end theirs [] [])
