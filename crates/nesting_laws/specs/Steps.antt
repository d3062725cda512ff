-- What an open end may do with sync requests.
use Rattle.std.specs.Prelude.{◌≡◌, ℤ, pos, int_lt, Bool, true, false, List, [], ◌∷◌, ◌++◌, Some}
use Rattle.ipdl_base.specs.declared.kinds.Level.{Level}
use Rattle.ipdl_base.specs.declared.kinds.Level.TheVariants.{Not, InsideSync, InsideCpow}
use Rattle.ipdl_base.specs.declared.kinds.Side.{Side}
use Rattle.ipdl_base.specs.declared.kinds.Side.TheVariants.{Parent, Child}
use Rattle.ipdl_base.specs.Deferral.{defers_request}
use Rattle.nesting_laws.specs.Calls.{Call, reply_of, ReplyHead, SyncFrame, wait, dispatch, SyncPacket, request, reply, SyncEnd, sync_end}

-- a side sends calls of this level: the parent only those of level inside_sync
abbrev pub HasLevelOf : Side → Call → Type 0
HasLevelOf Parent q = q.level ≡ InsideSync
HasLevelOf Child q = Unit {0}

-- a transaction is named by a request of this side
abbrev pub IsTransactionOf : Side → ℤ → Type 0
IsTransactionOf Parent transaction = int_lt (pos 0) transaction ≡ true
IsTransactionOf Child transaction = int_lt (pos 0) transaction ≡ false

-- a level above `not`
abbrev pub IsAboveNot : Level → Type 0
IsAboveNot Not = ⊥
IsAboveNot InsideSync = Unit {0}
IsAboveNot InsideCpow = Unit {0}

-- a level below `inside_cpow`
abbrev pub IsBelowCpow : Level → Type 0
IsBelowCpow Not = Unit {0}
IsBelowCpow InsideSync = Unit {0}
IsBelowCpow InsideCpow = ⊥

-- while a call of the first level is handled, one of the second may be made
abbrev pub Allows : Level → Level → Type 0
Allows Not Not = Unit {0}
Allows Not InsideSync = ⊥
Allows Not InsideCpow = ⊥
Allows InsideSync level = IsAboveNot level
Allows InsideCpow level = ⊥

-- whether an end that waits for the first call defers the second
abbrev pub defers_call : Side → Call → Call → Bool
defers_call side w q = defers_request side w.level (Some w.transaction) true q.level q.transaction

-- an end that waits for the first call defers the second
abbrev pub DefersCall : Side → Call → Call → Type 0
DefersCall side w q = defers_call side w q ≡ true

-- an end with this stack may take the call: it has no wait, or its wait does not defer the call
abbrev pub MayTake : Side → List SyncFrame → Call → Type 0
MayTake side [] q = Unit {0}
MayTake side (wait w ∷ below) q = defers_call side w q ≡ false
MayTake side (dispatch d ∷ below) q = ⊥

-- the stack without its innermost wait
abbrev pub without_wait : List SyncFrame → List SyncFrame
without_wait [] = []
without_wait (wait q ∷ below) = below
without_wait (dispatch q ∷ below) = dispatch q ∷ without_wait below

-- The second list is the first with x inserted at some place.
pub data IsInserted {A : Type 0} (x : A) : List A → List A → Type 0 where
  here : {xs : List A} → IsInserted x xs (x ∷ xs)
  there : {y : A} {xs ys : List A} → IsInserted x xs ys → IsInserted x (y ∷ xs) (y ∷ ys)

-- A step of an open end, and what it sends: a call that begins a transaction, or a call while another is handled; a
-- request that arrives, or a reply, which ends the innermost wait; a request that is taken, or dropped with a reply;
-- a handler that returns.
pub data Step (side : Side) : SyncEnd → SyncEnd → List SyncPacket → Type 0 where
  calls : {q : Call} {arrived : List Call} {link : List SyncPacket} → HasLevelOf side q → IsTransactionOf side q.transaction → Step side (sync_end [] arrived link) (sync_end (wait q ∷ []) arrived link) (request q ∷ [])
  calls_inside : {q d : Call} {below : List SyncFrame} {arrived : List Call} {link : List SyncPacket} → HasLevelOf side q → Allows d.level q.level → (d.level ≡ InsideSync → q.transaction ≡ d.transaction) → Step side (sync_end (dispatch d ∷ below) arrived link) (sync_end (wait q ∷ dispatch d ∷ below) arrived link) (request q ∷ [])
  request_arrives : {q : Call} {stack : List SyncFrame} {arrived : List Call} {link : List SyncPacket} → Step side (sync_end stack arrived (request q ∷ link)) (sync_end stack (arrived ++ q ∷ []) link) []
  reply_arrives : {r : ReplyHead} {stack : List SyncFrame} {arrived : List Call} {link : List SyncPacket} → Step side (sync_end stack arrived (reply r ∷ link)) (sync_end (without_wait stack) arrived link) []
  takes : {q : Call} {stack : List SyncFrame} {arrived rest : List Call} {link : List SyncPacket} → IsInserted q rest arrived → MayTake side stack q → Step side (sync_end stack arrived link) (sync_end (dispatch q ∷ stack) rest link) []
  drops : {q : Call} {stack : List SyncFrame} {arrived rest : List Call} {link : List SyncPacket} → IsInserted q rest arrived → MayTake side stack q → Step side (sync_end stack arrived link) (sync_end stack rest link) (reply (reply_of q) ∷ [])
  returns : {d : Call} {below : List SyncFrame} {arrived : List Call} {link : List SyncPacket} → Step side (sync_end (dispatch d ∷ below) arrived link) (sync_end below arrived link) (reply (reply_of d) ∷ [])
