-- How two open ends wait for one another.
use Rattle.std.specs.Prelude.{◌≡◌, ℤ, List, [], ◌∷◌}
use Rattle.ipdl_base.specs.declared.kinds.Level.TheVariants.{InsideCpow}
use Rattle.ipdl_base.specs.declared.kinds.Side.{Side}
use Rattle.ipdl_base.specs.declared.kinds.Side.TheVariants.{Parent, Child}
use Rattle.nesting_laws.specs.Calls.{Call, reply_of, SyncFrame, wait, dispatch, SyncPacket, request, reply, SyncEnd, sync_end}
use Rattle.nesting_laws.specs.Steps.{HasLevelOf, IsTransactionOf, IsBelowCpow, IsInserted}
use Rattle.nesting_laws.specs.Chains.{Exchange}

-- A call is beside others at an end: it has arrived among them, or its request is on the link among them. The first
-- lists, `others` and `packets`, are those without the call.
pub data IsBeside (x : Call) : List Call → List SyncPacket → List Call → List SyncPacket → Type 0 where
  in_arrived : {others arrived : List Call} {link : List SyncPacket} → IsInserted x others arrived → IsBeside x others link arrived link
  in_link : {arrived : List Call} {packets link : List SyncPacket} → IsInserted (request x) packets link → IsBeside x arrived packets arrived link

-- a call that begins a transaction of its side
pub record IsFirstCall (side : Side) (q : Call) : Type 0 where
  pub level : HasLevelOf side q
  pub transaction : IsTransactionOf side q.transaction

-- The parent's call is on the link toward the child or has arrived there.
pub data IsComing (q : Call) : List Call → List SyncPacket → Type 0 where
  on_way : IsComing q [] (request q ∷ [])
  at_hand : IsComing q (q ∷ []) []

-- The parent waits for its call q, and the child's x is on the link, has arrived, or is handled.
pub data IsServing (x q : Call) : SyncEnd → Type 0 where
  to_arrive : IsServing x q (sync_end (wait q ∷ []) [] (request x ∷ []))
  to_take : IsServing x q (sync_end (wait q ∷ []) (x ∷ []) [])
  on_top : IsServing x q (sync_end (dispatch x ∷ wait q ∷ []) [] [])

-- The parent and the child, both open, in one of nine shapes. No end waits (`idle`). There is one chain, and the
-- parent (`of_parent`) or the child (`of_child`) waits for its last call. Or the parent has begun a chain and the
-- child has made a call at the same time, the stray, for which it waits below the chain. A stray of a level below
-- inside_cpow is at the parent, which defers it until the chain has ended (`beside_parent`, `beside_child`), or the
-- parent has answered it before its own call (`overtaken`). With a stray of level inside_cpow the chain is one call,
-- which the child defers while the parent serves the stray: the stray comes or is handled (`crossed`), its reply is
-- on the link back (`crossed_back`), or its request follows the reply to the parent's call (`crossed_behind`).
pub data AreNested : SyncEnd → SyncEnd → Type 0 where
  idle : AreNested (sync_end [] [] []) (sync_end [] [] [])
  of_parent : {t : ℤ} {p c : SyncEnd} → Exchange [] t Parent p c → AreNested p c
  of_child : {t : ℤ} {p c : SyncEnd} → Exchange [] t Child c p → AreNested p c
  beside_parent : {t : ℤ} {x : Call} {stack : List SyncFrame} {others arrived : List Call} {packets link : List SyncPacket} {c : SyncEnd} → IsFirstCall Child x → IsBelowCpow x.level → Exchange (wait x ∷ []) t Parent (sync_end stack others packets) c → IsBeside x others packets arrived link → AreNested (sync_end stack arrived link) c
  beside_child : {t : ℤ} {x : Call} {stack : List SyncFrame} {others arrived : List Call} {packets link : List SyncPacket} {c : SyncEnd} → IsFirstCall Child x → IsBelowCpow x.level → Exchange (wait x ∷ []) t Child c (sync_end stack others packets) → IsBeside x others packets arrived link → AreNested (sync_end stack arrived link) c
  overtaken : {x q : Call} → IsFirstCall Parent q → IsFirstCall Child x → AreNested (sync_end (wait q ∷ []) [] []) (sync_end (wait x ∷ []) [] (reply (reply_of x) ∷ request q ∷ []))
  crossed : {x q : Call} {p : SyncEnd} {arrived : List Call} {link : List SyncPacket} → IsFirstCall Parent q → IsFirstCall Child x → x.level ≡ InsideCpow → IsServing x q p → IsComing q arrived link → AreNested p (sync_end (wait x ∷ []) arrived link)
  crossed_back : {x q : Call} {arrived : List Call} {link : List SyncPacket} → IsFirstCall Parent q → IsFirstCall Child x → x.level ≡ InsideCpow → IsBeside q [] (reply (reply_of x) ∷ []) arrived link → AreNested (sync_end (wait q ∷ []) [] []) (sync_end (wait x ∷ []) arrived link)
  crossed_after : {x q : Call} → IsFirstCall Parent q → IsFirstCall Child x → x.level ≡ InsideCpow → AreNested (sync_end (wait q ∷ []) [] (reply (reply_of q) ∷ request x ∷ [])) (sync_end (wait x ∷ []) [] [])
