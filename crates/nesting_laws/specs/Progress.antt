-- Which wait a reply is for, and what can happen at an end by itself.
use Rattle.std.specs.Prelude.{◌≡◌, List, [], ◌∷◌}
use Rattle.ipdl_base.specs.declared.kinds.Side.{Side}
use Rattle.ipdl_base.specs.declared.kinds.Side.TheVariants as sides
use Rattle.nesting_laws.specs.Calls.{Call, ReplyHead, reply_of, SyncFrame, wait, dispatch, SyncPacket, SyncEnd, sync_end}
use Rattle.nesting_laws.specs.Steps.{MayTake, IsInserted}

-- a reply answers the call for which the frame on top waits
abbrev pub IsForTop : List SyncFrame → ReplyHead → Type 0
IsForTop [] r = ⊥
IsForTop (wait w ∷ below) r = reply_of w ≡ r
IsForTop (dispatch d ∷ below) r = ⊥

-- Something can happen at an end by itself: a packet is on the link toward it, or a dispatch is on top, or an arrived
-- request may be taken.
pub data CanMove (side : Side) : SyncEnd → Type 0 where
  delivers : {stack : List SyncFrame} {arrived : List Call} {first : SyncPacket} {link : List SyncPacket} → CanMove side (sync_end stack arrived (first ∷ link))
  returns : {d : Call} {below : List SyncFrame} {arrived : List Call} {link : List SyncPacket} → CanMove side (sync_end (dispatch d ∷ below) arrived link)
  takes : {q : Call} {stack : List SyncFrame} {rest arrived : List Call} {link : List SyncPacket} → IsInserted q rest arrived → MayTake side stack q → CanMove side (sync_end stack arrived link)

-- No end waits, or something can happen by itself at the parent or at the child.
pub data IsNotStuck : SyncEnd → SyncEnd → Type 0 where
  nobody : IsNotStuck (sync_end [] [] []) (sync_end [] [] [])
  at_parent : {p c : SyncEnd} → CanMove sides.Parent p → IsNotStuck p c
  at_child : {p c : SyncEnd} → CanMove sides.Child c → IsNotStuck p c
