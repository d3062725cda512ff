-- What follows for two ends, each of which may take any step at any time.
use Rattle.std.specs.Prelude.{◌≡◌, List, [], ◌∷◌}
use Rattle.std.specs.List.{AllByRecursion}
use Rattle.ipdl_base.specs.declared.kinds.Side.{Side}
use Rattle.ipdl_base.specs.declared.kinds.Side.TheVariants.{Parent, Child}
use Rattle.nesting_laws.specs.Calls.{Call, ReplyHead, SyncFrame, wait, SyncPacket, reply, farewell, IsNoFarewell, SyncEnd, sync_end, with_packets}
use Rattle.nesting_laws.specs.Steps.{DefersCall, Step}
use Rattle.nesting_laws.specs.Nested.{AreNested}
use Rattle.nesting_laws.specs.Alone.{IsAlone}
use Rattle.nesting_laws.specs.Progress.{IsForTop, CanMove, IsNotStuck}

-- Every step of one of two open ends keeps them nested.
pub record NestingStays : Type 0 where
  pub parent : (p c next : SyncEnd) (sent : List SyncPacket) → AreNested p c → Step Parent p next sent → AreNested next (with_packets c sent)
  pub child : (p c next : SyncEnd) (sent : List SyncPacket) → AreNested p c → Step Child c next sent → AreNested (with_packets p sent) next

-- When one of two open ends closes or dies, the other is alone, and every step of it keeps it alone.
pub record AloneStays : Type 0 where
  pub parent : (p c : SyncEnd) → AreNested p c → IsAlone Parent (with_packets p (farewell ∷ []))
  pub child : (p c : SyncEnd) → AreNested p c → IsAlone Child (with_packets c (farewell ∷ []))
  pub stays : (side : Side) (e next : SyncEnd) (sent : List SyncPacket) → IsAlone side e → Step side e next sent → IsAlone side next

-- Each reply that is first on a link is for the wait on top there.
pub record RepliesAreForTop : Type 0 where
  pub parent : (stack : List SyncFrame) (arrived : List Call) (r : ReplyHead) (link : List SyncPacket) (c : SyncEnd) → AreNested (sync_end stack arrived (reply r ∷ link)) c → IsForTop stack r
  pub child : (stack : List SyncFrame) (arrived : List Call) (r : ReplyHead) (link : List SyncPacket) (p : SyncEnd) → AreNested p (sync_end stack arrived (reply r ∷ link)) → IsForTop stack r
  pub alone : (side : Side) (stack : List SyncFrame) (arrived : List Call) (r : ReplyHead) (link : List SyncPacket) → IsAlone side (sync_end stack arrived (reply r ∷ link)) → IsForTop stack r

-- While one of two open ends waits, something can happen by itself. At an end that is alone, something always can.
pub record NobodyIsStuck : Type 0 where
  pub nested : (p c : SyncEnd) → AreNested p c → IsNotStuck p c
  pub alone : (side : Side) (e : SyncEnd) → IsAlone side e → CanMove side e

-- A link shows the state of the end that sends. Between two open ends it carries no last packet, and toward an end
-- that is alone it is not empty.
pub record LinksTellOfEnds : Type 0 where
  pub to_parent : (stack : List SyncFrame) (arrived : List Call) (link : List SyncPacket) (c : SyncEnd) → AreNested (sync_end stack arrived link) c → AllByRecursion IsNoFarewell link
  pub to_child : (stack : List SyncFrame) (arrived : List Call) (link : List SyncPacket) (p : SyncEnd) → AreNested p (sync_end stack arrived link) → AllByRecursion IsNoFarewell link
  pub alone : (side : Side) (stack : List SyncFrame) (arrived : List Call) (link : List SyncPacket) → IsAlone side (sync_end stack arrived link) → link ≡ [] → ⊥

-- Where both ends have a wait on top, at most one of these waits defers the other end's call.
abbrev pub OneGivesWay : Type 0
OneGivesWay =
    (w v : Call) (below under : List SyncFrame) (arrived at_child : List Call) (link to_child : List SyncPacket)
    → AreNested (sync_end (wait w ∷ below) arrived link) (sync_end (wait v ∷ under) at_child to_child) → DefersCall Parent w v → DefersCall Child v w → ⊥
