-- How the two ends of a world wait for one another.
use Rattle.std.specs.Prelude.{◌≡◌, Bool, true, false, List, [], ◌∷◌}
use Rattle.std.specs.List.{AllByRecursion}
use Rattle.ipdl_base.specs.declared.kinds.EndState.TheVariants.{Draining}
use Rattle.ipdl_base.specs.declared.kinds.Side.{Side}
use Rattle.ipdl_base.specs.declared.kinds.Side.TheVariants.{Parent, Child}
use Rattle.ipdl_base.specs.declared.schema.Schema.{Schema}
use Rattle.nesting_laws.specs.Calls.{SyncFrame, SyncEnd, sync_end}
use Rattle.nesting_laws.specs.Nested.{AreNested}
use Rattle.nesting_laws.specs.Alone.{IsAlone}
use Rattle.channel_model.specs.Ends.{End, World, Packet, message, mark}
use Rattle.ipdl_base.specs.Sides.{other}
use Rattle.channel_model.specs.Outputs.{is_open}
use Rattle.channel_model.specs.Sends.{frames_of}
use Rattle.channel_model.specs.States.{IsAnswered, is_goodbye}
use Rattle.channel_laws.specs.SyncCalls.{sync_calls, sync_packets}
use Rattle.channel_laws.specs.OpenEnds.{PacketAgrees, IsOpenEnd}

-- two ends are nested, where the first is that of a side
abbrev pub AreNestedFrom : Side → SyncEnd → SyncEnd → Type 0
AreNestedFrom Parent mine theirs = AreNested mine theirs
AreNestedFrom Child mine theirs = AreNested theirs mine

-- an end that shows these sync frames, reduced to its sync requests
abbrev pub sync_end_of : Schema → End → List Packet → List SyncFrame → SyncEnd
sync_end_of schema e link stack = sync_end stack (sync_calls e.arrived) (sync_packets schema link)

-- whether a packet is the last of an end: a goodbye, or the mark of its death
abbrev pub is_last_packet : Packet → Bool
is_last_packet (message m) = is_goodbye m.body
is_last_packet mark = true

-- no packet is the last of an end
abbrev pub HasNoLastPacket : List Packet → Type 0
HasNoLastPacket link = AllByRecursion (λ packet. is_last_packet packet ≡ false) link

-- The last packet of an end is last on the link, and nowhere else.
pub data EndsInLastPacket : List Packet → Type 0 where
  last_alone : {packet : Packet} → is_last_packet packet ≡ true → EndsInLastPacket (packet ∷ [])
  last_later : {packet : Packet} {rest : List Packet} → is_last_packet packet ≡ false → EndsInLastPacket rest → EndsInLastPacket (packet ∷ rest)

-- An end is not open, and has no unanswered wait.
pub record IsOver (e : End) : Type 0 where
  pub over : is_open e.state ≡ false
  pub nobody : AllByRecursion IsAnswered (frames_of e)

-- An end has closed or died, and has no unanswered wait.
pub record IsGone (e : End) : Type 0 where
  pub ended : IsOver e
  pub told : e.state ≡ Draining → ⊥

-- Both ends are open and nested; or one is open, and alone, since the other has closed or died; or neither is open.
pub data EndsAreNested (schema : Schema) (side : Side) (mine theirs : End) (to_me to_them : List Packet) : Type 0 where
  both_open : {stack under : List SyncFrame} → IsOpenEnd schema mine stack → IsOpenEnd schema theirs under → AreNestedFrom side (sync_end_of schema mine to_me stack) (sync_end_of schema theirs to_them under) → EndsAreNested schema side mine theirs to_me to_them
  mine_open : {stack : List SyncFrame} → IsOpenEnd schema mine stack → IsGone theirs → EndsInLastPacket to_me → IsAlone side (sync_end_of schema mine to_me stack) → EndsAreNested schema side mine theirs to_me to_them
  theirs_open : {stack : List SyncFrame} → IsOpenEnd schema theirs stack → IsGone mine → EndsInLastPacket to_them → IsAlone (other side) (sync_end_of schema theirs to_them stack) → EndsAreNested schema side mine theirs to_me to_them
  both_over : IsOver mine → IsOver theirs → EndsAreNested schema side mine theirs to_me to_them

-- A world whose ends wait for one another only in these ways.
pub record IsNestedWorld (schema : Schema) (w : World) : Type 0 where
  pub parent : w.parent.side ≡ Parent
  pub child : w.child.side ≡ Child
  pub to_parent : AllByRecursion (PacketAgrees schema) w.to_parent
  pub to_child : AllByRecursion (PacketAgrees schema) w.to_child
  pub ends : EndsAreNested schema Parent w.parent w.child w.to_parent w.to_child
