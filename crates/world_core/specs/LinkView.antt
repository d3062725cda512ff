-- What contracts see of a link.
use Rattle.std.specs.Prelude.{◌≡◌, ℕ, ◌-◌, ◌≤◌, List, ◌++◌, length}
use Rattle.ipdl_base.specs.declared.kinds.Side.{Side}
use Rattle.ipdl_base.specs.declared.kinds.Side.TheVariants as sides
use Rattle.ipdl_base.specs.declared.line.Line.{Line}
use Rattle.value_codec.specs.Laws.{AreBytes}
use Rattle.end_parts.specs.declared.packet.Packet.{Packet}
use Rattle.end_parts.specs.declared.packet.Packet.TheVariants.{Bytes, Broken}

-- The lines of both sides, with every box at one place, and the number of lines more that there is room for; the packets that
-- wait for each side, and the number of packets that there is room for in all.
pub record LinkView : Type 0 where
  pub lines : List Line
  pub spare : ℕ
  pub to_parent : List Packet
  pub parent_room : ℕ
  pub to_child : List Packet
  pub child_room : ℕ

-- the packets that wait for a side
abbrev pub packets_to : Side → LinkView → List Packet
packets_to sides.Parent link = link.to_parent
packets_to sides.Child link = link.to_child

-- the number of packets toward a side that there is room for in all
abbrev pub room_to : Side → LinkView → ℕ
room_to sides.Parent link = link.parent_room
room_to sides.Child link = link.child_room

-- a link with these packets toward a side
abbrev pub with_packets_to : Side → List Packet → LinkView → LinkView
with_packets_to sides.Parent packets link = record link { to_parent = packets }
with_packets_to sides.Child packets link = record link { to_child = packets }

-- the elements of a packet are bytes
abbrev pub HoldsBytes : Packet → Type 0
HoldsBytes (Bytes bytes) = AreBytes bytes
HoldsBytes Broken = Unit {0}

-- There is room for this number of lines more, and of packets more toward a side.
pub record LinkHasRoom (link : LinkView) (lines : ℕ) (side : Side) (packets : ℕ) : Type 0 where
  pub lines_fit : lines ≤ link.spare
  pub packets_fit : packets ≤ room_to side link - length (packets_to side link)

-- Lines, and packets toward a side, were appended to a link, which has no less room in all.
pub record IsAppended (before : LinkView) (lines : List Line) (side : Side) (packets : List Packet) (after : LinkView) : Type 0 where
  pub is : after ≡ record (with_packets_to side (packets_to side before ++ packets) before) { lines = before.lines ++ lines; spare = after.spare }
  pub spare : before.spare - length lines ≤ after.spare
