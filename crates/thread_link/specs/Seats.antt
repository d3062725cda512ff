-- Seats of one side: before it takes the link, while it has it, and after that.
use Rattle.std.specs.Prelude.{◌≡◌, [], ◌∷◌, ◌++◌, true, false, List, Option, None}
use Rattle.atomic_table.specs.declared.shared.Seat.{Seat}
use Rattle.atomic_table.specs.Seated.{TableId}
use Rattle.ipdl_base.specs.Sides.{other}
use Rattle.ipdl_base.specs.declared.kinds.Side.{Side}
use Rattle.ipdl_base.specs.declared.line.Line.{Line}
use Rattle.script_steps.specs.Progress.{lines_of}
use Rattle.thread_link.specs.declared.parts.SeatView.{SeatView}
use Rattle.thread_link.specs.declared.parts.SharedLink.{SharedLink}
use Rattle.thread_link.specs.Fronts.{HasSeen}
use Rattle.thread_link.specs.LinkRule.{has, seen_by}
use Rattle.thread_link.specs.Steps.{with_seen}
use Rattle.world_core.specs.Halves.{IsHome}

-- the view is that of this side only
abbrev pub IsOf : Side → SeatView → Type 0
IsOf side view = (has side view ≡ true) × (has (other side) view ≡ false)

-- A seat of a side that does not hold the link.
pub record IsSeatOf (side : Side) (seat : Seat (Option SharedLink) SeatView) : Type 0 where
  pub is_of : IsOf side seat.me.0
  pub free : seat.me.0.holds ≡ false
  pub empty : seat.me.1 ≡ []

-- A seat of a side that holds the link; the slot is empty.
pub record IsHolder (side : Side) (seat : Seat (Option SharedLink) SeatView) : Type 0 where
  pub is_of : IsOf side seat.me.0
  pub holds : seat.me.0.holds ≡ true
  pub slot : seat.me.1 ≡ (0, None) ∷ []

-- A seat has taken the link out of the slot, and its side has seen the lines of the link.
pub record HasTaken (side : Side) (before after : Seat (Option SharedLink) SeatView) (shared : SharedLink) : Type 0 where
  pub table : after.table_id ≡ before.table_id
  pub me : after.me ≡ (with_seen true side shared.link.lines before.me.0, (0, None) ∷ [])
  pub holder : IsHolder side after
  pub home : IsHome before.me.0.setting shared.link
  pub seen : HasSeen side (seen_by side before.me.0) shared.link.lines

-- Lines of a side were added at the end.
pub record Adds (side : Side) (before after : List Line) : Type 0 where
  pub more : List Line
  pub following : after ≡ before ++ more
  pub own : lines_of (other side) more ≡ []

-- A seat has given the link back, and its side has seen the lines of the link.
pub record HasGiven (side : Side) (before after : Seat (Option SharedLink) SeatView) (shared : SharedLink) : Type 0 where
  pub table : after.table_id ≡ before.table_id
  pub me : after.me ≡ (with_seen false side shared.link.lines before.me.0, [])
  pub seat : IsSeatOf side after

-- the table has a word for the history and its holder, one that counts turns, and one slot
abbrev pub IsShaped : TableId → Type 0
IsShaped id = (id.words ≡ 2) × (id.slots ≡ 1)
