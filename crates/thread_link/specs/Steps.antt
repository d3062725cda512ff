-- What each step on the table does to a view, and what it shows.
use Rattle.std.specs.Prelude.{◌≡◌, ◌≢◌, ℕ, ◌∷◌, [], Bool, true, false, List, Option, Some, None}
use Rattle.atomic_table.specs.Table.{Me, Step, rest}
use Rattle.ipdl_base.specs.declared.kinds.Side.{Side}
use Rattle.ipdl_base.specs.declared.kinds.Side.TheVariants as sides
use Rattle.ipdl_base.specs.declared.line.Line.{Line}
use Rattle.script_steps.specs.Choices.{Setting}
use Rattle.thread_link.specs.declared.parts.SeatView.{SeatView}
use Rattle.thread_link.specs.declared.parts.SharedLink.{SharedLink}
use Rattle.thread_link.specs.Fronts.{HasSeen}
use Rattle.thread_link.specs.LinkRule.{seen_by}
use Rattle.world_core.specs.Halves.{IsHome}

-- both sides, which have seen these lines
abbrev pub first_view : Setting → List Line → SeatView
first_view setting lines = record { parent = true; child = true; holds = false; setting = setting; parent_seen = lines; child_seen = lines }

-- no side, and no run
abbrev pub spent_view : SeatView
spent_view = record {
  parent = false;
  child = false;
  holds = false;
  setting = record { schema = record { protocols = []; types = [] }; script = record { top = 0; blocks = [] }; stop = None; limit = 0 };
  parent_seen = [];
  child_seen = [];
}

-- the side of a view that has one side
abbrev pub side_by : Bool → Side
side_by true = sides.Child
side_by false = sides.Parent

abbrev pub side_of : SeatView → Side
side_of view = side_by view.child

-- a view that holds the link or does not, and whose side has seen these lines
abbrev pub with_seen : Bool → Side → List Line → SeatView → SeatView
with_seen holds sides.Parent lines view = record view { holds = holds; parent_seen = lines }
with_seen holds sides.Child lines view = record view { holds = holds; child_seen = lines }

-- the parent's part of a view, and the child's
abbrev pub parent_part : SeatView → SeatView
parent_part view = record view { child = false; holds = false }

abbrev pub child_part : SeatView → SeatView
child_part view = record view { parent = false; holds = false }

-- both sides, each with what it has seen
abbrev pub whole_view : SeatView → SeatView → SeatView
whole_view view other_view = record { parent = true; child = true; holds = false; setting = view.setting; parent_seen = view.parent_seen; child_seen = other_view.child_seen }

-- the lines of what is in a slot, and of what a seat carries
abbrev pub slot_lines : Option SharedLink → List Line
slot_lines None = []
slot_lines (Some shared) = shared.link.lines

abbrev pub carried_lines : List (ℕ × Option SharedLink) → List Line
carried_lines [] = []
carried_lines (carried ∷ more) = slot_lines carried.1

-- The link is taken: it is at home in the run, the seat carries it, and its side has seen all of its lines. After what the
-- side had seen, these are lines of the other side only.
pub record HasTakenLink (side : Side) (before : Me (Option SharedLink) SeatView) (after : Me (Option SharedLink) SeatView) : Type 0 where
  pub shared : SharedLink
  pub me : after ≡ (with_seen true side shared.link.lines before.0, (0, Some shared) ∷ [])
  pub home : IsHome before.0.setting shared.link
  pub seen : HasSeen side (seen_by side before.0) shared.link.lines

-- if the word was the expected one, the link is taken; else nothing changed
abbrev pub Locked : Step (Option SharedLink) → Me (Option SharedLink) SeatView → ℕ → Me (Option SharedLink) SeatView → Type 0
Locked st before found after = (found ≡ st.first → HasTakenLink (side_of before.0) before after) × (found ≢ st.first → after ≡ (before.0, []))

-- the link is given back, and the side has seen all of its lines
abbrev pub Released : Step (Option SharedLink) → Me (Option SharedLink) SeatView → ℕ → Me (Option SharedLink) SeatView → Type 0
Released st before found after = after ≡ (with_seen false (side_of before.0) (carried_lines before.1) before.0, rest before.1)

-- nothing changed
abbrev pub Unchanged : Step (Option SharedLink) → Me (Option SharedLink) SeatView → ℕ → Me (Option SharedLink) SeatView → Type 0
Unchanged st before found after = after ≡ before
