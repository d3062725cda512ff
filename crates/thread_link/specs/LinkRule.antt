-- The rule of the table that two threads share: how its words, its slot and the views of its seats depend on each other.
use Rattle.std.specs.Prelude.{◌≡◌, ◌⊎◌, ℕ, ◌+◌, ◌*◌, Bool, true, List, Option, Some, slice_index, length}
use mathlib.Core.Option.{some}
use lib.ListN.{get_elem?}
use Rattle.atomic_table.specs.Table.{State}
use Rattle.ipdl_base.specs.declared.kinds.Side.{Side}
use Rattle.ipdl_base.specs.declared.kinds.Side.TheVariants as sides
use Rattle.ipdl_base.specs.declared.line.Line.{Line}
use Rattle.script_steps.specs.Choices.{Setting}
use Rattle.thread_link.specs.declared.parts.SeatView.{SeatView}
use Rattle.thread_link.specs.declared.parts.SharedLink.{SharedLink}
use Rattle.thread_link.specs.Fronts.{HasSeen}
use Rattle.world_core.specs.Halves.{IsHome}

-- whether a view is that of a side
abbrev pub has : Side → SeatView → Bool
has sides.Parent view = view.parent
has sides.Child view = view.child

-- the lines that the side has seen
abbrev pub seen_by : Side → SeatView → List Line
seen_by sides.Parent view = view.parent_seen
seen_by sides.Child view = view.child_seen

-- the number that marks a side as the holder of the link; 0 means that no side holds it
abbrev pub number_of : Side → ℕ
number_of sides.Parent = 1
number_of sides.Child = 2

-- each side has seen a prefix of the history, after which there are only lines of the other side
abbrev pub HaveSeen : List SeatView → List Line → Type 0
HaveSeen views all = (side : Side) (id : ℕ) (view : SeatView) → get_elem? views id ≡ some view → has side view ≡ true → HasSeen side (seen_by side view) all

-- the views of sides are about one run
abbrev pub AreAbout : List SeatView → Setting → Type 0
AreAbout views setting = (side : Side) (id : ℕ) (view : SeatView) → get_elem? views id ≡ some view → has side view ≡ true → view.setting ≡ setting

-- no two views are of the same side
abbrev pub AreApart : List SeatView → Type 0
AreApart views =
    (side : Side) (i j : ℕ) (view other_view : SeatView) → get_elem? views i ≡ some view → get_elem? views j ≡ some other_view → has side view ≡ true → has side other_view ≡ true → i ≡ j

-- a view that holds the link is that of the holder, and has seen the whole history
abbrev pub HoldersKnow : List SeatView → ℕ → List Line → Type 0
HoldersKnow views holder all =
    (side : Side) (id : ℕ) (view : SeatView) → get_elem? views id ≡ some view → has side view ≡ true → view.holds ≡ true → (holder ≡ number_of side) × (seen_by side view ≡ all)

-- if a side is the holder, a view of it holds the link
abbrev pub IsHeld : List SeatView → ℕ → Type 0
IsHeld views holder = (side : Side) → holder ≡ number_of side → (id : ℕ) × (view : SeatView) × (get_elem? views id ≡ some view) × (has side view ≡ true) × (view.holds ≡ true)

-- The slot has a link that is at home in the run, with these lines.
pub record HasLink (setting : Setting) (s : State (Option SharedLink) SeatView) (all : List Line) : Type 0 where
  pub shared : SharedLink
  pub lies : get_elem? s.homes 0 ≡ some (some (Some shared))
  pub lines : shared.link.lines ≡ all
  pub home : IsHome setting shared.link

-- The first word is four times the length of the history, plus the number of the side that holds the link, or 0 if no side
-- holds it. The rule does not restrict the second word. If no side holds the link, it is in the slot, and its lines are the
-- history. Each side has seen a prefix of the history, which lacks only lines of the other side.
pub record IsLawful (setting : Setting) (s : State (Option SharedLink) SeatView) : Type 0 where
  pub all : List Line
  pub holder : ℕ
  pub size : length s.words ≡ 2
  pub word : slice_index s.words 0 ≡ 4 * length all + holder
  pub range : (holder ≡ 0) ⊎ ((side : Side) × (holder ≡ number_of side))
  pub seen : HaveSeen s.views all
  pub about : AreAbout s.views setting
  pub apart : AreApart s.views
  pub holders : HoldersKnow s.views holder all
  pub held : IsHeld s.views holder
  pub free : holder ≡ 0 → HasLink setting s all
