-- What clauses state of the passes of a queue.
use Rattle.std.specs.Prelude.{◌≡◌, true, Option}
use Rattle.atomic_blocks.specs.declared.web.Seat.{Seat}
use Rattle.crossbeam_queue.specs.declared.seg_queue.Going.{Going}
use Rattle.crossbeam_queue.specs.SegTies.{IsSegPassOf, SegId}
use Rattle.ordered_queue.specs.declared.view.PassView.{PassView}
use Rattle.ordered_queue.specs.InOrder.{popping_part, pushing_part, whole}

-- a pass of a queue of values of the first type, with an allocator of the second
abbrev pub PassOf : Type 0 → Type 0 → Type 0
PassOf T A = Seat (Option T) (Going T (PassView T)) A

module _ {T A : Type 0} where
  -- what a pass knows
  abbrev pub view_of : PassOf T A → PassView T
  view_of pass = pass.me.view.client

  -- a pass of the queue that may push; or pop; or both
  abbrev pub MayPush : SegId A → PassOf T A → Type 0
  MayPush queue pass = IsSegPassOf queue pass × ((view_of pass).pushes ≡ true)

  abbrev pub MayPop : SegId A → PassOf T A → Type 0
  MayPop queue pass = IsSegPassOf queue pass × ((view_of pass).pops ≡ true)

  abbrev pub MayBoth : SegId A → PassOf T A → Type 0
  MayBoth queue pass = IsSegPassOf queue pass × ((view_of pass).pushes ≡ true) × ((view_of pass).pops ≡ true)

  -- a pass knows what it knew before, except for what was pushed with it; or except for what was popped
  abbrev pub HasPushed : SegId A → PassOf T A → PassOf T A → Type 0
  HasPushed queue before after = IsSegPassOf queue after × (view_of after ≡ record (view_of before) { pushed = (view_of after).pushed })

  abbrev pub HasPopped : SegId A → PassOf T A → PassOf T A → Type 0
  HasPopped queue before after = IsSegPassOf queue after × (view_of after ≡ record (view_of before) { popped = (view_of after).popped })

  -- a pass was split in two: the first may push, the second may pop
  abbrev pub IsParted : SegId A → PassView T → PassOf T A → PassOf T A → Type 0
  IsParted queue view pushing popping = (IsSegPassOf queue pushing × (view_of pushing ≡ pushing_part view)) × (IsSegPassOf queue popping × (view_of popping ≡ popping_part view))

  -- a pass that may push and one that may pop were joined
  abbrev pub IsWhole : SegId A → PassOf T A → PassOf T A → PassOf T A → Type 0
  IsWhole queue pushing popping pass = IsSegPassOf queue pass × (view_of pass ≡ whole (view_of pushing) (view_of popping))
