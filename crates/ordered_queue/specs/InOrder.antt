-- The rule of a queue that is in order, and what its passes know of the queue.
use Rattle.std.specs.Prelude.{◌≡◌, ℕ, Bool, true, false, List, [], ◌∷◌, ◌++◌}
use mathlib.Core.Option.{some}
use lib.ListN.{get_elem?}
use Rattle.ordered_queue.specs.declared.view.PassView.{PassView}

module _ {T : Type 0} where
  abbrev pub view_with : Bool → Bool → List T → List T → PassView T
  view_with pushes pops pushed popped = record { pushes = pushes; pops = pops; pushed = pushed; popped = popped }

  -- the view of the first pass, which may push and pop
  abbrev pub first_view : PassView T
  first_view = view_with true true [] []

  -- the views of the two passes that a pass is split into
  abbrev pub pushing_part : PassView T → PassView T
  pushing_part view = view_with true false view.pushed []

  abbrev pub popping_part : PassView T → PassView T
  popping_part view = view_with false true [] view.popped

  -- the view of a pass that joins one that pushes and one that pops, and what the second one is left with
  abbrev pub whole : PassView T → PassView T → PassView T
  whole pushing popping = view_with true true pushing.pushed popping.popped

  abbrev pub spent_view : PassView T
  spent_view = view_with false false [] []

  abbrev pub with_pushed : PassView T → T → PassView T
  with_pushed view x = record view { pushed = view.pushed ++ x ∷ [] }

  abbrev pub with_popped : PassView T → T → PassView T
  with_popped view x = record view { popped = view.popped ++ x ∷ [] }

  -- a pass that may push is this one, and what was pushed with it is all that was pushed
  abbrev pub PushesAt : ℕ → List T → ℕ → PassView T → Type 0
  PushesAt pusher pushed pass view = view.pushes ≡ true → (pass ≡ pusher) × (view.pushed ≡ pushed)

  abbrev pub PopsAt : ℕ → List T → ℕ → PassView T → Type 0
  PopsAt popper popped pass view = view.pops ≡ true → (pass ≡ popper) × (view.popped ≡ popped)

  -- What was popped, followed by what is in the queue, is what was pushed. At most one pass may push, and it knows all that
  -- was pushed. The same is true of pops.
  pub record IsInOrder (held : List T) (views : List (PassView T)) : Type 0 where
    pub pusher : ℕ
    pub popper : ℕ
    pub pushed : List T
    pub popped : List T
    pub order : pushed ≡ popped ++ held
    pub seen : (pass : ℕ) (view : PassView T) → get_elem? views pass ≡ some view → PushesAt pusher pushed pass view × PopsAt popper popped pass view

  -- a pass that may push and pop knows what is in the queue
  abbrev pub Knows : PassView T → List T → Type 0
  Knows view held = view.pushes ≡ true → view.pops ≡ true → view.pushed ≡ view.popped ++ held
