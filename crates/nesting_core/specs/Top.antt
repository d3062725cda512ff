use Rattle.std.specs.Prelude.{List, [], ◌∷◌, Option, Some, None}
use Rattle.nesting_core.specs.declared.frame.StackFrame.{StackFrame}
use Rattle.nesting_core.specs.declared.frame.StackFrame.TheVariants.{Dispatch, Wait}
use Rattle.nesting_core.specs.declared.frame.PoppedFrame.{PoppedFrame}
use Rattle.nesting_core.specs.declared.frame.PoppedFrame.TheVariants as popped
use Rattle.nesting_core.specs.declared.frame.StackTop.{StackTop}
use Rattle.nesting_core.specs.declared.frame.StackTop.TheVariants as top

-- the frame on top, by its head
abbrev pub top_of : List StackFrame → StackTop
top_of [] = top.Empty
top_of (Dispatch head ∷ below) = top.Dispatch head
top_of (Wait head None ∷ below) = top.Unanswered head
top_of (Wait head (Some answer) ∷ below) = top.Answered head

-- the frame that may come off: the top one, unless it is a wait whose answer has not come
abbrev pub popped_of : List StackFrame → Option PoppedFrame
popped_of [] = None
popped_of (Dispatch head ∷ below) = Some (popped.Dispatch head)
popped_of (Wait head None ∷ below) = None
popped_of (Wait head (Some answer) ∷ below) = Some (popped.Wait head answer)

-- the frames when that one has come off, or all of them where none may
abbrev pub after_pop : List StackFrame → List StackFrame
after_pop [] = []
after_pop (Dispatch head ∷ below) = below
after_pop (Wait head None ∷ below) = Wait head None ∷ below
after_pop (Wait head (Some answer) ∷ below) = below
