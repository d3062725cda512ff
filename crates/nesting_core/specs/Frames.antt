use Rattle.std.specs.Prelude.{Bool, true, false, ◌&&◌, ◌==◌, List, find, Option, Some, None, option_map}
use Rattle.std.specs.List.{list_any}
use Rattle.ipdl_base.specs.declared.kinds.Level.TheVariants.{InsideSync}
use Rattle.ipdl_base.specs.Deferral.{rank}
use Rattle.nesting_core.specs.declared.frame.Head.{Head}
use Rattle.nesting_core.specs.declared.frame.StackFrame.{StackFrame}
use Rattle.nesting_core.specs.declared.frame.StackFrame.TheVariants.{Dispatch, Wait}

-- A stack is the list of its frames, the innermost first: the frame on top is the head of the list.

-- the head of a frame's message
abbrev pub head_of : StackFrame → Head
head_of (Dispatch head) = head
head_of (Wait head answer) = head

-- whether a frame is a dispatch, of a sync or an async message
abbrev pub is_dispatch : StackFrame → Bool
is_dispatch (Dispatch head) = true
is_dispatch (Wait head answer) = false

-- whether a frame is a dispatch of a sync message
abbrev pub is_sync_dispatch : StackFrame → Bool
is_sync_dispatch (Dispatch head) = head.sync
is_sync_dispatch (Wait head answer) = false

-- whether a frame is a wait, answered or not
abbrev pub is_wait : StackFrame → Bool
is_wait (Dispatch head) = false
is_wait (Wait head answer) = true

-- whether a frame is a wait whose answer has not come
abbrev pub is_unanswered : StackFrame → Bool
is_unanswered (Dispatch head) = false
is_unanswered (Wait head None) = true
is_unanswered (Wait head (Some answer)) = false

-- whether a frame, dispatch or wait, is of a sync message of level inside_sync
abbrev pub is_inside_sync : StackFrame → Bool
is_inside_sync frame = (head_of frame).sync && (rank (head_of frame).level == rank InsideSync)

-- the head of the innermost frame that passes a test
abbrev pub innermost : (StackFrame → Bool) → List StackFrame → Option Head
innermost test frames = option_map head_of (find test frames)

-- the head of the innermost dispatch, sync or async
abbrev pub innermost_dispatch : List StackFrame → Option Head
innermost_dispatch frames = innermost is_dispatch frames

-- the head of the innermost dispatch of a sync message
abbrev pub innermost_sync_dispatch : List StackFrame → Option Head
innermost_sync_dispatch frames = innermost is_sync_dispatch frames

-- the head of the innermost wait, answered or not
abbrev pub innermost_wait : List StackFrame → Option Head
innermost_wait frames = innermost is_wait frames

-- whether any of the frames is a wait; one whose answer is there counts too
abbrev pub has_wait : List StackFrame → Bool
has_wait frames = list_any is_wait frames
