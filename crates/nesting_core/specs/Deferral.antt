use Rattle.std.specs.Prelude.{ℤ, Bool, IsTrue, List, Option, Some, None, option_map, unwrap_or}
use Rattle.ipdl_base.specs.declared.kinds.Level.{Level}
use Rattle.ipdl_base.specs.declared.kinds.Side.{Side}
use Rattle.ipdl_base.specs.Deferral.{defers_arrival, request}
use Rattle.nesting_core.specs.declared.frame.StackFrame.{StackFrame}
use Rattle.nesting_core.specs.declared.frame.Head.{Head}
use Rattle.nesting_core.specs.declared.frame.StackTop.{StackTop}
use Rattle.nesting_core.specs.declared.frame.StackTop.TheVariants.{Empty, Dispatch, Unanswered, Answered}
use Rattle.nesting_core.specs.Frames.{innermost, is_inside_sync}
use Rattle.nesting_core.specs.Top.{top_of}

-- the transaction of the innermost frame, dispatch or wait, of a sync message of level inside_sync
abbrev pub inner_transaction : List StackFrame → Option ℤ
inner_transaction frames = option_map (λ head. head.transaction) (innermost is_inside_sync frames)

-- the transaction of a sync message that is sent now with this number: the inner one, or else the number
abbrev pub transaction_of : List StackFrame → ℤ → ℤ
transaction_of frames seq = unwrap_or (inner_transaction frames) seq

-- the level of the message whose reply is awaited under this top: that of a wait whose answer has not come
abbrev pub level_under : StackTop → Option Level
level_under Empty = None
level_under (Dispatch head) = None
level_under (Unanswered wait) = Some wait.level
level_under (Answered head) = None

-- the level of the message whose reply an end with these frames awaits before all else, where there is one
abbrev pub awaited_level : List StackFrame → Option Level
awaited_level frames = level_under (top_of frames)

-- whether an end on this side with these frames defers a request that arrived
abbrev pub defers : Side → List StackFrame → Head → Bool
defers side frames head = defers_arrival side (awaited_level frames) (inner_transaction frames) (request head.sync head.level head.transaction)

-- an end on this side with these frames defers the request
abbrev pub Defers : Side → List StackFrame → Head → Type 0
Defers side frames head = IsTrue (defers side frames head)
