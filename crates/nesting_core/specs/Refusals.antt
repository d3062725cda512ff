use Rattle.std.specs.Prelude.{Bool, false, ◌&&◌, ◌||◌, ◌==◌, nat_lt, nat_le, if◌then◌else◌, IsTrue, List, length, Option, Some, None}
use Rattle.ipdl_base.specs.declared.kinds.Level.{Level}
use Rattle.ipdl_base.specs.declared.kinds.Level.TheVariants as levels
use Rattle.ipdl_base.specs.declared.kinds.SendRefusal.{SendRefusal}
use Rattle.ipdl_base.specs.declared.kinds.SendRefusal.TheVariants.{NestedInNormal, InsideCpow, LevelTooLow, TooDeep}
use Rattle.ipdl_base.specs.Deferral.{rank}
use Rattle.nesting_core.specs.declared.frame.StackFrame.{StackFrame}
use Rattle.nesting_core.specs.declared.frame.Head.{Head}
use Rattle.nesting_core.specs.declared.frame.SendHead.{SendHead}
use Rattle.nesting_core.specs.Frames.{innermost_dispatch, innermost_sync_dispatch, innermost_wait}

-- whether there is a message, and it has this level
abbrev pub has_level : Level → Option Head → Bool
has_level level None = false
has_level level (Some head) = rank head.level == rank level

-- whether there is a message, and this level is below its level
abbrev pub is_below : Level → Option Head → Bool
is_below level None = false
is_below level (Some head) = nat_lt (rank level) (rank head.level)

-- a sync send above level not, where the innermost sync dispatch has level not
abbrev pub is_nested_in_normal : List StackFrame → SendHead → Bool
is_nested_in_normal frames send = send.sync && (has_level levels.Not (innermost_sync_dispatch frames) && nat_lt (rank levels.Not) (rank send.level))

-- a sync send, where the innermost dispatch, sync or async, has level inside_cpow
abbrev pub is_inside_cpow : List StackFrame → SendHead → Bool
is_inside_cpow frames send = send.sync && has_level levels.InsideCpow (innermost_dispatch frames)

-- a sync send whose level is below a level that holds here: the innermost wait's, or that of the innermost dispatch of a sync message
abbrev pub is_level_too_low : List StackFrame → SendHead → Bool
is_level_too_low frames send = send.sync && (is_below send.level (innermost_sync_dispatch frames) || is_below send.level (innermost_wait frames))

-- a sync send, where there are 63 frames or more
abbrev pub is_too_deep : List StackFrame → SendHead → Bool
is_too_deep frames send = send.sync && nat_le 63 (length frames)

-- the first of the four causes that holds
abbrev pub refusal_of : List StackFrame → SendHead → Option SendRefusal
refusal_of frames send =
    if is_nested_in_normal frames send then Some NestedInNormal else
    (if is_inside_cpow frames send then Some InsideCpow else
    (if is_level_too_low frames send then Some LevelTooLow else
    (if is_too_deep frames send then Some TooDeep else None)))

-- the four causes as facts

abbrev pub IsNestedInNormal : List StackFrame → SendHead → Type 0
IsNestedInNormal frames send = IsTrue (is_nested_in_normal frames send)

abbrev pub IsInsideCpow : List StackFrame → SendHead → Type 0
IsInsideCpow frames send = IsTrue (is_inside_cpow frames send)

abbrev pub IsLevelTooLow : List StackFrame → SendHead → Type 0
IsLevelTooLow frames send = IsTrue (is_level_too_low frames send)

abbrev pub IsTooDeep : List StackFrame → SendHead → Type 0
IsTooDeep frames send = IsTrue (is_too_deep frames send)
