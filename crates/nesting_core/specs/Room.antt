use Rattle.std.specs.Prelude.{ℕ, ◌<◌, List, [], ◌∷◌, length}
use Rattle.nesting_core.specs.declared.frame.StackFrame.{StackFrame}
use Rattle.nesting_core.specs.declared.frame.StackFrame.TheVariants.{Dispatch, Wait}
use Rattle.nesting_core.specs.declared.frame.StackTop.{StackTop}
use Rattle.nesting_core.specs.declared.frame.StackTop.TheVariants as top

-- below every dispatch are fewer than 64 frames, and below every wait, answered or not, fewer than 63
abbrev pub FitsRoom : List StackFrame → Type 0
FitsRoom [] = Unit {0}
FitsRoom (Dispatch head ∷ below) = (length below < 64) × FitsRoom below
FitsRoom (Wait head answer ∷ below) = (length below < 63) × FitsRoom below

-- unless a dispatch is on top of that many frames, there is room for one
abbrev pub LeavesRoom : StackTop → ℕ → Type 0
LeavesRoom top.Empty frames = frames < 64
LeavesRoom (top.Dispatch head) frames = Unit {0}
LeavesRoom (top.Unanswered head) frames = frames < 64
LeavesRoom (top.Answered head) frames = frames < 64
