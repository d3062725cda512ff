use Rattle.std.proofs.Common.{◌≡◌, ℕ, ◌<◌, ◌≤◌, false, get_or}
use Rattle.nesting_core.specs.declared.frame.StackFrame.{StackFrame}
use Rattle.nesting_core.specs.Frames.{is_unanswered}
use Rattle.nesting_core.proofs.stack.store.Given as goal

-- nothing is written yet, and no frame from the index on waits for its answer
abbrev pub invariant-loop-index : goal.invariant-loop-index
invariant-loop-index l =
    (l.frames ≡ l.initial.frames) × ((k : ℕ) (d : StackFrame) → l.index ≤ k → k < l.len → is_unanswered (get_or l.frames k d) ≡ false)
