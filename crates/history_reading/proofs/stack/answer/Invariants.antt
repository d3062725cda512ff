use Rattle.std.proofs.Common.{◌≡◌, ℕ, ◌<◌, ◌≤◌, false, get_or, length}
use Rattle.history_reading.specs.declared.parts.CallFrame.{CallFrame}
use Rattle.history_reading.specs.EndReading.{is_wait_for}
use Rattle.history_reading.proofs.stack.answer.Given as goal

-- nothing is written yet, and no frame from the index on is the wait
abbrev pub invariant-loop-index : goal.invariant-loop-index
invariant-loop-index l =
    (l.frames ≡ l.initial.frames) × ((k : ℕ) (d : CallFrame) → l.index ≤ k → k < length l.frames → is_wait_for l.n (get_or l.frames k d) ≡ false)
