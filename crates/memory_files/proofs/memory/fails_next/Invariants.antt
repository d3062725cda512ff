use Rattle.std.proofs.Common.{◌≡◌, drop}
use Rattle.memory_files.specs.Memory.{is_next}
use Rattle.memory_files.proofs.memory.fails_next.Given as goal

-- the numbers that are left decide
abbrev pub invariant-loop-n : goal.invariant-loop-n
invariant-loop-n l = is_next (drop l.n-index l.fails) l.calls ≡ is_next l.fails l.calls
