use Rattle.std.proofs.Common.{ℕ, ◌+◌, ◌<◌}
use Rattle.ipdl_lex.specs.Scan.{ClosesAt}
use Rattle.ipdl_lex.proofs.scan.close_at.Given as goal

abbrev pub invariant-loop-i : goal.invariant-loop-i
invariant-loop-i l = (k : ℕ) → k + 1 < l.i → ClosesAt l.text k → ⊥
