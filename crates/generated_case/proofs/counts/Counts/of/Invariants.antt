use Rattle.std.proofs.Common.{◌≡◌, take}
use Rattle.generated_case.specs.Counts.{counts_of}
use Rattle.generated_case.proofs.counts.Counts.of.Given as goal

-- the lines so far are counted
abbrev pub invariant-loop-line : goal.invariant-loop-line
invariant-loop-line l = l.counts ≡ counts_of (take l.line-index l.line-items)
