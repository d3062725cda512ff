use Rattle.std.proofs.Common.{◌≡◌, ◌++◌, take}
use Rattle.wait_report.specs.Listed as listed
use Rattle.wait_report.proofs.report.add_pairs.Given as goal

-- the pairs so far were added
abbrev pub invariant-loop-waits : goal.invariant-loop-waits
invariant-loop-waits l = l.pairs.items ≡ l.fn.pairs.items ++ listed.pairs_at l.side (take l.waits-index l.waiting) l.taken
