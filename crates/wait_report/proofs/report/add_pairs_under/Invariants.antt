use Rattle.std.proofs.Common.{◌≡◌, ◌++◌, take}
use Rattle.wait_report.specs.Listed as listed
use Rattle.wait_report.proofs.report.add_pairs_under.Given as goal

-- the pairs so far were added
abbrev pub invariant-loop-takes : goal.invariant-loop-takes
invariant-loop-takes l = l.pairs.items ≡ l.fn.pairs.items ++ listed.pairs_under l.side (take l.takes-index l.taken) l.waits
