use Rattle.std.proofs.Common.{length}
use Rattle.findings.specs.Gains.{Gains}
use Rattle.include_graph.specs.Additions.{Below, IsFoundAt}
use Rattle.include_graph.proofs.rules.add_among.Given as goal

-- the findings on the includes so far
abbrev pub invariant-loop-include : goal.invariant-loop-include
invariant-loop-include l = Gains (Below (length l.yielded) (IsFoundAt l.files l.includes l.targets)) l.fn.found.items l.found.items
