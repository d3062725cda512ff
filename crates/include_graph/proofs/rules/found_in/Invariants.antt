use Rattle.std.proofs.Common.{[]}
use Rattle.findings.specs.Gains.{Gains}
use Rattle.include_graph.specs.Additions.{Below, IsFoundOf}
use Rattle.include_graph.proofs.rules.found_in.Given as goal

-- the findings on the files so far
abbrev pub invariant-loop-number : goal.invariant-loop-number
invariant-loop-number l = Gains (Below l.number (IsFoundOf l.words l.keys l.files)) [] l.found.items
