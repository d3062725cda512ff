use Rattle.std.proofs.Common.{◌≡◌, take}
use Rattle.include_graph.specs.Reading.{numbers_of}
use Rattle.include_graph.proofs.program.numbers_of.Given as goal

abbrev pub invariant-loop-target : goal.invariant-loop-target
invariant-loop-target l = l.numbers.items ≡ numbers_of (take l.target-index l.targets)
