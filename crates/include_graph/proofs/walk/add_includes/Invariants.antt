use Rattle.std.proofs.Common.{take}
use Rattle.include_graph.proofs.Targets.{Adding}
use Rattle.include_graph.proofs.walk.add_includes.Given as goal

abbrev pub invariant-loop-include : goal.invariant-loop-include
invariant-loop-include l = Adding (take l.include-index l.includes) l.fn.keys.keys l.keys.keys l.targets.items
