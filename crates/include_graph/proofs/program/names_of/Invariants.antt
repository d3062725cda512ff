use Rattle.std.proofs.Common.{◌≡◌, map}
use Rattle.include_graph.proofs.program.names_of.Given as goal

abbrev pub invariant-loop-file : goal.invariant-loop-file
invariant-loop-file l = l.names.items ≡ map (λ f. f.source.text) l.yielded
