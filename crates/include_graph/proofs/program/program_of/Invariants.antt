use Rattle.std.proofs.Common.{◌≡◌, length}
use Rattle.include_graph.proofs.Entries.{Making}
use Rattle.include_graph.proofs.program.program_of.Given as goal

abbrev pub invariant-loop-file : goal.invariant-loop-file
invariant-loop-file l = record {
  size : length l.files.items ≡ length l.keys.keys;
  making : Making l.fn.keys.keys l.fn.files.items l.keys.keys l.files.items l.program.items;
}

abbrev pub decreases-loop-file : goal.decreases-loop-file
decreases-loop-file l = length l.files.items
