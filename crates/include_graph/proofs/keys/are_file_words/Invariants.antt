use Rattle.std.proofs.Common.{take, string_bytes}
use Rattle.std.specs.List.{All}
use Rattle.ipdl_base.specs.FileNames.{IsFileWord}
use Rattle.include_graph.proofs.keys.are_file_words.Given as goal

abbrev pub invariant-loop-word : goal.invariant-loop-word
invariant-loop-word l = All (λ w. IsFileWord (string_bytes w)) (take l.word-index l.words)
