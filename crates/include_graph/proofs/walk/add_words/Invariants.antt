use Rattle.std.proofs.Common.{take, map, string_bytes}
use Rattle.include_graph.specs.Growth.{HasWords}
use Rattle.include_graph.proofs.walk.add_words.Given as goal

-- the words so far are added
abbrev pub invariant-loop-word : goal.invariant-loop-word
invariant-loop-word l = HasWords (map string_bytes (take l.word-index l.words)) l.keys.keys (map (λ first. first.now) l.firsts.items)
