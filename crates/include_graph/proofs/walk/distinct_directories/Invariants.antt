use Rattle.std.proofs.Common.{◌≡◌, take, map, string_bytes}
use Rattle.include_graph.specs.Growth.{AreDifferent}
use Rattle.include_graph.proofs.walk.distinct_directories.Given as goal

-- the directories so far, each once
abbrev pub invariant-loop-directory : goal.invariant-loop-directory
invariant-loop-directory l = record {
  seen : AreDifferent (map string_bytes (take l.directory-index l.path)) l.seen.keys;
  same : map (λ d. d.now) l.distinct.items ≡ l.seen.keys;
}
