use Rattle.std.proofs.Common.{ℕ, List, take, map, Bor}
use Rattle.std.specs.Prelude.{nat_eq}
use Rattle.std.specs.Bool.{Decides}
use Rattle.std.specs.List.{Contains}
use Rattle.std.specs.Cmp.Lexicographic.{pointwise}
use Rattle.std.specs.HashSet.{contains}
use Rattle.findings.specs.Adds.{Adds}
use Rattle.findings.specs.Repeats.{IsRepeatedAt}
use Rattle.findings.proofs.Repeated.{plain_name, texts}
use Rattle.findings.proofs.repeats.add_repeated_many.Given as goal

-- the set has the names so far, and the repeated ones have their findings
abbrev pub invariant-loop-name : goal.invariant-loop-name
invariant-loop-name l = record {
  told : (q : Bor (List ℕ)) → Decides (contains (λ x y. pointwise nat_eq x.now y.now) l.seen q) (Contains (texts (map plain_name (take l.name-index l.names))) q.now);
  added : Adds l.rule (IsRepeatedAt (map plain_name (take l.name-index l.names))) l.fn.found.items l.found.items;
}
