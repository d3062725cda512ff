use Rattle.std.proofs.Common.{◌≡◌, map, take}
use Rattle.manager_rules.specs.Broken.{names_at}
use Rattle.manager_rules.proofs.report.places_of_names.Given as goal

-- those so far
abbrev pub invariant-loop-name : goal.invariant-loop-name
invariant-loop-name l = map (λ n. (n.0.now, n.1)) l.places.items ≡ names_at (take l.name-index l.names)
