use Rattle.std.proofs.Common.{◌≡◌, ◌++◌, drop, map}
use Rattle.std.specs.List.{flat_map}
use Rattle.explorations.specs.Seen.{way_seen}
use Rattle.explorations.specs.Text.{way_line}
use Rattle.explorations.proofs.text.push_ways.Given as goal

-- what is written and the lines of what is left
abbrev pub invariant-loop-way : goal.invariant-loop-way
invariant-loop-way l =
    l.out.items ++ flat_map way_line (map way_seen (drop l.way-index l.ways)) ≡ l.fn.out.items ++ flat_map way_line (map way_seen l.ways)
