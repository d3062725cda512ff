use Rattle.std.proofs.Common.{◌≡◌, take, reverse}
use Rattle.history_reading.specs.Fallen.{climbs, is_below}
use Rattle.law_checks.proofs.fallen.is_below.Given as goal

-- the way so far continues among the older ones
abbrev pub invariant-loop-index : goal.invariant-loop-index
invariant-loop-index l = climbs (reverse (take l.index l.built)) l.current l.top ≡ is_below l.built l.id l.top
