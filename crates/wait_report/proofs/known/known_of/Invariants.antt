use Rattle.std.proofs.Common.{◌≡◌, ◌+◌, true, length}
use Rattle.wait_report.specs.Least as least
use Rattle.wait_report.proofs.known.known_of.Given as goal

-- what is known is true, and the top protocol can be built
abbrev pub invariant-loop-users : goal.invariant-loop-users
invariant-loop-users l = record {
  size : length l.types.items ≡ length l.schema.types;
  count : length l.built.items ≡ length l.schema.protocols;
  sound : least.AreSound l.schema l.top l.types.items l.built.items;
  live : least.is_built l.built.items l.top ≡ true;
}

-- each round leaves less to be found
abbrev pub decreases-loop-users : goal.decreases-loop-users
decreases-loop-users l = least.known l.types.items + least.unbuilt l.built.items
