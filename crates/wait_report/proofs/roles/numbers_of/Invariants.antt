use Rattle.std.proofs.Common.{◌≡◌, take}
use Rattle.wait_report.specs.Listed as listed
use Rattle.wait_report.proofs.roles.numbers_of.Given as goal

-- the numbers of the protocols so far were added
abbrev pub invariant-loop-protocol : goal.invariant-loop-protocol
invariant-loop-protocol l = l.numbers.items ≡ listed.numbers_of l.known.types.items l.known.built.items l.role l.side (take l.protocol-index l.protocols)
