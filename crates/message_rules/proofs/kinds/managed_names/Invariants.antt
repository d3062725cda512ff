use Rattle.std.proofs.Common.{take}
use Rattle.message_rules.specs.Breaches.{HasNames}
use Rattle.message_rules.proofs.kinds.managed_names.Given as goal

-- the set has the names so far
abbrev pub invariant-loop-managed : goal.invariant-loop-managed
invariant-loop-managed l = HasNames l.names (take l.managed-index l.manages)
