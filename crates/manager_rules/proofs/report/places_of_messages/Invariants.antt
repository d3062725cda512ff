use Rattle.std.proofs.Common.{◌≡◌, map, take}
use Rattle.manager_rules.specs.Broken.{messages_at}
use Rattle.manager_rules.proofs.report.places_of_messages.Given as goal

-- those so far
abbrev pub invariant-loop-message : goal.invariant-loop-message
invariant-loop-message l = map (λ n. (n.0.now, n.1)) l.places.items ≡ messages_at (take l.message-index l.messages)
