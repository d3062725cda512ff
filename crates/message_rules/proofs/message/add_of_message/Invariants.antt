use Rattle.std.proofs.Common.{take}
use Rattle.std.specs.List.{Any}
use Rattle.findings.specs.Gains.{Gains}
use Rattle.message_rules.specs.Breaches.{IsFoundBy}
use Rattle.message_rules.proofs.message.add_of_message.Given as goal

-- the breaches so far have their findings
abbrev pub invariant-loop-breach : goal.invariant-loop-breach
invariant-loop-breach l = Gains (λ f. Any (IsFoundBy l.protocol f l.index l.message) (take l.breach-index l.breach-items)) l.fn.found.items l.found.items
