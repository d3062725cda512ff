use Rattle.std.proofs.Common.{take}
use Rattle.findings.specs.Gains.{Gains, AtSome}
use Rattle.message_rules.specs.Breaches.{IsFoundOf}
use Rattle.message_rules.proofs.report.add_in.Given as goal

-- the messages so far have their findings
abbrev pub invariant-loop-index : goal.invariant-loop-index
invariant-loop-index l = Gains (λ f. AtSome (IsFoundOf l.protocol f) (take l.index l.protocol.messages)) l.fn.found.items l.found.items
