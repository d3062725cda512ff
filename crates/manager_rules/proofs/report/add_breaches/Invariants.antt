use Rattle.std.proofs.Common.{take}
use Rattle.findings.specs.Adds.{Adds}
use Rattle.manager_rules.specs.Breaches.{rule_of, Breaks}
use Rattle.manager_rules.specs.Broken.{AtName}
use Rattle.manager_rules.proofs.report.add_breaches.Given as goal

-- the names so far have their findings
abbrev pub invariant-loop-name : goal.invariant-loop-name
invariant-loop-name l = Adds (rule_of l.breach) (λ place. AtName (Breaks l.breach l.known.program.now l.subject.file l.subject.protocol.now) place (take l.name-index l.names)) l.fn.found.items l.found.items
