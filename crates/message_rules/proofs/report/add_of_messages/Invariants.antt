use Rattle.std.proofs.Common.{take, ◌⊎◌}
use Rattle.std.specs.Prelude.{IsSomeAnd}
use Rattle.std.specs.List.{Any}
use Rattle.findings.specs.Gains.{Gains}
use Rattle.message_rules.specs.Gathered.{IsFoundIn, IsRepeatedIn}
use Rattle.message_rules.proofs.report.add_of_messages.Given as goal

-- the protocols so far have their findings
abbrev pub invariant-loop-entry : goal.invariant-loop-entry
invariant-loop-entry l = Gains (λ f. Any (λ e. IsSomeAnd e.unit.protocol (λ p. IsFoundIn p f ⊎ IsRepeatedIn p.messages f)) (take l.entry-index l.program)) l.fn.found.items l.found.items
