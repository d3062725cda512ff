use Rattle.std.specs.Prelude.{IsSomeAnd}
use Rattle.findings.specs.Gains.{Gains}
use Rattle.manager_rules.specs.InProtocol.{BrokenIn}
use Rattle.manager_rules.proofs.Gathered.{AtBelow}
use Rattle.manager_rules.proofs.report.add_of_files.Given as goal

-- the protocols so far have their findings
abbrev pub invariant-loop-file : goal.invariant-loop-file
invariant-loop-file l = Gains (λ f. AtBelow l.file (λ file e. IsSomeAnd e.unit.protocol (λ p. BrokenIn l.known.program.now file p f)) l.known.program.now) l.fn.found.items l.found.items
