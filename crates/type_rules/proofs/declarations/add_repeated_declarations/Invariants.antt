use Rattle.findings.specs.Adds.{Adds}
use Rattle.ipdl_base.specs.declared.finding.TheConstants.Rule as rule
use Rattle.std.proofs.Common.{take}
use Rattle.std.specs.List.{Any}
use Rattle.std.specs.List.{Any}
use Rattle.std.specs.Prelude.{◌≡◌}
use Rattle.type_rules.proofs.declarations.add_repeated_declarations.Given as goal
use Rattle.type_rules.specs.Declarations.{declarations}
use Rattle.type_rules.specs.Firsts.{IsRepeatedAmong}

-- those so far have their findings
abbrev pub invariant-loop-entry : goal.invariant-loop-entry
invariant-loop-entry l = Adds rule.REPEATED_DECLARATION (λ place. Any (λ x. Any (λ d. IsRepeatedAmong (declarations x.unit) d × (d.place ≡ place)) (declarations x.unit)) (take l.entry-index l.program)) l.fn.found.items l.found.items
