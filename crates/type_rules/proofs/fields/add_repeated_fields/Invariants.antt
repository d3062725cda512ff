use Rattle.findings.specs.Adds.{Adds}
use Rattle.ipdl_base.specs.declared.finding.TheConstants.Rule as rule
use Rattle.std.proofs.Common.{take}
use Rattle.std.specs.List.{Any}
use Rattle.std.specs.List.{Any}
use Rattle.type_rules.proofs.fields.add_repeated_fields.Given as goal
use Rattle.type_rules.specs.Steps.{HasRepeatedField}

-- those so far have their findings
abbrev pub invariant-loop-entry : goal.invariant-loop-entry
invariant-loop-entry l = Adds rule.REPEATED_FIELD (λ place. Any (λ x. Any (HasRepeatedField place) x.unit.structs) (take l.entry-index l.program)) l.fn.found.items l.found.items
