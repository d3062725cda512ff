use Rattle.findings.specs.Adds.{Adds}
use Rattle.ipdl_base.specs.declared.finding.TheConstants.Rule as rule
use Rattle.std.proofs.Common.{take}
use Rattle.std.specs.List.{Any}
use Rattle.type_rules.proofs.fields.add_repeated_in.Given as goal
use Rattle.type_rules.specs.Steps.{HasRepeatedField}

-- those so far have their findings
abbrev pub invariant-loop-item : goal.invariant-loop-item
invariant-loop-item l = Adds rule.REPEATED_FIELD (λ place. Any (λ x. HasRepeatedField place x) (take l.item-index l.structs)) l.fn.found.items l.found.items
