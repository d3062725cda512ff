use Rattle.std.proofs.Common.{◌⊎◌, take}
use Rattle.std.specs.List.{Any}
use Rattle.ipdl_base.specs.declared.finding.TheConstants.Rule as rule
use Rattle.findings.specs.Adds.{Adds}
use Rattle.type_rules.specs.Attributes.{HasRepeat, HasUnlisted}
use Rattle.type_rules.proofs.attributes.add_bad_attributes.Given as goal

-- the lists so far have their findings
abbrev pub invariant-loop-list : goal.invariant-loop-list
invariant-loop-list l =
    Adds rule.BAD_ATTRIBUTE (λ place. Any (λ x. HasRepeat place x.attributes.now ⊎ HasUnlisted place x.bearer x.attributes.now) (take l.list-index l.list-items)) l.fn.found.items l.found.items
