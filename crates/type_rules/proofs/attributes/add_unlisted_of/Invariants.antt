use Rattle.std.proofs.Common.{take}
use Rattle.ipdl_base.specs.declared.finding.TheConstants.Rule as rule
use Rattle.findings.specs.Adds.{Adds}
use Rattle.type_rules.specs.Attributes.{HasUnlisted}
use Rattle.type_rules.proofs.attributes.add_unlisted_of.Given as goal

-- those so far have their findings
abbrev pub invariant-loop-attribute : goal.invariant-loop-attribute
invariant-loop-attribute l = Adds rule.BAD_ATTRIBUTE (λ place. HasUnlisted place l.bearer (take l.attribute-index l.attributes)) l.fn.found.items l.found.items
