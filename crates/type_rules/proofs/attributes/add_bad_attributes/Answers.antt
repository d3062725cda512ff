use Rattle.std.proofs.Common.{[], ◌⊎◌, map, ap, ◌∙◌}
use Rattle.std.proofs.lemmas.List.{take_all}
use Rattle.std.specs.List.{Any}
use Rattle.ipdl_base.specs.declared.finding.Place.{Place}
use Rattle.ipdl_base.specs.declared.finding.TheConstants.Rule as rule
use Rattle.findings.proofs.Gains.{Adds-none}
use Rattle.written_parts.specs.Attributes.{AttributesOf, told, attribute_lists}
use Rattle.written_parts.specs.declared.attributes.AttributeList.{AttributeList}
use Rattle.type_rules.specs.Attributes.{HasRepeat, HasUnlisted}
use Rattle.type_rules.proofs.Lists.{any_nothing}
use Rattle.type_rules.proofs.Placed.{Adds-turn, Adds-listed}
use Rattle.type_rules.proofs.attributes.add_bad_attributes.Goals as goal

abbrev IsBadIn : Place → AttributeList → Type 0
IsBadIn place l = HasRepeat place l.attributes.now ⊎ HasUnlisted place l.bearer l.attributes.now

pub loop-list-init : goal.loop-list-init
loop-list-init c = Adds-none rule.BAD_ATTRIBUTE (λ place. Any (IsBadIn place) []) c.args.found.now.items (λ place none. any_nothing (IsBadIn place) none)

pub loop-list-preserved : goal.loop-list-preserved
loop-list-preserved c =
    Adds-turn rule.BAD_ATTRIBUTE IsBadIn c.deref-list-items.result.now c.loop-list.list-index c.list-item.result _ _ _ c.loop-list-test.true c.list-item.is c.loop-list.invariant c.in_ok-add_bad_of.ensures

pub returns : goal.returns
returns c =
    let all = c.deref-list-items.result.now in
    Adds-listed rule.BAD_ATTRIBUTE (λ (place : Place) (a : AttributesOf). HasRepeat place a.attributes ⊎ HasUnlisted place a.bearer a.attributes) told all (attribute_lists c.args.program.now) _ _
    (ap (map told) c.deref-list-items.ensures.value ∙ c.in_ok-lists.ensures) (rw (take_all c.loop-list.list-index all c.loop-list-test.false) at c.loop-list.invariant)
