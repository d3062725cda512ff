use Rattle.std.proofs.Common.{refl}
use Rattle.std.proofs.lemmas.List.{take_all}
use Rattle.ipdl_syntax.specs.declared.tree.TypeSpec.{TypeSpec}
use Rattle.type_rules.proofs.Needs.{parts_none, parts_turn}
use Rattle.type_rules.proofs.parts.parts_of_components.Goals as goal

pub loop-component-init : goal.loop-component-init
loop-component-init c = parts_none c.args.names.now c.args.files.now c.args.file _ c.in_ok-with_capacity.ensures.items refl

pub loop-component-preserved : goal.loop-component-preserved
loop-component-preserved c =
    parts_turn (λ (x : TypeSpec). x.base) c.args.names.now c.args.files.now c.args.file c.args.components.now c.loop-component.component-index c.component-item.result c.loop-component.parts _ c.loop-component-test.true c.component-item.is c.loop-component.invariant c.in_ok-add_part.ensures

pub returns : goal.returns
returns c = rw (take_all c.loop-component.component-index c.args.components.now c.loop-component-test.false) at c.loop-component.invariant
