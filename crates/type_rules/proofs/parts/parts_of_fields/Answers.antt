use Rattle.std.proofs.Common.{refl}
use Rattle.std.proofs.lemmas.List.{take_all}
use Rattle.ipdl_syntax.specs.declared.tree.Param.{Param}
use Rattle.type_rules.proofs.Needs.{parts_none, parts_turn}
use Rattle.type_rules.proofs.parts.parts_of_fields.Goals as goal

pub loop-field-init : goal.loop-field-init
loop-field-init c = parts_none c.args.names.now c.args.files.now c.args.file _ c.in_ok-with_capacity.ensures.items refl

pub loop-field-preserved : goal.loop-field-preserved
loop-field-preserved c =
    parts_turn (λ (x : Param). x.spec.base) c.args.names.now c.args.files.now c.args.file c.args.fields.now c.loop-field.field-index c.field-item.result c.loop-field.parts _ c.loop-field-test.true c.field-item.is c.loop-field.invariant c.in_ok-add_part.ensures

pub returns : goal.returns
returns c = rw (take_all c.loop-field.field-index c.args.fields.now c.loop-field-test.false) at c.loop-field.invariant
