use Rattle.std.proofs.Common.{ap, []}
use Rattle.ipdl_syntax.specs.declared.tree.Param.{Param}
use Rattle.type_rules.specs.Steps.{name_place}
use Rattle.written_parts.proofs.Appending.{map-turn}
use Rattle.type_rules.proofs.fields.names_of.Goals as goal

pub loop-field-preserved : goal.loop-field-preserved
loop-field-preserved c =
    let x = c.field-item.result in
    map-turn name_place (λ (x : Param). (x.name, x.place)) [] c.args.fields.now c.loop-field.field-index x c.loop-field.names.items c.push.new.self.items (c.as_slice.result, x.place) c.loop-field-test.true c.field-item.is c.in_ok-push.ensures.items
    (ap (λ n. (n, x.place)) c.as_slice.ensures) c.loop-field.invariant
