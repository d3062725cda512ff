use Rattle.std.proofs.Common.{ap, []}
use Rattle.ipdl_syntax.specs.declared.tree.Attribute.{Attribute}
use Rattle.type_rules.specs.Steps.{name_place}
use Rattle.written_parts.proofs.Appending.{map-turn}
use Rattle.type_rules.proofs.attributes.names_of.Goals as goal

pub loop-attribute-preserved : goal.loop-attribute-preserved
loop-attribute-preserved c =
    let x = c.attribute-item.result in
    map-turn name_place (λ (x : Attribute). (x.name, x.place)) [] c.args.attributes.now c.loop-attribute.attribute-index x c.loop-attribute.names.items c.push.new.self.items (c.as_slice.result, x.place) c.loop-attribute-test.true c.attribute-item.is c.in_ok-push.ensures.items
    (ap (λ n. (n, x.place)) c.as_slice.ensures) c.loop-attribute.invariant
