use Rattle.std.proofs.lemmas.List.{take_all}
use Rattle.written_parts.specs.Types.{told, types_within}
use Rattle.written_parts.proofs.Appending.{appends_none, appends_turn}
use Rattle.written_parts.proofs.types.add_components.Goals as goal

pub loop-component-init : goal.loop-component-init
loop-component-init c = appends_none told c.args.types.now.items

pub loop-component-preserved : goal.loop-component-preserved
loop-component-preserved c =
    appends_turn told (types_within c.args.file) c.args.components.now c.loop-component.component-index c.component-item.result _ _ _ c.loop-component-test.true c.component-item.is c.loop-component.invariant c.in_ok-add_type.ensures

pub returns : goal.returns
returns c = rw (take_all c.loop-component.component-index c.args.components.now c.loop-component-test.false) at c.loop-component.invariant
