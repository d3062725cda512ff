use Rattle.actor_tables.specs.Marked.{part_of}
use Rattle.actor_tables.proofs.Rowed.{filter_map_next}
use Rattle.actor_tables.proofs.carried.component_parts.Goals as goal

pub loop-component-preserved : goal.loop-component-preserved
loop-component-preserved c = filter_map_next part_of c.args.components.now c.loop-component.component-index c.component-item.result c.loop-component.parts.items c.add_part.new.parts.items c.loop-component-test.true c.component-item.is c.loop-component.invariant c.in_ok-add_part.ensures
