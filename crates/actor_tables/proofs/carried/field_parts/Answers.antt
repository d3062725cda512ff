use Rattle.actor_tables.specs.Marked.{part_of}
use Rattle.actor_tables.proofs.Rowed.{filter_map_next}
use Rattle.actor_tables.proofs.carried.field_parts.Goals as goal

pub loop-field-preserved : goal.loop-field-preserved
loop-field-preserved c = filter_map_next (λ field. part_of field.shape) c.args.fields.now c.loop-field.field-index c.field-item.result c.loop-field.parts.items c.add_part.new.parts.items c.loop-field-test.true c.field-item.is c.loop-field.invariant c.in_ok-add_part.ensures
