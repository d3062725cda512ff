use Rattle.program_schema.specs.Shapes.{IsShapeOf}
use Rattle.actor_tables.specs.Numbered.{numbering_of}
use Rattle.actor_tables.proofs.Rowed.{zip_next}
use Rattle.actor_tables.proofs.types.component_shapes.Goals as goal

pub loop-component-preserved : goal.loop-component-preserved
loop-component-preserved c =
    rw c.in_ok-push.ensures.items (zip_next (IsShapeOf c.args.source.now.program.now (numbering_of c.args.source.now.numbers) c.args.file) c.args.components.now c.loop-component.shapes.items c.loop-component.component-index
    c.component-item.result c.in_ok-shape_of.field-0 c.loop-component-test.true c.component-item.is c.loop-component.invariant c.in_ok-shape_of.ensures)
