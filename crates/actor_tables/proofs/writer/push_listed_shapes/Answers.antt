use Rattle.actor_tables.specs.TableText.{shape_text}
use Rattle.actor_tables.proofs.Listed.{listed_put}
use Rattle.actor_tables.proofs.writer.push_listed_shapes.Goals as goal

pub returns : goal.returns
returns c =
    listed_put c.push_more_shapes.result (shape_text c.args.schema.now) c.in-Some.first.now c.in-Some.more.now c.args.shapes.now c.args.out.now.items _ c.push_more_shapes.new.out.items
    c.in-Some.ensures.cases.0 c.in_ok-push_shape.ensures c.push_more_shapes.ensures
