use Rattle.value_codec.proofs.Depths.{no_depth, at_depth}
use Rattle.value_codec.proofs.values.+reading.Goals as goal

pub value-returns-then-depth-eq0 : goal.value-returns-then-depth-eq0
value-returns-then-depth-eq0 t c = rw c.short.ensures (no_depth c.args.depth c.args.layout c.args.schema.now c.args.shape.now c.args.bytes.now c.if-depth-eq0.true)

pub value-returns : goal.value-returns
value-returns t c = rw (at_depth c.args.depth c.args.layout c.args.schema.now c.args.shape.now c.args.bytes.now c.if-depth-eq0.false) c.value_of_shape.ensures
