use Rattle.std.proofs.Common.{arith}
use Rattle.wait_report.proofs.LeastLists.{sum-few, sum-whole}
use Rattle.wait_report.proofs.least.sum_of.Goals as goal

pub loop-field-init : goal.loop-field-init
loop-field-init c = let few = sum-few c.args.types.now c.args.built.now c.args.fields.now in record { few = omega arith; whole = omega (arith, few) }

pub returns : goal.returns
returns c = sum-whole c.args.types.now c.args.built.now c.args.fields.now c.loop-field.field-index c.loop-field.bytes c.loop-field-test.false c.loop-field.invariant.few c.loop-field.invariant.whole
