use Rattle.std.proofs.Common.{arith}
use Rattle.wait_report.proofs.LeastLists.{least-few, least-whole}
use Rattle.wait_report.proofs.least.least_in.Goals as goal

pub loop-component-init : goal.loop-component-init
loop-component-init c = let few = least-few c.args.types.now c.args.built.now c.args.components.now in record { few = omega arith; whole = omega (arith, few) }

pub returns : goal.returns
returns c = least-whole c.args.types.now c.args.built.now c.args.components.now c.loop-component.component-index c.loop-component.bytes c.loop-component-test.false c.loop-component.invariant.few c.loop-component.invariant.whole
