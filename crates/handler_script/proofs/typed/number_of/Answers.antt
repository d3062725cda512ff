use Rattle.std.proofs.Common.{◌≤◌, lit<, arith}
use Rattle.std.proofs.Math.Nat.{pow-le-pow_right}
use Rattle.handler_script.proofs.typed.number_of.Goals as goal

pub overflow_mul-n : goal.overflow_mul-n
overflow_mul-n c =
    let few : c.loop-b.b-index ≤ 7 = omega arith in
    let most = pow-le-pow_right {n = 256} (lit< tt) {i = c.loop-b.b-index} {j = 7} few in
    omega (arith, most, c.loop-b.invariant.1)

pub overflow_add-n : goal.overflow_add-n
overflow_add-n c =
    let few : c.loop-b.b-index ≤ 7 = omega arith in
    let most = pow-le-pow_right {n = 256} (lit< tt) {i = c.loop-b.b-index} {j = 7} few in
    omega (arith, most, c.loop-b.invariant.1)
