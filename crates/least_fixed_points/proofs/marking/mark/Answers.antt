use Rattle.std.proofs.Common.{rules, arith, length, ◌<◌}
use Rattle.least_fixed_points.proofs.Growth.{Marks-new}
use Rattle.least_fixed_points.proofs.marking.mark.Goals as goal

pub returns-in_ok-push : goal.returns-in_ok-push
returns-in_ok-push c =
    let within : c.args.node < length c.args.marks.now.items = omega (arith, c.args.marks.now.ok.0) in
    rw c.in_ok-push.ensures.items (Marks-new _ _ _ within (search rules))
