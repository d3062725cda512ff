use Rattle.std.proofs.Common.{rules, arith, length, ◌<◌}
use Rattle.name_table.proofs.Marking.{marks_new}
use Rattle.manager_rules.proofs.cycle.mark.Goals as goal

pub returns-in_ok-push : goal.returns-in_ok-push
returns-in_ok-push c =
    let within : c.args.file < length c.args.marks.now.items = omega (arith, c.args.marks.now.ok.0) in
    rw c.in_ok-push.ensures.items (marks_new _ _ _ within (search rules))
