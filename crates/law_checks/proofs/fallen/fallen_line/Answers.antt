use Rattle.std.proofs.Common.{SFits, w32, rules, to_z-of_z}
use Rattle.law_checks.proofs.fallen.fallen_line.Goals as goal

pub returns-in-Fall : goal.returns-in-Fall
returns-in-Fall c =
    let fits : SFits w32 c.in-Fall.id = search rules in
    rw c.in-Fall.is (rw (to_z-of_z fits) at c.may_fall.ensures)
