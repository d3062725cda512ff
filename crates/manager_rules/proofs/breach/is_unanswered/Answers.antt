use Rattle.std.proofs.lemmas.Bool.Decides.{Decides-not}
use Rattle.manager_rules.specs.Sides.{NamesOn, other_side}
use Rattle.manager_rules.proofs.Bonds.{bond_names}
use Rattle.manager_rules.proofs.Found.{with_told}
use Rattle.manager_rules.proofs.breach.is_unanswered.Goals as goal

pub returns-in-Some : goal.returns-in-Some
returns-in-Some c =
    let program = c.args.known.now.program.now in
    let file = c.args.subject.now.file in
    let found = c.in-Some.ensures.some in
    with_told (λ other q. ¬ NamesOn (other_side c.args.side) program other q file) program file c.args.name.now c.in-Some.other c.in-Some.field-0-1.now _ found.0 found.1
    (Decides-not c.has_bond.result (bond_names (other_side c.args.side) program c.in-Some.other file c.in-Some.field-0-1.now c.has_bond.result found.1 (rw c.other.ensures at c.has_bond.ensures)))
