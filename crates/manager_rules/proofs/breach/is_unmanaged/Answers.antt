use Rattle.std.proofs.lemmas.Bool.Decides.{Decides-not}
use Rattle.manager_rules.specs.declared.side.Relation.TheVariants.{Managed}
use Rattle.manager_rules.specs.Managers.{Manages}
use Rattle.manager_rules.proofs.Bonds.{bond_names}
use Rattle.manager_rules.proofs.Found.{with_told}
use Rattle.manager_rules.proofs.breach.is_unmanaged.Goals as goal

pub returns-in-Some : goal.returns-in-Some
returns-in-Some c =
    let program = c.args.known.now.program.now in
    let subject = c.args.subject.now in
    let found = c.in-Some.ensures.some in
    with_told (λ other q. ¬ Manages program subject.file subject.protocol.now other) program subject.file c.args.name.now c.in-Some.other c.in-Some.field-0-1.now _ found.0 found.1
    (Decides-not c.has_bond.result (bond_names Managed program subject.file c.in-Some.other subject.protocol.now c.has_bond.result c.requires.subject.there c.has_bond.ensures))
