use Rattle.std.proofs.Common.{sym, arith}
use Rattle.manager_rules.specs.declared.side.Relation.TheVariants.{Managers}
use Rattle.manager_rules.proofs.Bonds.{no_row, bond_of, manager_of}
use Rattle.manager_rules.proofs.known.ManagementGraph.managers_of.Goals as goal

pub returns-in-Some : goal.returns-in-Some
returns-in-Some c other =
    let program = c.args.self.now.program.now in
    let told = (c.rows.ensures.row c.args.file c.in-Some.row.now (sym c.in-Some.ensures)).files other in
    rw c.as_slice.ensures.value (λ h. manager_of program c.args.file other (told.0 h), λ m. told.1 (bond_of program c.args.file other m))

pub returns-in-None : goal.returns-in-None
returns-in-None c other =
    let program = c.args.self.now.program.now in
    (λ h. absurd (let k = h.1 in omega arith), λ m. absurd (no_row Managers program c.rows.result.now c.args.file other c.rows.ensures (sym c.in-None.ensures) (bond_of program c.args.file other m)))
