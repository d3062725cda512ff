use Rattle.std.proofs.Common.{sym}
use Rattle.std.proofs.lemmas.Bool.{true≢false}
use Rattle.std.proofs.lemmas.Bool.Decides.{Decides-at}
use Rattle.manager_rules.proofs.Bonds.{no_row}
use Rattle.manager_rules.proofs.known.ManagementGraph.has_bond.Goals as goal

pub returns-in-Some : goal.returns-in-Some
returns-in-Some c = Decides-at _ _ c.contains.ensures ((c.rows.ensures.row c.args.file c.in-Some.row.now (sym c.in-Some.ensures)).set c.args.other)

pub returns-in-None : goal.returns-in-None
returns-in-None c = (λ t. absurd (true≢false (sym t)), λ bond. absurd (no_row c.args.side _ c.rows.result.now c.args.file c.args.other c.rows.ensures (sym c.in-None.ensures) bond))
