use Rattle.std.proofs.Common.{◌⊎◌}
use Rattle.ipdl_base.specs.declared.finding.Finding.{Finding}
use Rattle.ipdl_syntax.specs.declared.tree.ProtocolDecl.{ProtocolDecl}
use Rattle.findings.proofs.Gathers.{Gains-then, Gains-of_some}
use Rattle.message_rules.specs.Gathered.{IsFoundIn, IsRepeatedIn}
use Rattle.message_rules.proofs.report.add_of_entry.Goals as goal

pub returns-in_ok-add_repeated_in : goal.returns-in_ok-add_repeated_in
returns-in_ok-add_repeated_in c =
    let p = c.in-Some.protocol in
    Gains-of_some (λ (f : Finding) (p : ProtocolDecl). IsFoundIn p f ⊎ IsRepeatedIn p.messages f) c.args.entry.now.unit.protocol p _ _ c.in-Some.is
    (Gains-then (IsFoundIn p) (IsRepeatedIn p.messages) _ _ _ c.in_ok-add_in.ensures (rw c.as_slice.ensures at c.in_ok-add_repeated_in.ensures))
