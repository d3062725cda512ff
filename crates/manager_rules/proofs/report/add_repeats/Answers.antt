use Rattle.std.proofs.lemmas.Result.{on_ok_weaker}
use Rattle.ipdl_base.specs.declared.finding.TheConstants.Rule as rule
use Rattle.findings.specs.Repeats.{IsRepeatedAt}
use Rattle.findings.proofs.Gains.{Adds-then}
use Rattle.manager_rules.specs.Broken.{names_at, messages_at}
use Rattle.manager_rules.proofs.report.add_repeats.Goals as goal

pub returns : goal.returns
returns c =
    let p = c.args.protocol.now in
    let one = rw c.as_slice.ensures at c.in_ok-add_repeated_names.ensures in
    let two = rw c.as_slice-2.ensures at c.in_ok-add_repeated_names-2.ensures in
    on_ok_weaker c.add_repeated_messages.result
    (λ three.
    Adds-then rule.REPEATED_NAME (IsRepeatedAt (names_at p.managers)) _ c.args.found.now.items c.add_repeated_names.new.found.items _ one
    (Adds-then rule.REPEATED_NAME (IsRepeatedAt (names_at p.manages)) (IsRepeatedAt (messages_at p.messages)) c.add_repeated_names.new.found.items c.add_repeated_names-2.new.found.items _ two
    (rw c.as_slice-3.ensures at three)))
    c.add_repeated_messages.ensures
