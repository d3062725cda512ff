use Rattle.std.proofs.Common.{subst}
use Rattle.std.proofs.lemmas.List.{take_all}
use Rattle.ipdl_base.specs.declared.finding.Finding.{Finding}
use Rattle.ipdl_syntax.specs.declared.tree.MessageDecl.{MessageDecl}
use Rattle.findings.specs.Gains.{Gains}
use Rattle.findings.proofs.Gathers.{Gains-nowhere, Gains-at_more}
use Rattle.message_rules.specs.Breaches.{IsFoundOf}
use Rattle.message_rules.proofs.report.add_in.Goals as goal

pub loop-index-init : goal.loop-index-init
loop-index-init c = Gains-nowhere (λ (f : Finding). IsFoundOf c.args.protocol.now f) c.args.found.now.items

pub loop-index-preserved : goal.loop-index-preserved
loop-index-preserved c =
    let p = c.args.protocol.now in
    let Q : MessageDecl → Type 0 = λ m. Gains (λ f. IsFoundOf p f c.loop-index.index m) c.loop-index.found.items c.add_of_message.new.found.items in
    Gains-at_more (λ (f : Finding). IsFoundOf p f) p.messages c.loop-index.index c.message-item.result _ _ _ (rw c.as_slice-message-items.ensures at c.loop-index-test.true) c.loop-index.invariant
    (subst Q (rw c.as_slice-message-items.ensures at c.message-item.is) c.in_ok-add_of_message.ensures)

pub returns : goal.returns
returns c = rw (take_all c.loop-index.index c.args.protocol.now.messages (rw c.as_slice-message-items.ensures at c.loop-index-test.false)) at c.loop-index.invariant
