use Rattle.std.proofs.Common.{◌≡◌, ◌++◌, subst}
use Rattle.std.proofs.lemmas.List.{take_all}
use Rattle.ipdl_base.specs.declared.finding.Finding.{Finding}
use Rattle.ipdl_base.specs.declared.finding.TheConstants.Rule as rule
use Rattle.ipdl_syntax.specs.declared.tree.MessageDecl.{MessageDecl}
use Rattle.findings.specs.Gains.{Gains}
use Rattle.findings.specs.Repeats.{IsRepeatedAt}
use Rattle.findings.proofs.Gathers.{Gains-at_none, Gains-more, Gains-rule}
use Rattle.message_rules.specs.Broken.{returns_of}
use Rattle.message_rules.specs.Gathered.{param_names}
use Rattle.message_rules.proofs.report.add_repeated_in.Goals as goal

repeats : Finding → MessageDecl → Type 0
repeats f m = (f.rule ≡ rule.REPEATED_PARAMETER) × IsRepeatedAt (param_names (m.params ++ returns_of m.returns)) f.place

pub loop-message-init : goal.loop-message-init
unfolding repeats
loop-message-init c = Gains-at_none repeats c.args.found.now.items

pub loop-message-preserved : goal.loop-message-preserved
unfolding repeats
loop-message-preserved c =
    let Q : MessageDecl → Type 0 = λ m. Gains (λ f. repeats f m) c.loop-message.found.items c.add_repeated_of.new.found.items in
    Gains-more repeats c.args.messages.now c.loop-message.message-index c.message-item.result _ _ _ c.loop-message-test.true c.loop-message.invariant
    (subst Q c.message-item.is (Gains-rule rule.REPEATED_PARAMETER _ _ _ c.in_ok-add_repeated_of.ensures))

pub returns : goal.returns
returns c = rw (take_all c.loop-message.message-index c.args.messages.now c.loop-message-test.false) at c.loop-message.invariant
