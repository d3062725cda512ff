use Rattle.std.proofs.Common.{sym, ◌∙◌, refl}
use Rattle.std.proofs.lemmas.Bool.{true≢false}
use Rattle.std.proofs.lemmas.List.{take_all}
use Rattle.ipdl_base.specs.declared.finding.TheConstants.Rule as rule
use Rattle.ipdl_syntax.specs.declared.tree.MessageDecl.{MessageDecl}
use Rattle.manager_rules.specs.Broken.{FindsWith}
use Rattle.manager_rules.specs.Managers.{Manages}
use Rattle.manager_rules.proofs.Gathered.{adds_hit, adds_miss}
use Rattle.manager_rules.proofs.report.add_unmanaged.Goals as goal
use Rattle.manager_rules.proofs.report.add_unmanaged.Goals.{then-is_unmanaged+in_ok-push, else-is_unmanaged}

pub loop-message-preserved : goal.loop-message-preserved
loop-message-preserved c =
    let m = c.message-item.result in
    let program = c.args.known.now.program.now in
    let subject = c.args.subject.now in
    let P : MessageDecl → Type 0 = λ m. FindsWith (λ other q. ¬ Manages program subject.file subject.protocol.now other) program subject.file m.name in
    elim c.if-is_unmanaged.branch [
      | then-is_unmanaged+in_ok-push w ↦
          adds_hit rule.UNMANAGED_CONSTRUCTOR P (λ m. m.place) c.args.messages.now c.loop-message.message-index m _ _ _ c.loop-message-test.true c.message-item.is (c.is_unmanaged.ensures.0 w.if-is_unmanaged.true)
          (rw w.found-is w.in_ok-push.ensures.items) c.loop-message.invariant
      | else-is_unmanaged w ↦
          adds_miss rule.UNMANAGED_CONSTRUCTOR P (λ m. m.place) c.args.messages.now c.loop-message.message-index m _ _ _ c.loop-message-test.true c.message-item.is (λ h. true≢false (sym (c.is_unmanaged.ensures.1 h) ∙ w.if-is_unmanaged.false)) (rw w.found-is refl) c.loop-message.invariant
    ]

pub returns : goal.returns
returns c = rw (take_all c.loop-message.message-index c.args.messages.now c.loop-message-test.false) at c.loop-message.invariant
