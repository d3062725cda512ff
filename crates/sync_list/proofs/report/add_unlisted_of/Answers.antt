use Rattle.std.proofs.Common.{◌≡◌, refl, subst, sym, ◌∙◌}
use Rattle.std.proofs.lemmas.Bool.{true≢false}
use Rattle.std.proofs.lemmas.List.{take_all}
use Rattle.ipdl_base.specs.declared.finding.TheConstants.Rule as rule
use Rattle.ipdl_base.specs.declared.kinds.Semantics.TheVariants.{Sync}
use Rattle.ipdl_syntax.specs.declared.tree.MessageDecl.{MessageDecl}
use Rattle.findings.specs.Adds.{Adds}
use Rattle.findings.proofs.Gains.{Adds-more, Adds-like}
use Rattle.sync_list.specs.Broken.{Lists, IsUnlistedAt}
use Rattle.sync_list.proofs.Found.{Adds-found, Adds-quiet}
use Rattle.sync_list.proofs.report.add_unlisted_of.Goals as goal
use Rattle.sync_list.proofs.report.add_unlisted_of.Goals.{then-is_unlisted+in_ok-push, else-is_unlisted}

pub loop-message-preserved : goal.loop-message-preserved
loop-message-preserved c list are =
    let m = c.message-item.result in
    let protocol = c.args.protocol.now in
    let Q : MessageDecl → Type 0 = λ m. Adds rule.UNLISTED_SYNC (λ place. IsUnlistedAt list protocol place m) c.loop-message.found.items c.if-is_unlisted.found.items in
    let told = c.is_unlisted.ensures list are in
    Adds-more rule.UNLISTED_SYNC (IsUnlistedAt list protocol) c.args.messages.now c.loop-message.message-index m _ _ _ c.loop-message-test.true (c.loop-message.invariant list are)
    (subst Q c.message-item.is
    (elim c.if-is_unlisted.branch [
      | then-is_unlisted+in_ok-push w ↦
          Adds-like rule.UNLISTED_SYNC (λ place. ((m.semantics ≡ Sync) × ¬ Lists list protocol m.name) × (m.place ≡ place)) (λ place. IsUnlistedAt list protocol place m) _ _
          (Adds-found rule.UNLISTED_SYNC m.place _ _ _ (told.0 w.if-is_unlisted.true) (rw w.found-is w.in_ok-push.ensures.items))
          (λ place h. record { sync = h.0.0; unlisted = h.0.1; here = h.1 })
          (λ place h. ((h.sync, h.unlisted), h.here))
      | else-is_unlisted w ↦ Adds-quiet rule.UNLISTED_SYNC (λ place. IsUnlistedAt list protocol place m) _ _ (λ place h. true≢false (sym (told.1 (h.sync, h.unlisted)) ∙ w.if-is_unlisted.false)) (rw w.found-is refl)
    ]))

pub returns : goal.returns
returns c list are = rw (take_all c.loop-message.message-index c.args.messages.now c.loop-message-test.false) at (c.loop-message.invariant list are)
