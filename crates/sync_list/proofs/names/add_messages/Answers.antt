use Rattle.std.proofs.Common.{◌≡◌, subst, sym, refl, ◌∙◌}
use Rattle.std.proofs.lemmas.Bool.{true≢false}
use Rattle.std.proofs.lemmas.List.{take_all}
use Rattle.ipdl_syntax.specs.declared.tree.MessageDecl.{MessageDecl}
use Rattle.sync_list.specs.Sets.{NamePair, same_pair, AddsKeys}
use Rattle.sync_list.proofs.Keys.{Adds-pair, Adds-nothing, Adds-as, Adds-one_more}
use Rattle.sync_list.proofs.Same.{semantics_decides}
use Rattle.sync_list.proofs.names.add_messages.Goals as goal
use Rattle.sync_list.proofs.names.add_messages.Goals.{then-eq+in_ok-insert, else-eq}

pub loop-message-preserved : goal.loop-message-preserved
loop-message-preserved c =
    let m = c.message-item.result in
    let P : NamePair → MessageDecl → Type 0 = λ pair m. (c.args.protocol.now ≡ pair.0.now) × ((m.semantics ≡ c.args.semantics) × (m.name ≡ pair.1.now)) in
    let Q : MessageDecl → Type 0 = λ m. AddsKeys same_pair c.loop-message.names c.if-eq.names (λ q. P q m) in
    let decides = semantics_decides m.semantics c.args.semantics in
    Adds-one_more same_pair P c.args.messages.now c.loop-message.message-index m c.args.names.now _ _ c.loop-message-test.true c.loop-message.invariant
    (subst Q c.message-item.is
    (elim c.if-eq.branch [
      | then-eq+in_ok-insert w ↦
          (let same = decides.0 (sym c.eq.ensures ∙ w.if-eq.true) in
          rw w.names-is
          (Adds-as same_pair _ _ _ (λ q. P q m) (Adds-pair _ _ (c.args.protocol, w.as_slice.result) c.args.protocol.now m.name refl w.as_slice.ensures w.in_ok-insert.ensures.updates.0)
          (λ q h. (h.0, (same, h.1)))
          (λ q h. (h.0, h.1.1))))
      | else-eq w ↦ Adds-nothing same_pair _ _ _ w.names-is (λ q h. true≢false (sym (decides.1 h.1.0) ∙ sym c.eq.ensures ∙ w.if-eq.false))
    ]))

pub returns : goal.returns
returns c =
    Adds-as same_pair _ _ _ _ (rw (take_all c.loop-message.message-index c.args.messages.now c.loop-message-test.false) at c.loop-message.invariant)
    (λ q h. (h.4.0, (h.0, h.1, h.2, h.3, h.4.1)))
    (λ q h. (h.1.0, h.1.1, h.1.2, h.1.3, (h.0, h.1.4)))
