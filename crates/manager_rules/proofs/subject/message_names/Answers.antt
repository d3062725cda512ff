use Rattle.std.proofs.Common.{ap, ◌∙◌}
use Rattle.std.proofs.lemmas.Bool.Decides.{Decides-at}
use Rattle.std.proofs.lemmas.List.{take_all}
use Rattle.ipdl_syntax.specs.declared.tree.MessageDecl.{MessageDecl}
use Rattle.manager_rules.proofs.Texts.{named_more, named_decides}
use Rattle.manager_rules.proofs.subject.message_names.Goals as goal

pub loop-message-preserved : goal.loop-message-preserved
loop-message-preserved c q =
    named_more c.args.messages.now c.loop-message.message-index c.message-item.result c.as_slice.result.now q.now _ _ c.loop-message-test.true
    (c.as_slice.ensures ∙ ap (λ (m : MessageDecl). m.name) c.message-item.is) (c.in_ok-insert.ensures.updates.0 q) (c.loop-message.invariant q)

pub returns : goal.returns
returns c = record {
  exact = λ name. Decides-at _ _ (c.loop-message.invariant name) (rw (take_all c.loop-message.message-index c.args.messages.now c.loop-message-test.false) (named_decides c.args.messages.now name.now));
}
