use Rattle.std.proofs.Common.{ap, ◌∙◌}
use Rattle.std.proofs.lemmas.List.{take_all}
use Rattle.ipdl_syntax.specs.declared.tree.NameAt.{NameAt}
use Rattle.message_rules.proofs.Sets.{HasNames-none, HasNames-more}
use Rattle.message_rules.proofs.kinds.managed_names.Goals as goal

pub loop-managed-init : goal.loop-managed-init
loop-managed-init c = HasNames-none c.new-names.result c.new-names.ensures.empty

pub loop-managed-preserved : goal.loop-managed-preserved
loop-managed-preserved c =
    HasNames-more c.loop-managed.names c.insert.new.self c.args.manages.now c.loop-managed.managed-index c.managed-item.result c.as_slice.result c.loop-managed-test.true
    (c.as_slice.ensures ∙ ap (λ (n : NameAt). n.name) c.managed-item.is) c.in_ok-insert.ensures.updates.0 c.loop-managed.invariant

pub returns : goal.returns
returns c = rw (take_all c.loop-managed.managed-index c.args.manages.now c.loop-managed-test.false) at c.loop-managed.invariant
