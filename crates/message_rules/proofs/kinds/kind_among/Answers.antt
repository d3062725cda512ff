use Rattle.std.proofs.Common.{true, false, refl, sym, ◌∙◌}
use Rattle.message_rules.proofs.Sets.{HasNames-tells}
use Rattle.message_rules.proofs.kinds.kind_among.Goals as goal

pub returns-then-contains : goal.returns-then-contains
returns-then-contains c p has =
    let told = HasNames-tells c.args.managed.now p.manages c.as_slice-name.result c.args.message.now.name c.as_slice-name.ensures has true (sym c.contains.ensures ∙ c.if-contains.true) in
    let other = rw (c.as_slice-name.ensures, c.as_slice.ensures) at (sym c.eq.ensures ∙ c.if-eq.false) in
    rw (other, told) refl

pub returns-else-contains : goal.returns-else-contains
returns-else-contains c p has =
    let told = HasNames-tells c.args.managed.now p.manages c.as_slice-name.result c.args.message.now.name c.as_slice-name.ensures has false (sym c.contains.ensures ∙ c.if-contains.false) in
    let other = rw (c.as_slice-name.ensures, c.as_slice.ensures) at (sym c.eq.ensures ∙ c.if-eq.false) in
    rw (other, told) refl
