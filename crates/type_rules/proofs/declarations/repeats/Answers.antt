use Rattle.type_rules.proofs.Firsts.{repeats_by_first}
use Rattle.type_rules.proofs.declarations.repeats.Goals as goal
use Rattle.type_rules.specs.Firsts.{told}

pub returns-else-declaration : goal.returns-else-declaration
returns-else-declaration c all any own =
    let h = repeats_by_first _ all c.args.any.now (told c.args.declaration.now) c.if-declaration.false any in
    let t = c.stands_before-else-declaration.ensures in
    (λ e. h.0 (t.0 e), λ e. t.1 (h.1 e))

pub returns-then-declaration : goal.returns-then-declaration
returns-then-declaration c all any own =
    let h = repeats_by_first _ all c.args.own.now (told c.args.declaration.now) c.if-declaration.true own in
    let t = c.stands_before.ensures in
    (λ e. h.0 (t.0 e), λ e. t.1 (h.1 e))
