use Rattle.std.proofs.Common.{arith}
use Rattle.std.proofs.lemmas.Grind.{common_steps}
use Rattle.value_types.proofs.Digits.{hex_digits_none, hex_digits_step}
use Rattle.value_types.proofs.text.+push_hex_digits.Goals as goal

pub returns-then-count-eq0 : goal.returns-then-count-eq0
returns-then-count-eq0 t c =
    let none = hex_digits_none c.args.count c.args.n c.if-count-eq0.true in
    grind (arith, common_steps)

pub returns : goal.returns
returns t c =
    let step = hex_digits_step c.args.count c.args.n c.if-count-eq0.false in
    grind (arith, common_steps)
