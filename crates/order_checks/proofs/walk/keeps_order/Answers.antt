use Rattle.std.proofs.Common.{◌≡◌, ◌↔◌, IsTrue, Bool, ap, subst, sym, ◌∙◌}
use Rattle.std.proofs.lemmas.Result.{IfOk-weaker}
use Rattle.law_statements.specs.Readable.{Readable}
use Rattle.order_statements.specs.Order.{Order}
use Rattle.order_checks.specs.declared.walk.Statement.TheVariants as statement
use Rattle.order_checks.specs.Walk.{all_pass}
use Rattle.order_checks.proofs.OrderLaw.{order-is}
use Rattle.order_checks.proofs.walk.keeps_order.Goals as goal

pub returns : goal.returns
returns c =
    let schema = c.args.schema.now in
    let lines = c.args.history.now.lines in
    IfOk-weaker c.decide.result (λ (yes : Bool). yes ≡ all_pass statement.Order schema c.lines.result.now) (λ (yes : Bool). Readable schema lines → (IsTrue yes ↔ Order schema lines))
    (λ yes e told. subst (λ (b : Bool). IsTrue b ↔ Order schema lines) (sym (e ∙ ap (all_pass statement.Order schema) c.lines.ensures)) (order-is schema lines told)) c.decide.ensures
