use Rattle.std.proofs.Common.{◌≡◌, ◌↔◌, IsTrue, Bool, ap, sym, ◌∙◌}
use Rattle.std.proofs.lemmas.Result.{IfOk-weaker}
use Rattle.law_statements.specs.Fallen.{Fallen}
use Rattle.law_statements.specs.Living.{Living}
use Rattle.law_statements.specs.Readable.{Readable}
use Rattle.order_statements.specs.Effects.{Effects}
use Rattle.order_checks.specs.declared.walk.Statement.TheVariants as statement
use Rattle.order_checks.specs.Walk.{all_pass}
use Rattle.order_checks.proofs.EffectsLaw.{effects-from, effects-to}
use Rattle.order_checks.proofs.walk.gives_effects.Goals as goal

pub returns : goal.returns
returns c =
    let schema = c.args.schema.now in
    let lines = c.args.history.now.lines in
    IfOk-weaker c.decide.result (λ (yes : Bool). yes ≡ all_pass statement.Effects schema c.lines.result.now) (λ (yes : Bool). Readable schema lines → Living schema lines → Fallen schema lines → (IsTrue yes ↔ Effects schema lines)) (λ yes e told living falls.
    let is : yes ≡ all_pass statement.Effects schema lines = e ∙ ap (all_pass statement.Effects schema) c.lines.ensures in
    (λ h. effects-to schema lines told falls (sym is ∙ h), λ s. is ∙ effects-from schema lines told living s))
    c.decide.ensures
