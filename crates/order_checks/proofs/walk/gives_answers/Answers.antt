use Rattle.std.proofs.Common.{◌≡◌, ◌↔◌, IsTrue, Bool, ap, sym, ◌∙◌}
use Rattle.std.proofs.lemmas.Result.{IfOk-weaker}
use Rattle.law_statements.specs.Readable.{Readable}
use Rattle.order_statements.specs.Answers.{Answers}
use Rattle.order_checks.specs.declared.walk.Statement.TheVariants as statement
use Rattle.order_checks.specs.Walk.{all_pass}
use Rattle.order_checks.proofs.AnswersLaw.{answers-from, answers-to}
use Rattle.order_checks.proofs.walk.gives_answers.Goals as goal

pub returns : goal.returns
returns c =
    let schema = c.args.schema.now in
    let lines = c.args.history.now.lines in
    IfOk-weaker c.decide.result (λ (yes : Bool). yes ≡ all_pass statement.Answers schema c.lines.result.now) (λ (yes : Bool). Readable schema lines → (IsTrue yes ↔ Answers schema lines)) (λ yes e told.
    let is : yes ≡ all_pass statement.Answers schema lines = e ∙ ap (all_pass statement.Answers schema) c.lines.ensures in
    (λ h. answers-to schema lines told (sym is ∙ h), λ s. is ∙ answers-from schema lines told s))
    c.decide.ensures
