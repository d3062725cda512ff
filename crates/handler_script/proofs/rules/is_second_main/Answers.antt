use Rattle.std.proofs.Common.{sym, ◌∙◌, subst}
use Rattle.std.specs.Prelude.{◌↔◌, IsTrue}
use Rattle.script_reader.specs.declared.statement.Statement.{Statement}
use Rattle.handler_script.specs.Broken.{IsSecondMain}
use Rattle.handler_script.proofs.rules.is_second_main.Goals as goal

pub returns-in-Main : goal.returns-in-Main
returns-in-Main c schema before k =
    let P : Statement → Type 0 = λ s. IsTrue c.has_main.result ↔ IsSecondMain before s in
    let is = c.has_main.ensures schema before k in
    subst P (sym c.in-Main.is) ((λ h. sym is ∙ h), (λ h. is ∙ h))
