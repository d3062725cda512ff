use Rattle.std.proofs.Common.{ℕ, List}
use Rattle.std.specs.Prelude.{Option}
use Rattle.std.proofs.lemmas.Result.{IfOk-weaker}
use Rattle.ipdl_base.specs.declared.schema.Schema.{Schema}
use Rattle.ipdl_top.specs.declared.answer.CommandAnswer.{CommandAnswer}
use Rattle.ipdl_top.specs.Run.{SaysHistory, SaysRun}
use Rattle.ipdl_top.specs.RunSteps.{course_of}
use Rattle.ipdl_top.specs.Scripts.{SaysByScript}
use Rattle.ipdl_top.specs.Steps.{IsHeld}
use Rattle.ipdl_top.proofs.Weaker.{told_by}
use Rattle.ipdl_top.proofs.run.answer_run.Goals as goal

pub returns : goal.returns
returns g c =
    let Gives = g.D.Driver.Gives c.args.driver.now in
    let request = c.args.request.now in
    let Says : Schema → CommandAnswer → Type 0 = λ schema answer. (text : Option (List ℕ)) → IsHeld text c.args.text.now → SaysByScript (SaysHistory Gives request.rendering (course_of request) schema) request.script.now text request.file.now schema answer in
    IfOk-weaker c.answer_by_schema.result _ _
    (λ answer told bytes held. told_by Says (SaysRun Gives request.rendering (course_of request) request.script.now bytes request.file.now) c.args.checked answer (λ schema says. says bytes held) told) c.answer_by_schema.ensures
