use Rattle.std.proofs.Common.{subst}
use Rattle.std.proofs.lemmas.Result.{IfOk-weaker}
use Rattle.ipdl_top.specs.ScriptSteps.{IsScriptChecked}
use Rattle.ipdl_top.proofs.Scripted.{of_broken, of_valid}
use Rattle.ipdl_top.proofs.pipeline.WithScriptBySchema.by_schema.Goals as goal

pub returns-in-Broken : goal.returns-in-Broken
returns-in-Broken g c =
    let file = c.args.self.script in
    IfOk-weaker c.of_report.result _ _
    (λ answer says text held. of_broken (g.C.ByScript.Says c.args.self.command c.args.schema.now) file.name.now text file.file.now c.args.schema.now c.in-Broken.report answer
    (subst (IsScriptChecked file.name.now text file.file.now c.args.schema.now) c.in-Broken.is (c.in_ok-report.ensures.found text held)) says) c.of_report.ensures

pub returns-in-Valid : goal.returns-in-Valid
returns-in-Valid g c =
    let file = c.args.self.script in
    IfOk-weaker c.by_script.result _ _
    (λ answer says text held. of_valid (g.C.ByScript.Says c.args.self.command c.args.schema.now) file.name.now text file.file.now c.args.schema.now c.in-Valid.script answer
    (subst (IsScriptChecked file.name.now text file.file.now c.args.schema.now) c.in-Valid.is (c.in_ok-report.ensures.found text held)) says) c.by_script.ensures
