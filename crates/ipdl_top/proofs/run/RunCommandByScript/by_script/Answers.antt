use Rattle.std.proofs.Common.{◌∙◌, ap}
use Rattle.std.proofs.lemmas.Result.{IfOk-weaker}
use Rattle.world_core.specs.WorldView.{WorldView}
use Rattle.ipdl_top.specs.RunSteps.{course_of}
use Rattle.ipdl_top.proofs.Runs.{says_history}
use Rattle.ipdl_top.proofs.run.RunCommandByScript.by_script.Goals as goal

pub world_answer-requires-clause-about : goal.world_answer-requires-clause-about
world_answer-requires-clause-about g c = ap (λ setting. setting.schema) (c.driven-world.ensures.same ∙ ap (λ (w : WorldView). w.setting) c.in_ok-world.ensures.opened)

pub returns : goal.returns
returns g c =
    let Gives = g.D.Driver.Gives c.args.self.driver.now in
    IfOk-weaker c.world_answer.result _ _
    (λ answer printed. says_history c.choices_are_runs.ensures c.histories_are_lawful.ensures c.histories_keep_order.ensures c.histories_give_what_they_owe.ensures c.still_worlds_rest.ensures c.histories_are_weighed.ensures c.sides_obey_alone.ensures Gives c.args.self.request.now.rendering (course_of c.args.self.request.now) c.args.schema.now c.args.script.now c.in_ok-world.world c.driven-world.result.0 c.driven-world.result.1 answer
    c.requires.sound c.requires.ready.0 c.in_ok-world.ensures.opened c.driven-world.ensures.made c.driven-world.ensures.same c.driven-world.ensures.stands c.driven-world.ensures.case printed) c.world_answer.ensures
