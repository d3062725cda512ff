use Rattle.std.proofs.Common.{ℕ, List, string_bytes, subst}
use Rattle.std.specs.Prelude.{Option}
use Rattle.std.proofs.lemmas.Result.{IfOk-weaker}
use Rattle.command_words.specs.Command.{explore_course}
use Rattle.ipdl_base.specs.declared.schema.Schema.{Schema}
use Rattle.ipdl_top.specs.declared.answer.CommandAnswer.{CommandAnswer}
use Rattle.ipdl_top.specs.Explore.{SaysExplore, SaysExplored}
use Rattle.ipdl_top.specs.Scripts.{SaysByScript}
use Rattle.ipdl_top.specs.Steps.{IsHeld}
use Rattle.ipdl_top.proofs.Weaker.{told_by}
use Rattle.ipdl_top.proofs.explore.answer_explore.Goals as goal

pub returns : goal.returns
returns c =
    let options = c.args.options.now in
    let name = c.as_str.result.now in
    let file = c.args.file.now in
    let Says : Schema → CommandAnswer → Type 0 = λ schema answer. (text : Option (List ℕ)) → IsHeld text c.args.script.now → SaysByScript (SaysExplored (explore_course options) schema) name text file schema answer in
    IfOk-weaker c.answer_by_schema.result _ _
    (λ answer told text held. told_by Says (SaysExplore (explore_course options) (string_bytes options.script) text file) c.args.checked answer
    (λ schema says. subst (λ (script : List ℕ). SaysByScript (SaysExplored (explore_course options) schema) script text file schema answer) c.as_str.ensures.value (says text held)) told) c.answer_by_schema.ensures
