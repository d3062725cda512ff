use Rattle.std.proofs.Common.{ℕ, List, string_bytes, subst}
use Rattle.std.specs.Prelude.{Option}
use Rattle.std.proofs.lemmas.Result.{IfOk-weaker}
use Rattle.command_words.specs.Command.{feed_course}
use Rattle.handler_script.specs.declared.script.Script.{Script}
use Rattle.ipdl_base.specs.declared.schema.Schema.{Schema}
use Rattle.ipdl_top.specs.declared.answer.CommandAnswer.{CommandAnswer}
use Rattle.ipdl_top.specs.Feed.{SaysFedOf, SaysFeed}
use Rattle.ipdl_top.specs.Scripts.{SaysByScript}
use Rattle.ipdl_top.specs.Steps.{IsHeld}
use Rattle.ipdl_top.proofs.Weaker.{script_by, told_by}
use Rattle.ipdl_top.proofs.feed.answer_feed.Goals as goal

pub returns : goal.returns
returns c =
    let options = c.args.options.now in
    let course = feed_course options in
    let name = c.as_str.result.now in
    let frames = string_bytes options.frames in
    let file = c.args.file.now in
    let Any : Schema → Script → CommandAnswer → Type 0 = λ schema script answer. (bytes : Option (List ℕ)) → IsHeld bytes c.args.frames.now → SaysFedOf course frames bytes schema script answer in
    let Says : Schema → CommandAnswer → Type 0 = λ schema answer. (text : Option (List ℕ)) → IsHeld text c.args.text.now → SaysByScript (Any schema) name text file schema answer in
    IfOk-weaker c.answer_by_schema.result _ _
    (λ answer told text bytes held is. told_by Says (SaysFeed course (string_bytes options.script) text frames bytes file) c.args.checked answer
    (λ schema says. subst (λ (script : List ℕ). SaysByScript (SaysFedOf course frames bytes schema) script text file schema answer) c.as_str.ensures.value
    (script_by (Any schema) (SaysFedOf course frames bytes schema) name text file schema answer (λ script fed. fed bytes is) (says text held))) told) c.answer_by_schema.ensures
