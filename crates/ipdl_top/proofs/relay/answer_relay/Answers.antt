use Rattle.std.proofs.Common.{ℕ, List, string_bytes, subst}
use Rattle.std.specs.Prelude.{Option}
use Rattle.std.proofs.lemmas.Result.{IfOk-weaker}
use Rattle.command_words.specs.Command.{relay_course}
use Rattle.ipdl_base.specs.declared.schema.Schema.{Schema}
use Rattle.ipdl_top.specs.declared.answer.CommandAnswer.{CommandAnswer}
use Rattle.ipdl_top.specs.Relay.{SaysRelay, SaysRelayed}
use Rattle.ipdl_top.specs.Scripts.{SaysByScript}
use Rattle.ipdl_top.specs.Steps.{IsHeld}
use Rattle.ipdl_top.proofs.Weaker.{told_by}
use Rattle.ipdl_top.proofs.relay.answer_relay.Goals as goal

pub returns : goal.returns
returns g c =
    let Relays = g.Q.Relay.Gives c.args.relay.now in
    let options = c.args.options.now in
    let course = relay_course options in
    let name = c.as_str.result.now in
    let file = c.args.file.now in
    let Says : Schema → CommandAnswer → Type 0 = λ schema answer. (text : Option (List ℕ)) → IsHeld text c.args.text.now → SaysByScript (SaysRelayed Relays course schema) name text file schema answer in
    IfOk-weaker c.answer_by_schema.result _ _
    (λ answer told bytes held. told_by Says (SaysRelay Relays course (string_bytes options.script) bytes file) c.args.checked answer
    (λ schema says. subst (λ (script : List ℕ). SaysByScript (SaysRelayed Relays course schema) script bytes file schema answer) c.as_str.ensures.value (says bytes held)) told) c.answer_by_schema.ensures
