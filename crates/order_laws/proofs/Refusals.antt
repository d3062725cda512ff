-- An act that is refused changes nothing.
use Rattle.std.proofs.Common.{◌≡◌, ℕ, ℤ, List, Option, Some, refl, sym, ap, subst, ◌∙◌}
use Rattle.std.specs.Prelude.{option_and_then}
use Rattle.ipdl_base.specs.declared.kinds.SendRefusal.{SendRefusal}
use Rattle.ipdl_base.specs.declared.line.What.TheVariants as what
use Rattle.ipdl_base.specs.declared.schema.MessageRow.{MessageRow}
use Rattle.ipdl_base.specs.declared.schema.Schema.{Schema}
use Rattle.ipdl_base.specs.declared.value.Values.{Values}
use Rattle.channel_model.specs.Acts as acts
use Rattle.channel_model.specs.Answers as answers
use Rattle.channel_model.specs.Ends.{End, Packet}
use Rattle.channel_model.specs.Events.{Answering}
use Rattle.channel_model.specs.Events as event
use Rattle.channel_model.specs.Numbers.{request_row}
use Rattle.channel_model.specs.Outputs.{Output, beginning}
use Rattle.channel_model.specs.Sends as sends
use Rattle.channel_model.specs.Steps.{provided, step}
use Rattle.channel_model.proofs.Provided.{provided-gives}
use Rattle.order_laws.specs.DueEffects.{IsRefused, RefusedActsChangeNothing}

refused-send : (schema : Schema) (e : End) (link : List Packet) (row : MessageRow) (route : ℤ) (number : ℕ) (vs : Values) (name : Option (List ℕ)) (cause : SendRefusal) (output : Output)
    → request_row schema number ≡ Some row → sends.send_refusal schema e row route vs ≡ Some cause → step schema e link (event.send route number vs name) ≡ Some output → IsRefused e output (what.RefusedSend cause row.number)
refused-send schema e link row route number vs name cause output found refused is =
    let f : MessageRow → Option Output = λ row. provided (sends.may_send schema e row vs name) (sends.send schema e row route vs name) e in
    let k : f row ≡ Some output = ap (option_and_then f) (sym found) ∙ is in
    let P : Output → Type 0 = λ o. IsRefused e o (what.RefusedSend cause row.number) in
    provided-gives P (sends.may_send schema e row vs name) (sends.send schema e row route vs name) e output
    (λ may. subst (λ (r : Option SendRefusal). P (sends.sent_unless r row (sends.request_of e row route vs) vs name (beginning e))) (sym refused) (record { end = refl; lines = refl; packets = refl })) k

refused-answer : (schema : Schema) (e : End) (link : List Packet) (row : MessageRow) (by : Answering) (vs : Option Values) (cause : SendRefusal) (output : Output)
    → answers.answered_row schema e by ≡ Some row → answers.answer_refusal schema e row by vs ≡ Some cause → step schema e link (event.answer by vs) ≡ Some output → IsRefused e output (answers.refused_line cause vs)
refused-answer schema e link row by vs cause output found refused is =
    let f : MessageRow → Option Output = λ row. provided (answers.may_answer schema e row vs) (answers.answer schema e row by vs) e in
    let k : f row ≡ Some output = ap (option_and_then f) (sym found) ∙ is in
    let P : Output → Type 0 = λ o. IsRefused e o (answers.refused_line cause vs) in
    provided-gives P (answers.may_answer schema e row vs) (answers.answer schema e row by vs) e output
    (λ may. subst (λ (r : Option SendRefusal). P (answers.answered_unless r by vs (answers.resolver_used e by) (beginning e))) (sym refused) (record { end = refl; lines = refl; packets = refl })) k

refused-close : (schema : Schema) (e : End) (link : List Packet) (cause : SendRefusal) (output : Output) → acts.close_refusal e ≡ Some cause → step schema e link event.close ≡ Some output → IsRefused e output (what.RefusedClose cause)
refused-close schema e link cause output refused is =
    let P : Output → Type 0 = λ o. IsRefused e o (what.RefusedClose cause) in
    provided-gives P (sends.may_act e) (acts.close e) e output
    (λ may. subst (λ (r : Option SendRefusal). P (acts.close_unless r (beginning e))) (sym refused) (record { end = refl; lines = refl; packets = refl })) is

pub refused_acts_change_nothing : RefusedActsChangeNothing
refused_acts_change_nothing = record { sends = refused-send; answers = refused-answer; closes = refused-close }
