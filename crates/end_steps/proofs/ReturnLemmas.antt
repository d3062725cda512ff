-- What a return answers by the values that its handler gave.
use Rattle.std.proofs.Common.{◌≡◌, nat_lt, true, false, Bool, ◌||◌, if◌then◌else◌, List, Option, Some, is_some, refl, sym, ap, ◌∙◌}
use Rattle.actor_tree.specs.declared.actor.Actor.{Actor}
use Rattle.ipdl_base.specs.declared.kinds.Reason.TheVariants.{HandlerRejected}
use Rattle.ipdl_base.specs.declared.kinds.SendRefusal.{SendRefusal}
use Rattle.ipdl_base.specs.declared.message.Body.TheVariants.{Reply}
use Rattle.ipdl_base.specs.declared.message.Message.{Message}
use Rattle.ipdl_base.specs.declared.schema.MessageRow.{MessageRow}
use Rattle.ipdl_base.specs.declared.schema.ParamRow.{ParamRow}
use Rattle.ipdl_base.specs.declared.schema.Schema.{Schema}
use Rattle.ipdl_base.specs.declared.value.Values.{Values}
use Rattle.ipdl_base.specs.Plain.{plain_message, plain_values}
use Rattle.ipdl_base.specs.Signatures.{returns_of_row}
use Rattle.nesting_core.specs.declared.frame.Answer.TheVariants as answer
use Rattle.value_types.specs.declared.layout.TheConstants.{NEW}
use Rattle.value_types.specs.Laws.{BoxesSayNothing}
use Rattle.channel_model.specs.Outputs.{AnsweredRequest, reply_to}
use Rattle.channel_model.specs.Sends.{is_too_large, value_refusal}
use Rattle.channel_model.specs.ValueActors.{has_dead}
use Rattle.channel_model.proofs.PlainValues.{plain_forms_commute}
use Rattle.end_steps.specs.AnswerPackets.{answer_by_values}

is-bad : (large dead : Bool) → is_some (value_refusal large dead) ≡ (large || dead)
is-bad true dead = refl
is-bad false true = refl
is-bad false false = refl

-- what was tested of values, with their boxes wherever they lie, decides about the plain ones
pub tested : (law : BoxesSayNothing) (schema : Schema) (actors : List Actor) (row : MessageRow) (types : List ParamRow) (q : AnsweredRequest) (m : Message) (vs : Values) (refusal : Option SendRefusal) (b : Bool)
    → plain_message m ≡ reply_to q (Reply (plain_values vs)) → types ≡ returns_of_row row → refusal ≡ value_refusal (is_too_large schema m) (has_dead schema actors types vs) → is_some refusal ≡ b
    → answer_by_values schema actors row q (Some (plain_values vs)) ≡ (if b then answer.Fault HandlerRejected else answer.Ok (plain_values vs))
tested law schema actors row types q m vs refusal b is types_are refused some =
    let large : is_too_large schema m ≡ is_too_large schema (reply_to q (Reply (plain_values vs))) = ap (λ n. nat_lt NEW.most_payload n) (sym (law.payload NEW schema m)) ∙ ap (is_too_large schema) is in
    let dead : has_dead schema actors types vs ≡ has_dead schema actors (returns_of_row row) (plain_values vs) = ap (λ (ts : List ParamRow). has_dead schema actors ts vs) types_are ∙ sym (plain_forms_commute.has_dead schema actors (returns_of_row row) vs) in
    let bad : (is_too_large schema (reply_to q (Reply (plain_values vs))) || has_dead schema actors (returns_of_row row) (plain_values vs)) ≡ b =
    ap (λ (x : Bool). x || has_dead schema actors (returns_of_row row) (plain_values vs)) (sym large) ∙ ap (λ (x : Bool). is_too_large schema m || x) (sym dead)
    ∙ sym (is-bad (is_too_large schema m) (has_dead schema actors types vs)) ∙ ap is_some (sym refused) ∙ some in
    ap (λ (x : Bool). if x then answer.Fault HandlerRejected else answer.Ok (plain_values vs)) bad
