-- A refusal does not look at where boxes lie.
use Rattle.std.proofs.Common.{◌≡◌, ◌&&◌, not, false, List, [], ◌∷◌, Option, Some, refl, ap, sym, ◌∙◌, if◌then◌else◌, ◌⊎◌, inl, inr}
use Rattle.std.specs.List.{find}
use Rattle.std.specs.Option.{option_map}
use Rattle.std.specs.Ordering.{int_eq}
use Rattle.actor_tree.specs.declared.actor.Actor.{Actor}
use Rattle.ipdl_base.specs.declared.kinds.Reason.{Reason}
use Rattle.ipdl_base.specs.declared.message.Body.{Body}
use Rattle.ipdl_base.specs.declared.message.Body.TheVariants.{Request, Reply, Fault, Goodbye}
use Rattle.ipdl_base.specs.declared.message.Message.{Message}
use Rattle.ipdl_base.specs.declared.schema.MessageRow.{MessageRow}
use Rattle.ipdl_base.specs.declared.schema.Schema.{Schema}
use Rattle.ipdl_base.specs.Plain.{plain_body, plain_message}
use Rattle.ipdl_base.specs.Signatures.{returns_of_row}
use Rattle.ipdl_base.specs.declared.value.Values.{Values}
use Rattle.channel_model.specs.Ends.{End, PromiseEntry, StackEntry}
use Rattle.ipdl_base.specs.Sides.{other, sends}
use Rattle.channel_model.specs.Numbers.{is_constructor, protocol_of}
use Rattle.channel_model.specs.Refusals.{DeliveryRefusal, wrong_direction, wrong_number, wrong_new_id, wrong_actor, stray, actors_of, body_refusal, expected_id, expected_seq, lives_otherwise, request_refusal}
use Rattle.channel_model.specs.ValueActors.{ActorValue}
use Rattle.end_steps.specs.declared.delivery_refusals.Receiver.{Receiver}
use Rattle.end_steps.specs.DeliveryRefusals.{is_expected_in, receiving_end, reply_refusal_by}
use Rattle.channel_model.proofs.PlainValues.{plain_forms_commute}

actors-plain : (schema : Schema) (row : MessageRow) (m : Message) (body : Body) → actors_of schema row (plain_message m) (plain_body body) ≡ actors_of schema row m body
actors-plain schema row m (Request vs) = ap (λ (actors : List ActorValue). record { id = m.route; protocol = protocol_of m.number; nullable = false } ∷ actors) (plain_forms_commute.actors_in_parts schema row.params vs)
actors-plain schema row m (Reply vs) = ap (λ (actors : List ActorValue). record { id = m.route; protocol = protocol_of m.number; nullable = false } ∷ actors) (plain_forms_commute.actors_in_parts schema (returns_of_row row) vs)
actors-plain schema row m (Fault reason) = refl
actors-plain schema row m Goodbye = refl

-- what these actors say against a message of this number
abbrev refused_for : List Actor → Message → List ActorValue → Option DeliveryRefusal
refused_for living m actors = option_map (λ (a : ActorValue). wrong_actor a.id m.number) (find (λ (a : ActorValue). lives_otherwise living a.protocol a.id) actors)

abbrev request_refused_for : End → Message → MessageRow → List ActorValue → Option DeliveryRefusal
request_refused_for e m row actors =
    if not (sends (other e.side) row.direction) then Some wrong_direction else
    (if not (int_eq m.seq (expected_seq e)) then Some wrong_number else
    (if is_constructor row.kind && not (int_eq m.made (expected_id e)) then Some wrong_new_id else
    refused_for e.actors m actors))

pub request-refused : (receiver : Receiver) (schema : Schema) (living : List Actor) (stack : List StackEntry) (promises : List PromiseEntry) (row : MessageRow) (m : Message) (vs : Values) → m.body ≡ Request vs
    → request_refusal schema (receiving_end receiver living [] []) m row ≡ body_refusal schema (receiving_end receiver living stack promises) (plain_message m) (plain_body m.body) row
request-refused receiver schema living stack promises row m vs is =
    ap (request_refused_for (receiving_end receiver living stack promises) m row) (sym (actors-plain schema row m m.body))
    ∙ ap (λ (body : Body). body_refusal schema (receiving_end receiver living stack promises) (plain_message m) body row) (sym (ap plain_body is))

pub reply-refused : (receiver : Receiver) (schema : Schema) (living : List Actor) (stack : List StackEntry) (promises : List PromiseEntry) (row : MessageRow) (m : Message)
    → ((vs : Values) × (m.body ≡ Reply vs)) ⊎ ((reason : Reason) × (m.body ≡ Fault reason))
    → reply_refusal_by schema living (is_expected_in stack promises m row) m row ≡ body_refusal schema (receiving_end receiver living stack promises) (plain_message m) (plain_body m.body) row
reply-refused receiver schema living stack promises row m is =
    let plain_so : reply_refusal_by schema living (is_expected_in stack promises m row) m row ≡ (if is_expected_in stack promises m row then refused_for living m (actors_of schema row (plain_message m) (plain_body m.body)) else Some (stray m.seq)) =
    ap (λ (actors : List ActorValue). if is_expected_in stack promises m row then refused_for living m actors else Some (stray m.seq)) (sym (actors-plain schema row m m.body)) in
    elim is [
      | inl v ↦ plain_so ∙ ap (λ (body : Body). body_refusal schema (receiving_end receiver living stack promises) (plain_message m) body row) (sym (ap plain_body v.1))
      | inr r ↦ plain_so ∙ ap (λ (body : Body). body_refusal schema (receiving_end receiver living stack promises) (plain_message m) body row) (sym (ap plain_body r.1))
    ]
