-- Values that are received.
use Rattle.std.proofs.Common.{◌≡◌, true, false, List, is_some, refl, ap, sym, ◌∙◌}
use Rattle.std.specs.Prelude.{if◌then◌else◌}
use Rattle.actor_tree.specs.declared.actor.Actor.{Actor}
use Rattle.ipdl_base.specs.declared.kinds.Reason.TheVariants.{ActorDestroyed}
use Rattle.ipdl_base.specs.declared.schema.MessageRow.{MessageRow}
use Rattle.ipdl_base.specs.declared.schema.ParamRow.{ParamRow}
use Rattle.ipdl_base.specs.declared.schema.Schema.{Schema}
use Rattle.ipdl_base.specs.declared.value.Values.{Values}
use Rattle.ipdl_base.specs.Plain.{plain_values}
use Rattle.ipdl_base.specs.Signatures.{returns_of_row}
use Rattle.nesting_core.specs.declared.frame.Answer.{Answer}
use Rattle.nesting_core.specs.declared.frame.Answer.TheVariants as answer
use Rattle.channel_model.specs.ValueActors.{missing, nulled, received}
use Rattle.channel_model.proofs.PlainValues.{plain_forms_commute}

-- values of these types, as they are received
abbrev received_as : Schema → List Actor → Values → List ParamRow → Answer
received_as schema actors vs types = if is_some (missing schema actors types vs) then answer.Fault ActorDestroyed else answer.Ok (nulled schema actors types vs)

-- where an actor is missing, a fault is received
pub received_missing : (schema : Schema) (actors : List Actor) (row : MessageRow) (types : List ParamRow) (vs : Values) → types ≡ returns_of_row row → is_some (missing schema actors types vs) ≡ true
    → received schema actors row (answer.Ok (plain_values vs)) ≡ answer.Fault ActorDestroyed
received_missing schema actors row types vs e gone =
    ap (received_as schema actors (plain_values vs)) (sym e) ∙ rw (plain_forms_commute.missing schema actors types vs, gone) refl

-- where none is missing, the values are received with nulls
pub received_nulled : (schema : Schema) (actors : List Actor) (row : MessageRow) (types : List ParamRow) (vs new : Values) → types ≡ returns_of_row row → is_some (missing schema actors types vs) ≡ false → new ≡ nulled schema actors types vs
    → received schema actors row (answer.Ok (plain_values vs)) ≡ answer.Ok (plain_values new)
received_nulled schema actors row types vs new e there n =
    ap (received_as schema actors (plain_values vs)) (sym e) ∙ rw (plain_forms_commute.missing schema actors types vs, there, n) (ap answer.Ok (plain_forms_commute.nulled schema actors types vs))

-- nulls are put into a copy as into the values
pub same_nulled : (schema : Schema) (actors : List Actor) (types : List ParamRow) (vs ws new : Values) → plain_values ws ≡ plain_values vs → new ≡ nulled schema actors types ws → plain_values new ≡ nulled schema actors types (plain_values vs)
same_nulled schema actors types vs ws new p n = ap plain_values n ∙ sym (plain_forms_commute.nulled schema actors types ws) ∙ ap (nulled schema actors types) p
