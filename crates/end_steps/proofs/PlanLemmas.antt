-- Requests that are taken: what a dropped one is owed, and what does not hang on where boxes lie.
use Rattle.std.proofs.Common.{◌≡◌, ℤ, ◌<◌, Bool, true, false, ◌||◌, List, Option, Some, None, refl, ap}
use Rattle.std.specs.Prelude.{if◌then◌else◌}
use Rattle.actor_tree.specs.declared.actor.Actor.{Actor}
use Rattle.ipdl_base.specs.declared.kinds.Reason.TheVariants.{ActorDestroyed}
use Rattle.ipdl_base.specs.declared.message.Message.{Message}
use Rattle.ipdl_base.specs.declared.schema.MessageRow.{MessageRow}
use Rattle.ipdl_base.specs.declared.schema.Schema.{Schema}
use Rattle.ipdl_base.specs.declared.value.Values.{Values}
use Rattle.ipdl_base.specs.Plain.{plain_message, plain_values}
use Rattle.ipdl_base.specs.Sound.{IsSound, has_reply}
use Rattle.nesting_core.specs.declared.frame.Answer.TheVariants as answer
use Rattle.value_types.specs.Fits.{IsRequestOf}
use Rattle.channel_model.specs.Numbers.{is_sync_row, makes_promise, protocol_of}
use Rattle.channel_model.specs.Outputs.{request_answered}
use Rattle.channel_model.specs.Parts.{owes_reply}
use Rattle.channel_model.specs.ValueActors.{lives_as}
use Rattle.channel_model.proofs.FittingRequests.{destroyed-fault, fault-fits, promise-reply, request-kept, request-row, sync-reply}
use Rattle.channel_model.proofs.PlainValues.{plain_forms_commute}
use Rattle.end_steps.specs.AnswerPackets.{FitsOwed}
use Rattle.end_steps.specs.TakenItems.{dropped_for_by, owed_by_drop}
use Rattle.end_steps.proofs.RenamingLemmas.{request-small}

-- a request that owes a reply is of a message that has one
owing-reply : (row : MessageRow) → owes_reply row ≡ true → has_reply row ≡ true
owing-reply row e = by (is_sync_row row) refl e
  where
    by : (b : Bool) → is_sync_row row ≡ b → b || makes_promise row ≡ true → has_reply row ≡ true
    by true is e = sync-reply row is
    by false is e = promise-reply row e

-- what a dropped request is owed fits
pub drop-fits : (schema : Schema) → IsSound schema → (row : MessageRow) (m : Message) (vs : Values) → IsRequestOf schema row m vs → FitsOwed schema (owed_by_drop row m)
drop-fits schema sound row m vs r = by (owes_reply row) refl
  where
    by : (b : Bool) → owes_reply row ≡ b → FitsOwed schema (if b then Some (record { request = request_answered m; given = answer.Fault ActorDestroyed }) else None)
    by true is = fault-fits schema sound row (request_answered m) (request-kept schema row m vs r) ActorDestroyed (owing-reply row is) (destroyed-fault row.semantics)
    by false is = tt

-- the number of a request is far below the greatest
pub number-small : (schema : Schema) → IsSound schema → (row : MessageRow) (m : Message) (vs : Values) → IsRequestOf schema row m vs → m.number < 4294967295
number-small schema sound row m vs r = request-small schema m.number row sound (request-row schema m.number row r.found r.number)

-- for whom a request is dropped does not hang on where boxes lie
pub dropped-plain : (schema : Schema) (actors : List Actor) (row : MessageRow) (m : Message) (vs : Values) → dropped_for_by schema actors row (plain_message m) (plain_values vs) ≡ dropped_for_by schema actors row m vs
dropped-plain schema actors row m vs = ap (λ (x : Option ℤ). if lives_as actors (protocol_of m.number) m.route then x else Some m.route) (plain_forms_commute.missing schema actors row.params vs)
