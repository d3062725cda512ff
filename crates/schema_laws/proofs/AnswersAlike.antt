-- Answers to async requests do not depend on where the boxes of a schema are.
use Rattle.std.proofs.Common.{◌≡◌, ◌∙◌, Option, Some, None, refl}
use Rattle.std.specs.Prelude.{not, ◌&&◌, if◌then◌else◌, option_map, option_and_then}
use Rattle.ipdl_base.specs.declared.kinds.SendRefusal.TheVariants as refusal
use Rattle.ipdl_base.specs.declared.message.Body.TheVariants.{Reply}
use Rattle.ipdl_base.specs.declared.schema.MessageRow.{MessageRow}
use Rattle.ipdl_base.specs.declared.schema.Schema.{Schema}
use Rattle.ipdl_base.specs.declared.value.Values.{Values}
use Rattle.program_schema.specs.Laws.{plain_message_row, plain_schema}
use Rattle.schema_laws.proofs.Rows.{then_alike}
use Rattle.channel_model.specs.Answers.{handled_resolver, resolver_used, answered_row, have_return_types, may_answer, resolver_refusal, answer_refusal, answered_unless, answer}
use Rattle.channel_model.specs.Ends.{End, Resolver}
use Rattle.channel_model.specs.Events.{Answering, handled, kept}
use Rattle.channel_model.specs.Numbers.{makes_promise, request_row}
use Rattle.channel_model.specs.Outputs.{reply_to, resolver_answered, is_open}
use Rattle.channel_model.specs.Sends.{may_act, value_refusal}
use Rattle.schema_laws.proofs.RowsAlike.{row_where, promise_alike, request_alike}
use Rattle.schema_laws.proofs.SendsAlike.{too_large_alike}
use Rattle.schema_laws.proofs.ValuesAlike.{returns_typed, returns_dead}

promised_where : (row : MessageRow) → (if makes_promise (plain_message_row row) then Some (plain_message_row row) else None) ≡ option_map plain_message_row (if makes_promise row then Some row else None)
promised_where row = (λ i. if promise_alike row i then Some (plain_message_row row) else None) ∙ row_where (makes_promise row) row

module _ (s : Schema) where
  handled_row : (o : Option Resolver) → option_and_then (λ r. request_row (plain_schema s) r.number) o ≡ option_map plain_message_row (option_and_then (λ r. request_row s r.number) o)
  handled_row None = refl
  handled_row (Some r) = request_alike s r.number

  pub answered_alike : (e : End) (by : Answering) → answered_row (plain_schema s) e by ≡ option_map plain_message_row (answered_row s e by)
  answered_alike e (handled seq) = handled_row (handled_resolver e seq)
  answered_alike e (kept name number) =
      (λ i. option_and_then (λ row. if makes_promise row then Some row else None) (request_alike s number i))
      ∙ then_alike plain_message_row plain_message_row (λ row. if makes_promise row then Some row else None) promised_where (request_row s number)

  pub have_returns : (row : MessageRow) (vs : Option Values) → have_return_types (plain_schema s) (plain_message_row row) vs ≡ have_return_types s row vs
  have_returns row None = refl
  have_returns row (Some vs) = returns_typed s row vs

  pub may_answer_alike : (e : End) (row : MessageRow) (vs : Option Values) → may_answer (plain_schema s) e (plain_message_row row) vs ≡ may_answer s e row vs
  may_answer_alike e row vs = λ i. may_act e && have_returns row vs i

  resolver_refused : (e : End) (row : MessageRow) (vs : Option Values) (r : Option Resolver) → resolver_refusal (plain_schema s) e (plain_message_row row) vs r ≡ resolver_refusal s e row vs r
  resolver_refused e row vs None = refl
  resolver_refused e row None (Some r) = refl
  resolver_refused e row (Some vs) (Some r) = λ i. value_refusal (too_large_alike s (reply_to (resolver_answered r) (Reply vs)) i) (returns_dead s e.actors row vs i)

  refused_alike : (e : End) (row : MessageRow) (by : Answering) (vs : Option Values) → answer_refusal (plain_schema s) e (plain_message_row row) by vs ≡ answer_refusal s e row by vs
  refused_alike e row by vs = λ i. if not (is_open e.state) then Some refusal.Closed else resolver_refused e row vs (resolver_used e by) i

  pub answer_alike : (e : End) (row : MessageRow) (by : Answering) (vs : Option Values) → answer (plain_schema s) e (plain_message_row row) by vs ≡ answer s e row by vs
  answer_alike e row by vs = λ i. answered_unless (refused_alike e row by vs i) by vs (resolver_used e by)
