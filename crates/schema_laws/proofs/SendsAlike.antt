-- Sends do not depend on where the boxes of a schema are.
use Rattle.std.proofs.Common.{◌≡◌, ◌∙◌, ℕ, ◌+◌, List, [], ◌∷◌, ◌++◌, Option, Some, None, refl}
use Rattle.std.specs.Prelude.{ℤ, nat_lt, not, ◌&&◌, ◌||◌, if◌then◌else◌, is_none, is_some}
use Rattle.ipdl_base.specs.declared.kinds.SendRefusal.{SendRefusal}
use Rattle.ipdl_base.specs.declared.kinds.SendRefusal.TheVariants as refusal
use Rattle.ipdl_base.specs.declared.message.Message.{Message}
use Rattle.ipdl_base.specs.declared.schema.MessageRow.{MessageRow}
use Rattle.ipdl_base.specs.declared.schema.Schema.{Schema}
use Rattle.ipdl_base.specs.declared.value.Values.{Values}
use Rattle.promise_table.specs.Promises as promises
use Rattle.value_types.specs.declared.layout.TheConstants.{NEW}
use Rattle.program_schema.specs.Laws.{plain_message_row, plain_schema}
use Rattle.schema_laws.proofs.Spelled.{size_alike}
use Rattle.channel_model.specs.Ends.{End}
use Rattle.channel_model.specs.Falls.{deletes}
use Rattle.ipdl_base.specs.Sides.{sends}
use Rattle.channel_model.specs.Numbers.{protocol_of, is_sync_row, is_constructor, counting}
use Rattle.channel_model.specs.Outputs.{◌▷◌, when, on_end, line, is_open}
use Rattle.channel_model.specs.Sends.{may_act, request_of, is_too_large, may_send, stack_refusal, value_refusal, send_value_refusal, send_refusal, send_line, posted, wait_for, awaits_reply, constructs, names_actor, sent, sent_unless, send}
use Rattle.channel_model.specs.ValueActors.{lives_as}
use Rattle.schema_laws.proofs.RowsAlike.{promise_alike}
use Rattle.schema_laws.proofs.ValuesAlike.{each_typed, dead_alike}

-- What a request adds at its sender

awaits_alike : (row : MessageRow) (m : Message) → awaits_reply (plain_message_row row) m ≡ awaits_reply row m
awaits_alike row m = λ i.
    when (is_sync_row row) (on_end (λ e. record e { stack = wait_for row m ∷ e.stack }))
    ▷ when (promise_alike row i) (on_end (λ e. record e { promises = e.promises ++ record { promise = promises.made m.seq m.route; number = m.number } ∷ [] }))

sent_alike : (row : MessageRow) (m : Message) (vs : Values) (name : Option (List ℕ)) → sent (plain_message_row row) m vs name ≡ sent row m vs name
sent_alike row m vs name = λ i.
    line (send_line row m vs)
    ▷ on_end (λ e. record e { sent = e.sent + 1; constructors_sent = counting row.kind e.constructors_sent })
    ▷ posted row m
    ▷ awaits_alike row m i
    ▷ names_actor m.made name
    ▷ constructs m.made m.route row.kind
    ▷ deletes m.route row.kind

unless_alike : (cause : Option SendRefusal) (row : MessageRow) (m : Message) (vs : Values) (name : Option (List ℕ)) → sent_unless cause (plain_message_row row) m vs name ≡ sent_unless cause row m vs name
unless_alike None row m vs name = sent_alike row m vs name
unless_alike (Some cause) row m vs name = refl

module _ (s : Schema) where
  pub too_large_alike : (m : Message) → is_too_large (plain_schema s) m ≡ is_too_large s m
  too_large_alike m = λ i. nat_lt NEW.most_payload (size_alike NEW s m i)

  pub may_send_alike : (e : End) (row : MessageRow) (vs : Values) (name : Option (List ℕ)) → may_send (plain_schema s) e (plain_message_row row) vs name ≡ may_send s e row vs name
  may_send_alike e row vs name = λ i. may_act e && (row.carried && (sends e.side row.direction && (each_typed s row.params vs i && (is_none name || is_constructor row.kind))))

  values_refused : (e : End) (row : MessageRow) (route : ℤ) (vs : Values) → send_value_refusal (plain_schema s) e (plain_message_row row) route vs ≡ send_value_refusal s e row route vs
  values_refused e row route vs = λ i. value_refusal (too_large_alike (request_of e row route vs) i) (dead_alike s e.actors row.params vs i)

  refused_alike : (e : End) (row : MessageRow) (route : ℤ) (vs : Values) → send_refusal (plain_schema s) e (plain_message_row row) route vs ≡ send_refusal s e row route vs
  refused_alike e row route vs = λ i.
      if not (is_open e.state) then Some refusal.Closed else
      (if not (lives_as e.actors (protocol_of row.number) route) then Some refusal.DeadActor else
      (if is_some (stack_refusal e row) then stack_refusal e row else
      values_refused e row route vs i))

  pub send_alike : (e : End) (row : MessageRow) (route : ℤ) (vs : Values) (name : Option (List ℕ)) → send (plain_schema s) e (plain_message_row row) route vs name ≡ send s e row route vs name
  send_alike e row route vs name =
      (λ i. sent_unless (refused_alike e row route vs i) (plain_message_row row) (request_of e row route vs) vs name)
      ∙ unless_alike (send_refusal s e row route vs) row (request_of e row route vs) vs name
