-- Takes do not depend on where the boxes of a schema are.
use Rattle.std.proofs.Common.{◌≡◌, ◌∙◌, ℤ, ◌∷◌, Option, Some, None, refl}
use Rattle.std.specs.Prelude.{◌||◌, if◌then◌else◌}
use Rattle.ipdl_base.specs.declared.kinds.Reason.TheVariants.{ActorDestroyed}
use Rattle.ipdl_base.specs.declared.line.What.TheVariants as what
use Rattle.ipdl_base.specs.declared.message.Body.{Body}
use Rattle.ipdl_base.specs.declared.message.Body.TheVariants.{Request, Reply, Fault, Goodbye}
use Rattle.ipdl_base.specs.declared.message.Message.{Message}
use Rattle.ipdl_base.specs.declared.schema.MessageRow.{MessageRow}
use Rattle.ipdl_base.specs.declared.schema.Schema.{Schema}
use Rattle.ipdl_base.specs.declared.value.Values.{Values}
use Rattle.nesting_core.specs.declared.frame.Answer.{Answer}
use Rattle.nesting_core.specs.declared.frame.Answer.TheVariants as answer
use Rattle.pending_queue.specs.declared.item.Item.{Item}
use Rattle.pending_queue.specs.declared.item.Item.TheVariants as item
use Rattle.pending_queue.specs.DeferralContext.{is_free, without_first}
use Rattle.program_schema.specs.Laws.{plain_message_row, plain_schema}
use Rattle.channel_model.specs.Ends.{End}
use Rattle.channel_model.specs.Numbers.{protocol_of, is_sync_row}
use Rattle.channel_model.specs.Outputs.{◌▷◌, unchanged, when, on_end, line, answered, request_answered}
use Rattle.channel_model.specs.Sends.{constructs}
use Rattle.channel_model.specs.Takes.{deferral_context_of, outcome_of, is_awaited, settles, reply_taken, dropped_for, dropped, dispatch_of, handled, dropped_or_handled, request_taken, body_taken, item_taken, take}
use Rattle.channel_model.specs.ValueActors.{lives_as, nulled}
use Rattle.schema_laws.proofs.DeliveriesAlike.{by_row_alike}
use Rattle.schema_laws.proofs.RowsAlike.{promise_alike}
use Rattle.schema_laws.proofs.ValuesAlike.{missing_alike, nulled_parts, received_alike}

-- What a request that is handled or dropped does

dropped_alike : (row : MessageRow) (m : Message) (id : ℤ) → dropped (plain_message_row row) m id ≡ dropped row m id
dropped_alike row m id = λ i. line (what.Drop m.seq m.route m.number id) ▷ when (is_sync_row row || promise_alike row i) (answered (request_answered m) (answer.Fault ActorDestroyed))

handled_alike : (row : MessageRow) (m : Message) (vs : Values) → handled (plain_message_row row) m vs ≡ handled row m vs
handled_alike row m vs = λ i.
    line (what.Take m.seq m.route m.number vs)
    ▷ on_end (λ e. record e { stack = record (dispatch_of row m) { resolves = promise_alike row i } ∷ e.stack })
    ▷ constructs m.made m.route row.kind

either_alike : (missing : Option ℤ) (row : MessageRow) (m : Message) (vs : Values) → dropped_or_handled missing (plain_message_row row) m vs ≡ dropped_or_handled missing row m vs
either_alike None row m vs = handled_alike row m vs
either_alike (Some id) row m vs = dropped_alike row m id

module _ (s : Schema) where
  reply_alike : (m : Message) (a : Answer) (row : MessageRow) → reply_taken (plain_schema s) m a (plain_message_row row) ≡ reply_taken s m a row
  reply_alike m a row = λ i. λ output. when (is_awaited m.seq output.end.promises) (settles m.seq (outcome_of (received_alike s output.end.actors row a i))) output

  dropped_for_alike : (e : End) (row : MessageRow) (m : Message) (vs : Values) → dropped_for (plain_schema s) e (plain_message_row row) m vs ≡ dropped_for s e row m vs
  dropped_for_alike e row m vs = λ i. if lives_as e.actors (protocol_of m.number) m.route then missing_alike s e.actors row.params vs i else Some m.route

  request_alike : (m : Message) (vs : Values) (row : MessageRow) → request_taken (plain_schema s) m vs (plain_message_row row) ≡ request_taken s m vs row
  request_alike m vs row =
      (λ i. λ output. dropped_or_handled (dropped_for_alike output.end row m vs i) (plain_message_row row) m (nulled_parts s output.end.actors row.params vs i) output)
      ∙ (λ i. λ output. either_alike (dropped_for s output.end row m vs) row m (nulled s output.end.actors row.params vs) i output)

  body_alike : (m : Message) (b : Body) → body_taken (plain_schema s) m b ≡ body_taken s m b
  body_alike m (Request vs) = by_row_alike s m (request_taken (plain_schema s) m vs) (request_taken s m vs) (request_alike m vs) (line (what.Drop m.seq m.route m.number m.route))
  body_alike m (Reply vs) = λ i. line (what.TakeReply m.seq) ▷ by_row_alike s m (reply_taken (plain_schema s) m (answer.Ok vs)) (reply_taken s m (answer.Ok vs)) (reply_alike m (answer.Ok vs)) unchanged i
  body_alike m (Fault reason) = λ i. line (what.TakeReply m.seq) ▷ by_row_alike s m (reply_taken (plain_schema s) m (answer.Fault reason)) (reply_taken s m (answer.Fault reason)) (reply_alike m (answer.Fault reason)) unchanged i
  body_alike m Goodbye = refl

  item_alike : (taken : Item) → item_taken (plain_schema s) taken ≡ item_taken s taken
  item_alike (item.Message m sync level) = body_alike m m.body
  item_alike item.Broken = refl

  pub take_alike : (taken : Item) → take (plain_schema s) taken ≡ take s taken
  take_alike taken = λ i. on_end (λ e. record e { arrived = without_first (is_free (deferral_context_of e)) e.arrived }) ▷ item_alike taken i
