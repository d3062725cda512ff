-- Deliveries do not depend on where the boxes of a schema are.
use Rattle.std.proofs.Common.{◌≡◌, ◌∙◌, Option, Some, None, refl}
use Rattle.std.specs.Option.{option_map_or}
use Rattle.ipdl_base.specs.declared.kinds.Reason.TheVariants.{ResolverDestroyed}
use Rattle.ipdl_base.specs.declared.line.What.TheVariants as what
use Rattle.ipdl_base.specs.declared.message.Body.{Body}
use Rattle.ipdl_base.specs.declared.message.Body.TheVariants.{Request, Reply, Fault, Goodbye}
use Rattle.ipdl_base.specs.declared.message.Message.{Message}
use Rattle.ipdl_base.specs.declared.schema.MessageRow.{MessageRow}
use Rattle.ipdl_base.specs.declared.schema.Schema.{Schema}
use Rattle.ipdl_base.specs.Sound.{message_of}
use Rattle.nesting_core.specs.declared.frame.Answer.TheVariants as answer
use Rattle.pending_queue.specs.declared.item.Item.{Item}
use Rattle.pending_queue.specs.declared.item.Item.TheVariants as item
use Rattle.pending_queue.specs.Compression.{replaced}
use Rattle.program_schema.specs.Laws.{plain_message_row, plain_schema}
use Rattle.schema_laws.proofs.Rows.{option_alike, message_alike}
use Rattle.channel_model.specs.Deliveries.{replacing, item_of, counted, request_arrives, reply_arrives, by_row, body_delivered, deliver}
use Rattle.channel_model.specs.Ends.{Packet, message, mark}
use Rattle.channel_model.specs.Outputs.{Change, ◌▷◌, unchanged, when, on_end, line, answered, request_answered}
use Rattle.schema_laws.proofs.RowsAlike.{promise_alike}

replacing_alike : (row : MessageRow) (old : Option Item) → replacing (plain_message_row row) old ≡ replacing row old
replacing_alike row None = refl
replacing_alike row (Some item.Broken) = refl
replacing_alike row (Some (item.Message old sync level)) = λ i. line (what.Replaced old.seq) ▷ when (promise_alike row i) (answered (request_answered old) (answer.Fault ResolverDestroyed))

arrives_alike : (m : Message) (row : MessageRow) → request_arrives m (plain_message_row row) ≡ request_arrives m row
arrives_alike m row = λ i. λ output. (on_end (counted row (item_of row m)) ▷ replacing_alike row (replaced row.compress (item_of row m) output.end.arrived) i) output

module _ (s : Schema) where
  -- what is done by the row of a message is the same if it is the same for each row
  pub by_row_alike : (m : Message) (f g : MessageRow → Change) → ((row : MessageRow) → f (plain_message_row row) ≡ g row) → (otherwise : Change) → by_row (plain_schema s) m f otherwise ≡ by_row s m g otherwise
  by_row_alike m f g same otherwise = (λ i. option_map_or f (message_alike s m.number i) otherwise) ∙ option_alike plain_message_row f g same otherwise (message_of s m.number)

  body_alike : (m : Message) (b : Body) → body_delivered (plain_schema s) m b ≡ body_delivered s m b
  body_alike m (Request vs) = λ i. line (what.DeliverRequest m.seq) ▷ by_row_alike m (request_arrives m) (request_arrives m) (arrives_alike m) unchanged i
  body_alike m (Reply vs) = λ i. line (what.DeliverReply m.seq) ▷ by_row_alike m (reply_arrives m (answer.Ok vs)) (reply_arrives m (answer.Ok vs)) (λ row. refl) unchanged i
  body_alike m (Fault reason) = λ i. line (what.DeliverReply m.seq) ▷ by_row_alike m (reply_arrives m (answer.Fault reason)) (reply_arrives m (answer.Fault reason)) (λ row. refl) unchanged i
  body_alike m Goodbye = refl

  pub deliver_alike : (packet : Packet) → deliver (plain_schema s) packet ≡ deliver s packet
  deliver_alike (message m) = body_alike m m.body
  deliver_alike mark = refl
