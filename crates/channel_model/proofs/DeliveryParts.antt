-- A delivery is one part.
use Rattle.std.proofs.Common.{◌≡◌, Bool, true, false, if◌then◌else◌, [], ◌∷◌, ◌++◌, map, Option, Some, None, refl, sym, ap, subst, ◌∙◌, append_assoc}
use Rattle.std.specs.Option.{option_map_or}
use Rattle.std.proofs.lemmas.List.{append-nil}
use Rattle.ipdl_base.specs.declared.kinds.Level.{Level}
use Rattle.ipdl_base.specs.declared.kinds.Reason.TheVariants.{ResolverDestroyed}
use Rattle.ipdl_base.specs.declared.line.What.TheVariants as what
use Rattle.ipdl_base.specs.declared.message.Body.{Body}
use Rattle.ipdl_base.specs.declared.message.Body.TheVariants.{Request, Reply, Fault, Goodbye}
use Rattle.ipdl_base.specs.declared.message.Message.{Message}
use Rattle.ipdl_base.specs.declared.schema.MessageRow.{MessageRow}
use Rattle.ipdl_base.specs.declared.schema.Schema.{Schema}
use Rattle.ipdl_base.specs.declared.value.Values.{Values}
use Rattle.ipdl_base.specs.Sound.{message_of}
use Rattle.nesting_core.specs.declared.frame.Answer.{Answer}
use Rattle.nesting_core.specs.declared.frame.Answer.TheVariants as answer
use Rattle.pending_queue.specs.declared.item.Item.{Item}
use Rattle.pending_queue.specs.declared.item.Item.TheVariants as item
use Rattle.pending_queue.specs.Compression.{replaced}
use Rattle.channel_model.specs.Deliveries as delivery
use Rattle.channel_model.specs.Ends.{Packet, message, mark}
use Rattle.channel_model.specs.Numbers.{is_sync_row, makes_promise}
use Rattle.channel_model.specs.Outputs.{Output, Change, ◌▷◌, unchanged, when, on_end, line, put, is_open, AnsweredRequest, answered, request_answered, answer_line, body_of, line_at}
use Rattle.channel_model.specs.Parts
use Rattle.channel_model.specs.Parts.{DeliveryPart, IsNoMessage, after_outbox, reply_packet, reply_lines, reply_packets, end_after, farewell_item, farewell_line, unknown_line}
use Rattle.channel_model.specs.Phases.{Phase, quiet, ending}
use Rattle.channel_model.specs.States.{is_farewell, is_goodbye}
use Rattle.channel_model.proofs.Made.{Makes, made, made-as}
use Rattle.channel_model.proofs.NameParts.{put-packets}

-- An answer that is sent, and one at an output whose state is known

abbrev pub answering : AnsweredRequest → Answer → Change
answering q a = line (answer_line q.seq a) ▷ put (reply_packet q a)

pub answered-at : (q : AnsweredRequest) (a : Answer) (b : Bool) (o : Output) → is_open o.end.state ≡ b → answered q a o ≡ when b (answering q a) o
answered-at q a b o is = ap (λ (c : Bool). when c (answering q a) o) is

module _ (schema : Schema) where
  -- a request that replaces one

  abbrev replacing : Message → MessageRow → Message → Bool → Change
  replacing m row old b = line (what.DeliverRequest m.seq) ▷ on_end (delivery.counted row (delivery.item_of row m)) ▷ line (what.Replaced old.seq) ▷ when b (answering (request_answered old) (answer.Fault ResolverDestroyed))

  replaces-made : (m : Message) (row : MessageRow) (vs : Values) (old : Message) (sync : Bool) (level : Level) (b : Bool) (o : Output) → m.body ≡ Request vs → message_of schema m.number ≡ Some row → replaced row.compress (delivery.item_of row m) o.end.arrived ≡ Some (item.Message old sync level) → b ≡ makes_promise row
      → Makes (DeliveryPart schema (message m) o.end) (replacing m row old b) o quiet
  replaces-made m row vs old sync level true o body found rep is =
      made (DeliveryPart schema (message m) o.end) (replacing m row old true) o quiet (what.DeliverRequest m.seq ∷ what.Replaced old.seq ∷ what.AnswerFault old.seq ResolverDestroyed ∷ []) (after_outbox o.end (reply_packet (request_answered old) (answer.Fault ResolverDestroyed)))
      (Parts.replaces m row vs old sync level true body found rep is)
      (append_assoc (o.lines ++ _ ∷ []) (_ ∷ []) (_ ∷ []) ∙ append_assoc o.lines (_ ∷ []) (_ ∷ _ ∷ [])) (put-packets o.packets o.end (reply_packet (request_answered old) (answer.Fault ResolverDestroyed))) refl
  replaces-made m row vs old sync level false o body found rep is =
      made (DeliveryPart schema (message m) o.end) (replacing m row old false) o quiet (what.DeliverRequest m.seq ∷ what.Replaced old.seq ∷ []) []
      (Parts.replaces m row vs old sync level false body found rep is) (append_assoc o.lines (_ ∷ []) (_ ∷ [])) (sym (append-nil o.packets)) refl

  request_arrives-made : (m : Message) (row : MessageRow) (vs : Values) (old : Option Item) (o : Output) → is_open o.end.state ≡ true → m.body ≡ Request vs → message_of schema m.number ≡ Some row → replaced row.compress (delivery.item_of row m) o.end.arrived ≡ old
      → Makes (DeliveryPart schema (message m) o.end) (line (what.DeliverRequest m.seq) ▷ on_end (delivery.counted row (delivery.item_of row m)) ▷ delivery.replacing row old) o quiet
  request_arrives-made m row vs None o open_is body found rep =
      made (DeliveryPart schema (message m) o.end) (line (what.DeliverRequest m.seq) ▷ on_end (delivery.counted row (delivery.item_of row m)) ▷ delivery.replacing row None) o quiet (what.DeliverRequest m.seq ∷ []) []
      (Parts.gets_request m row vs body found (subst IsNoMessage (sym rep) tt)) refl (sym (append-nil o.packets)) refl
  request_arrives-made m row vs (Some item.Broken) o open_is body found rep =
      made (DeliveryPart schema (message m) o.end) (line (what.DeliverRequest m.seq) ▷ on_end (delivery.counted row (delivery.item_of row m)) ▷ delivery.replacing row (Some item.Broken)) o quiet (what.DeliverRequest m.seq ∷ []) []
      (Parts.gets_request m row vs body found (subst IsNoMessage (sym rep) tt)) refl (sym (append-nil o.packets)) refl
  request_arrives-made m row vs (Some (item.Message old sync level)) o open_is body found rep =
      let start : Output = (line (what.DeliverRequest m.seq) ▷ on_end (delivery.counted row (delivery.item_of row m)) ▷ line (what.Replaced old.seq)) o in
      made-as (DeliveryPart schema (message m) o.end) (line (what.DeliverRequest m.seq) ▷ on_end (delivery.counted row (delivery.item_of row m)) ▷ delivery.replacing row (Some (item.Message old sync level))) (replacing m row old (makes_promise row)) o quiet
      (when-open (request_answered old) (makes_promise row) start open_is) (replaces-made m row vs old sync level (makes_promise row) o body found rep refl)
    where
      when-open : (q : AnsweredRequest) (c : Bool) (x : Output) → is_open x.end.state ≡ true → when c (answering q (answer.Fault ResolverDestroyed)) x ≡ when c (answered q (answer.Fault ResolverDestroyed)) x
      when-open q true x is = sym (answered-at q (answer.Fault ResolverDestroyed) true x is)
      when-open q false x is = refl

  -- replies

  reply_row-made : (m : Message) (row : MessageRow) (a : Answer) (sync : Bool) (o : Output) → m.body ≡ body_of a → message_of schema m.number ≡ Some row → is_sync_row row ≡ sync
      → Makes (DeliveryPart schema (message m) o.end) (line (what.DeliverReply m.seq) ▷ on_end (λ e. if sync then delivery.answers_wait a e else delivery.arrives (delivery.item_of row m) e)) o quiet
  reply_row-made m row a true o body found is =
      made (DeliveryPart schema (message m) o.end) (line (what.DeliverReply m.seq) ▷ on_end (delivery.answers_wait a)) o quiet (what.DeliverReply m.seq ∷ []) [] (Parts.gets_answer m row a body found is) refl (sym (append-nil o.packets)) refl
  reply_row-made m row a false o body found is =
      made (DeliveryPart schema (message m) o.end) (line (what.DeliverReply m.seq) ▷ on_end (delivery.arrives (delivery.item_of row m))) o quiet (what.DeliverReply m.seq ∷ []) [] (Parts.gets_reply m row a body found is) refl (sym (append-nil o.packets)) refl

  -- a message that has no row in the schema
  passes_by-made : (m : Message) (body : Body) (o : Output) → m.body ≡ body → is_goodbye body ≡ false → message_of schema m.number ≡ None
      → Makes (DeliveryPart schema (message m) o.end) (line (unknown_line m.seq body)) o quiet
  passes_by-made m body o is ordinary none =
      made (DeliveryPart schema (message m) o.end) (line (unknown_line m.seq body)) o quiet (unknown_line m.seq body ∷ []) []
      (subst (λ (b : Body). DeliveryPart schema (message m) o.end (unknown_line m.seq b ∷ []) [] o.end quiet) is (Parts.passes_by m (ap is_goodbye is ∙ ordinary) none)) refl (sym (append-nil o.packets)) refl

  reply_arrives-made : (m : Message) (a : Answer) (row : Option MessageRow) (o : Output) → m.body ≡ body_of a → message_of schema m.number ≡ row
      → Makes (DeliveryPart schema (message m) o.end) (line (what.DeliverReply m.seq) ▷ option_map_or (delivery.reply_arrives m a) row unchanged) o quiet
  reply_arrives-made m a (Some row) o body found =
      made-as (DeliveryPart schema (message m) o.end) (line (what.DeliverReply m.seq) ▷ delivery.reply_arrives m a row) (line (what.DeliverReply m.seq) ▷ on_end (λ e. if is_sync_row row then delivery.answers_wait a e else delivery.arrives (delivery.item_of row m) e)) o quiet refl
      (reply_row-made m row a (is_sync_row row) o body found refl)
  reply_arrives-made m (answer.Ok vs) None o body none = passes_by-made m (Reply vs) o body refl none
  reply_arrives-made m (answer.Fault reason) None o body none = passes_by-made m (Fault reason) o body refl none

  request-made : (m : Message) (vs : Values) (row : Option MessageRow) (o : Output) → is_open o.end.state ≡ true → m.body ≡ Request vs → message_of schema m.number ≡ row
      → Makes (DeliveryPart schema (message m) o.end) (line (what.DeliverRequest m.seq) ▷ option_map_or (delivery.request_arrives m) row unchanged) o quiet
  request-made m vs None o open_is body none = passes_by-made m (Request vs) o body refl none
  request-made m vs (Some row) o open_is body found =
      let old : Option Item = replaced row.compress (delivery.item_of row m) o.end.arrived in
      made-as (DeliveryPart schema (message m) o.end) (line (what.DeliverRequest m.seq) ▷ delivery.request_arrives m row) (line (what.DeliverRequest m.seq) ▷ on_end (delivery.counted row (delivery.item_of row m)) ▷ delivery.replacing row old) o quiet refl
      (request_arrives-made m row vs old o open_is body found refl)

  -- the other end has ended
  drains-made : (packet : Packet) (o : Output) → is_farewell (farewell_item packet) ≡ true → Makes (DeliveryPart schema packet o.end) (line (farewell_line packet) ▷ delivery.ended (farewell_item packet)) o ending
  drains-made packet o is =
      made (DeliveryPart schema packet o.end) (line (farewell_line packet) ▷ delivery.ended (farewell_item packet)) o ending (farewell_line packet ∷ map what.Fails (delivery.unanswered o.end)) [] (Parts.drains packet is)
      (append_assoc o.lines (_ ∷ []) (map (line_at o.end.side) (map what.Fails (delivery.unanswered o.end)))) (sym (append-nil o.packets)) refl

  body_delivered-made : (m : Message) (body : Body) (o : Output) → is_open o.end.state ≡ true → m.body ≡ body → (q : Phase) × Makes (DeliveryPart schema (message m) o.end) (delivery.body_delivered schema m body) o q
  body_delivered-made m (Request vs) o open_is is = (quiet, request-made m vs (message_of schema m.number) o open_is is refl)
  body_delivered-made m (Reply vs) o open_is is = (quiet, reply_arrives-made m (answer.Ok vs) (message_of schema m.number) o is refl)
  body_delivered-made m (Fault reason) o open_is is = (quiet, reply_arrives-made m (answer.Fault reason) (message_of schema m.number) o is refl)
  body_delivered-made m Goodbye o open_is is = (ending, drains-made (message m) o (ap is_goodbye is))

  pub deliver-made : (packet : Packet) (o : Output) → is_open o.end.state ≡ true → (q : Phase) × Makes (DeliveryPart schema packet o.end) (delivery.deliver schema packet) o q
  deliver-made (message m) o open_is = body_delivered-made m m.body o open_is refl
  deliver-made mark o open_is = (ending, drains-made mark o refl)
