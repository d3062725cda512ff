-- Half runs do not depend on where boxes are.
use Rattle.std.proofs.Common.{◌≡◌, ◌∙◌, false, [], ◌∷◌, Option, None, Some, refl, sym, ap}
use Rattle.std.specs.Prelude.{find, if◌then◌else◌, nat_lt, not, ◌&&◌, option_map}
use Rattle.std.specs.Option.{option_map_or}
use Rattle.std.specs.Ordering.{int_eq}
use Rattle.ipdl_base.specs.Signatures.{returns_of_row}
use Rattle.ipdl_base.specs.Sound.{message_of}
use Rattle.ipdl_base.specs.declared.kinds.Side.{Side}
use Rattle.ipdl_base.specs.declared.message.Body.{Body}
use Rattle.ipdl_base.specs.declared.message.Body.TheVariants.{Request, Reply, Fault, Goodbye}
use Rattle.ipdl_base.specs.declared.message.Message.{Message}
use Rattle.ipdl_base.specs.declared.schema.MessageRow.{MessageRow}
use Rattle.ipdl_base.specs.declared.schema.Schema.{Schema}
use Rattle.program_schema.specs.Laws.{plain_message_row, plain_schema}
use Rattle.channel_model.specs.Ends.{End, Packet, message, mark, opening_end}
use Rattle.channel_model.specs.Events.{Event}
use Rattle.channel_model.specs.Events as event
use Rattle.ipdl_base.specs.Sides.{other, sends}
use Rattle.channel_model.specs.Numbers.{protocol_of, is_constructor}
use Rattle.channel_model.specs.Refusals.{DeliveryRefusal, wrong_direction, wrong_number, wrong_new_id, stray, wrong_actor, actor_refusal, actors_of, body_refusal, delivery_refusal, expected_id, expected_seq, is_expected_reply, lives_otherwise, packet_refusal, reply_refusal, request_refusal}
use Rattle.channel_model.specs.Steps.{step}
use Rattle.channel_model.specs.ValueActors.{actors_in_parts}
use Rattle.relay_runs.specs.HalfRuns.{HalfState, after, after_next, after_own, after_packet, delivered_for, is_within, opening_half, own_event}
use Rattle.script_steps.specs.Choices.{Setting}
use Rattle.script_steps.specs.NextEvent.{next_event}
use Rattle.script_steps.specs.Progress.{progress_of}
use Rattle.schema_laws.specs.Runs.{AreSettingsAlike}
use Rattle.schema_laws.proofs.EventsAlike.{next_alike}
use Rattle.schema_laws.proofs.Rows.{message_alike, option_alike}
use Rattle.schema_laws.proofs.RowsAlike.{returns_alike}
use Rattle.schema_laws.proofs.StepsAlike.{steps_alike}
use Rattle.schema_laws.proofs.ValuesAlike.{actors_of_parts}

-- What an end refuses

module _ (s : Schema) (e : End) (m : Message) where
  actors_alike : (row : MessageRow) (b : Body) → actors_of (plain_schema s) (plain_message_row row) m b ≡ actors_of s row m b
  actors_alike row (Request vs) = λ i. record { id = m.route; protocol = protocol_of m.number; nullable = false } ∷ actors_of_parts s row.params vs i
  actors_alike row (Reply vs) =
      (λ i. record { id = m.route; protocol = protocol_of m.number; nullable = false } ∷ actors_in_parts (plain_schema s) (returns_alike row i) vs)
      ∙ (λ i. record { id = m.route; protocol = protocol_of m.number; nullable = false } ∷ actors_of_parts s (returns_of_row row) vs i)
  actors_alike row (Fault reason) = refl
  actors_alike row Goodbye = refl

  actor_alike : (row : MessageRow) → actor_refusal (plain_schema s) e (plain_message_row row) m ≡ actor_refusal s e row m
  actor_alike row = λ i. option_map (λ a. wrong_actor a.id m.number) (find (λ a. lives_otherwise e.actors a.protocol a.id) (actors_alike row m.body i))

  request_alike : (row : MessageRow) → request_refusal (plain_schema s) e m (plain_message_row row) ≡ request_refusal s e m row
  request_alike row = λ i.
      if not (sends (other e.side) row.direction) then Some wrong_direction else
      (if not (int_eq m.seq (expected_seq e)) then Some wrong_number else
      (if is_constructor row.kind && not (int_eq m.made (expected_id e)) then Some wrong_new_id else
      actor_alike row i))

  reply_alike : (row : MessageRow) → reply_refusal (plain_schema s) e m (plain_message_row row) ≡ reply_refusal s e m row
  reply_alike row = λ i. if is_expected_reply e m row then actor_alike row i else Some (stray m.seq)

  body_alike : (b : Body) (row : MessageRow) → body_refusal (plain_schema s) e m b (plain_message_row row) ≡ body_refusal s e m b row
  body_alike (Request vs) row = request_alike row
  body_alike (Reply vs) row = reply_alike row
  body_alike (Fault reason) row = reply_alike row
  body_alike Goodbye row = refl

  pub refusal_alike : delivery_refusal (plain_schema s) e m ≡ delivery_refusal s e m
  refusal_alike =
      (λ i. option_map_or (body_refusal (plain_schema s) e m m.body) (message_alike s m.number i) None)
      ∙ option_alike plain_message_row (body_refusal (plain_schema s) e m m.body) (body_refusal s e m m.body) (body_alike m.body) None (message_of s m.number)

-- What a half does

module _ (a b : Setting) (alike : AreSettingsAlike a b) where
  pub own_alike : (side : Side) (half : HalfState) → own_event a side half ≡ own_event b side half
  own_alike side half =
      sym (next_alike a.script half.end a.stop (progress_of side half.lines)) ∙ (λ i. next_event (alike.scripts i) (alike.stop i) half.end (progress_of side half.lines))
      ∙ next_alike b.script half.end b.stop (progress_of side half.lines)

  pub within_alike : (side : Side) (half : HalfState) → is_within a side half ≡ is_within b side half
  within_alike side half = λ i. nat_lt (progress_of side half.lines).events (alike.limit i)

  -- what an end refuses of packets, and so what is delivered of them

  refused_alike : (e : End) (packet : Packet) → packet_refusal a.schema e packet ≡ packet_refusal b.schema e packet
  refused_alike e (message m) = sym (refusal_alike a.schema e m) ∙ (λ i. delivery_refusal (alike.schemas i) e m) ∙ refusal_alike b.schema e m
  refused_alike e mark = refl

  pub delivered_alike : (e : End) (packet : Packet) → delivered_for a.schema e packet ≡ delivered_for b.schema e packet
  delivered_alike e packet = ap (λ (refused : Option DeliveryRefusal). option_map_or (λ refusal. mark) refused packet) (refused_alike e packet)

  pub opening_alike : (side : Side) → opening_half a side ≡ opening_half b side
  opening_alike side = λ i. record { end = opening_end (alike.scripts i).top side; lines = []; came = []; delivered = []; sent = [] }

  -- the half after an own step, and after a packet that comes

  pub after_own_alike : (half : HalfState) (own : Event) → after_own a half own ≡ after_own b half own
  after_own_alike half own = λ i. option_map_or (after half) (steps_alike a.schema b.schema alike.schemas half.end [] own i) half

  pub after_next_alike : (half : HalfState) (packet : Packet) → after_next a half packet ≡ after_next b half packet
  after_next_alike half packet =
      ap (λ (given : Packet). option_map_or (after_packet half packet given) (step a.schema half.end (given ∷ []) event.deliver) half) (delivered_alike half.end packet)
      ∙ (λ i. option_map_or (after_packet half packet (delivered_for b.schema half.end packet)) (steps_alike a.schema b.schema alike.schemas half.end (delivered_for b.schema half.end packet ∷ []) event.deliver i) half)
