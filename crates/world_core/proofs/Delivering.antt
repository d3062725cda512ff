-- A delivery on a link, from that to its half.
use Rattle.std.proofs.Common.{◌≡◌, ℕ, ◌<◌, nat_lt, Bool, true, false, ◌&&◌, if◌then◌else◌, List, [], ◌∷◌, drop, length, Some, None, is_some, refl, sym, ap, subst, ◌∙◌, arith}
use Rattle.std.specs.List.{AllByRecursion}
use Rattle.std.proofs.lemmas.List.{append-nil}
use Rattle.handler_script.specs.ScriptOf.{first_of}
use Rattle.ipdl_base.specs.declared.kinds.Side.{Side}
use Rattle.ipdl_base.specs.declared.message.Message.{Message}
use Rattle.ipdl_base.specs.declared.schema.Schema.{Schema}
use Rattle.ipdl_base.specs.Plain.{plain_message}
use Rattle.ipdl_base.specs.Sound.{IsSound}
use Rattle.value_types.specs.declared.layout.TheConstants.{NEW}
use Rattle.value_codec.proofs.Cases.{read_again}
use Rattle.value_codec.specs.declared.decoding.DecodeResult.TheVariants as decoded
use Rattle.value_codec.specs.Decoding.{begins}
use Rattle.value_codec.specs.Laws.{AreBytes}
use Rattle.value_codec.specs.Spelling.{frame_bytes}
use Rattle.channel_model.specs.Ends.{End, end_of, link_to}
use Rattle.channel_model.specs.Ends as model
use Rattle.channel_model.specs.Events as e
use Rattle.ipdl_base.specs.Sides.{other}
use Rattle.channel_model.specs.Outputs.{is_open}
use Rattle.channel_model.specs.Refusals.{packet_refusal}
use Rattle.channel_model.specs.Runs.{after_event}
use Rattle.channel_model.specs.Steps.{first_packet, step}
use Rattle.end_parts.proofs.ReadLemmas.{read-broken, read-message}
use Rattle.end_parts.specs.declared.packet.Packet.{Packet}
use Rattle.end_parts.specs.PacketReading.{carried, packet_read}
use Rattle.channel_core.specs.declared.answers.DeliverAnswer.TheVariants as delivery
use Rattle.channel_core.specs.Delivered.{answer_to, delivery_answer, refusal_answer}
use Rattle.channel_core.specs.EndView.{IsFramed, packet_of, packets_of}
use Rattle.script_runs.proofs.CaseRuns.{case_worlds_fit}
use Rattle.script_runs.proofs.Room.{cases_have_room}
use Rattle.script_runs.specs.Laws.{FitsCase}
use Rattle.script_steps.specs.Choices.{Choice, Setting, event_by, may_deliver}
use Rattle.script_steps.specs.Progress.{Progress, progress_of}
use Rattle.world_core.proofs.Played.{after-side, has-played, has-room, link-of}
use Rattle.world_core.proofs.Turning.{within-is}
use Rattle.world_core.specs.declared.answers.StepAnswer.{StepAnswer}
use Rattle.world_core.specs.declared.answers.StepAnswer.TheVariants as answer
use Rattle.world_core.specs.HalfSteps.{DeliveryGives, IsHalfDelivery, IsHalfStep}
use Rattle.world_core.specs.HalfView.{HalfView, appended}
use Rattle.world_core.specs.LinkView.{HoldsBytes, IsAppended, LinkHasRoom, LinkView, packets_to, with_packets_to}
use Rattle.world_core.specs.SideTurns.{DeliveryPlays, FirstGives, MayHave, StandsIn}
use Rattle.world_core.specs.WorldView.{WorldView}
use Rattle.world_core.specs.Worlds.{IsLinkOf}

-- What is read of a packet on a link

-- the packet of a message that has its frame is read as the message, and a mark as the mark
pub framed-read : (schema : Schema) (p : model.Packet) (packet : Packet) → IsSound schema → IsFramed schema p → HoldsBytes packet → packet ≡ packet_of schema p → packet_read schema packet ≡ carried p
framed-read schema (model.message m) packet sound framed fits is =
    let bytes : List ℕ = frame_bytes NEW schema m in
    let are : AreBytes bytes = subst HoldsBytes is fits in
    let begun : begins NEW schema bytes ≡ decoded.Frame (plain_message m) (length bytes) =
    ap (begins NEW schema) (sym (append-nil bytes)) ∙ read_again NEW (omega arith) schema sound m bytes [] are framed.frame in
    read-message schema packet bytes (plain_message m) (length bytes) is begun refl ∙ ap (λ (x : Message). carried (model.message x)) framed.plain
framed-read schema model.mark packet sound framed fits is = read-broken schema packet is

-- A packet comes first on the link toward a side: it is that of what the link of the state carries.
pub record ComesFirst (at : WorldView) (side : Side) (packet : Packet) : Type 0 where
  pub carries : model.Packet
  pub rest : List model.Packet
  pub lies : link_to side at.state.world ≡ carries ∷ rest
  pub framed : IsFramed at.setting.schema carries
  pub is : packet ≡ packet_of at.setting.schema carries

drop-first : (schema : Schema) (ps : List model.Packet) → drop 1 (packets_of schema ps) ≡ packets_of schema (drop 1 ps)
drop-first schema [] = refl
drop-first schema (p ∷ ps) = refl

pub first-some : (schema : Schema) (ps : List model.Packet) → is_some (first_of (packets_of schema ps)) ≡ is_some (first_packet ps)
first-some schema [] = refl
first-some schema (p ∷ ps) = refl

both-true : (a b : Bool) → (a && b) ≡ true → a ≡ true
both-true true b h = refl
both-true false b h = cc

module _ (at : WorldView) (side : Side) (half : HalfView) (link : LinkView) (stands : StandsIn at side half link) where
  abbrev progress_is : Progress
  progress_is = progress_of side at.state.lines

  link_is : IsLinkOf at.setting at.state side link
  link_is = link-of at.setting at.state link stands.run side

  schema-is : half.end.schema ≡ at.setting.schema
  schema-is = ap (λ (s : Setting). s.schema) stands.half_is.about

  -- whether a packet may be delivered
  may-is : (is_open half.end.end.state && is_some (first_of (packets_to side link))) ≡ may_deliver side at.state.world
  may-is =
      ap (λ (end : End). is_open end.state && is_some (first_of (packets_to side link))) stands.half_is.end
      ∙ ap (λ (ps : List Packet). is_open (end_of side at.state.world).state && is_some (first_of ps)) link_is.packets
      ∙ ap (λ (b : Bool). is_open (end_of side at.state.world).state && b) (first-some at.setting.schema (link_to side at.state.world))

  comes-first : (packet : Packet) → first_of (packets_to side link) ≡ Some packet → ComesFirst at side packet
  comes-first packet first = by (link_to side at.state.world) refl (ap first_of (sym link_is.packets) ∙ first)
    where
      by : (ps : List model.Packet) → link_to side at.state.world ≡ ps → first_of (packets_of at.setting.schema (link_to side at.state.world)) ≡ Some packet → ComesFirst at side packet
      by [] lies h =
          absurd (let none : first_of (packets_of at.setting.schema []) ≡ Some packet = subst (λ (ps : List model.Packet). first_of (packets_of at.setting.schema ps) ≡ Some packet) lies h in let no : ⊥ = cc in no)
      by (p ∷ ps) lies h =
          let some : Some (packet_of at.setting.schema p) ≡ Some packet = subst (λ (ps : List model.Packet). first_of (packets_of at.setting.schema ps) ≡ Some packet) lies h in
          let same : packet ≡ packet_of at.setting.schema p = cc in
          record { carries = p; rest = ps; lies = lies; framed = (subst (AllByRecursion (IsFramed at.setting.schema)) lies link_is.framed).0; is = same }

  module _ (packet : Packet) (first : first_of (packets_to side link) ≡ Some packet) (fits : HoldsBytes packet) where
    first_is : ComesFirst at side packet
    first_is = comes-first packet first

    reads : packet_read half.end.schema packet ≡ carried first_is.carries
    reads = ap (λ (schema : Schema). packet_read schema packet) schema-is ∙ framed-read at.setting.schema first_is.carries packet stands.run.sound first_is.framed fits first_is.is

    -- no run refuses it
    pub first-accepted : is_open half.end.end.state ≡ true → delivery_answer half.end packet ≡ delivery.Done
    unfolding delivery_answer
    first-accepted opens =
        let small = stands.run.small in
        let fit : FitsCase at.setting at.state side = case_worlds_fit at.setting stands.run.choices at.state stands.run.sound (omega (arith, small)) stands.run.plays side in
        let none = fit.accepted first_is.carries first_is.rest (ap (λ (end : End). is_open end.state) (sym stands.half_is.end) ∙ opens) first_is.lies in
        ap (answer_to half.end) reads
        ∙ ap (λ (schema : Schema). refusal_answer (packet_refusal schema half.end.end first_is.carries)) schema-is
        ∙ ap (λ (end : End). refusal_answer (packet_refusal at.setting.schema end first_is.carries)) stands.half_is.end ∙ ap refusal_answer none

    -- and its delivery is that of the link
    on-link : (after : HalfView) → IsHalfDelivery half progress_is packet after → IsHalfStep half progress_is (link_to side at.state.world) e.deliver after
    on-link after d =
        let same : first_is.carries ≡ d.carries = (let read = reads in let told = d.is_read in cc) in
        record {
          output = d.steps.output;
          is_step = ap (λ (ps : List model.Packet). step half.end.schema half.end.end ps e.deliver) first_is.lies ∙ ap (λ (p : model.Packet). step half.end.schema half.end.end (p ∷ []) e.deliver) same ∙ d.steps.is_step;
          is_after = d.steps.is_after;
          framed = d.steps.framed;
          same = d.steps.same;
          counted = d.steps.counted;
        }

    pub first-gives : (a : StepAnswer) (after : HalfView) → DeliveryGives half progress_is packet a after → FirstGives at side half a after
    first-gives answer.Did after h = on-link after h
    first-gives answer.Nothing after h = h
    first-gives (answer.Spent s) after h = h
    first-gives answer.NoMemory after h = h

  -- few packets were delivered
  pub few-delivered : half.end.end.delivered < 268435456
  few-delivered =
      let room = cases_have_room at.setting stands.run.choices at.state stands.run.sound stands.run.plays side in
      let delivered = room.delivered in
      let events = room.events in
      let small = stands.run.small in
      let same = ap (λ (end : End). end.delivered) stands.half_is.end in
      omega (arith, delivered, events, small, same)

  pub opens-so : MayHave at side → is_open half.end.end.state ≡ true
  opens-so may = both-true (is_open half.end.end.state) (is_some (first_of (packets_to side link))) (may-is ∙ may.there)

  pub may-count : MayHave at side → nat_lt half.counts.events half.limit ≡ true
  may-count may = within-is at side half link stands ∙ may.within

  -- The half has made the step, and the packet goes from the link.
  module _ (may : MayHave at side) (after : HalfView) (steps : IsHalfStep half progress_is (link_to side at.state.world) e.deliver after) (between : LinkView) (dropped : between ≡ with_packets_to side (drop 1 (packets_to side link)) link) where
    abbrev choice_is : Choice
    choice_is = record { side = side; delivers = true }

    has : event_by at.setting choice_is at.state ≡ Some e.deliver
    has = ap (λ (b : Bool). if b then Some e.deliver else None) may.there

    is : step at.setting.schema (end_of side at.state.world) (link_to side at.state.world) e.deliver ≡ Some steps.output
    is =
        sym (ap (λ (schema : Schema). step schema half.end.end (link_to side at.state.world) e.deliver) schema-is ∙ ap (λ (end : End). step at.setting.schema end (link_to side at.state.world) e.deliver) stands.half_is.end) ∙ steps.is_step

    lies : between ≡ with_packets_to side (packets_of at.setting.schema (after_event e.deliver (link_to side at.state.world))) link
    lies =
        dropped ∙ ap (λ (ps : List Packet). with_packets_to side (drop 1 ps) link) link_is.packets ∙ ap (λ (ps : List Packet). with_packets_to side ps link) (drop-first at.setting.schema (link_to side at.state.world))

    side-is : after.end.end.side ≡ side
    side-is = after-side at side half after link between e.deliver true (link_to side at.state.world) stands may.within has steps is lies

    -- the link has room for what the delivery has made
    pub delivery-room : LinkHasRoom between (length after.end.lines) (other after.end.end.side) (length after.end.packets)
    delivery-room =
        subst (λ (s : Side). LinkHasRoom between (length after.end.lines) (other s) (length after.end.packets)) (sym side-is)
        (has-room at side half after link between e.deliver true (link_to side at.state.world) stands may.within has steps is lies)

    -- and it was played
    pub delivery-plays : (last : HalfView) (ends : LinkView) → last ≡ appended after → IsAppended between after.end.lines (other after.end.end.side) after.end.packets ends → DeliveryPlays at side half link answer.Did last ends
    delivery-plays last ends emptied appends = (
      may.within,
      may.there,
      has-played at side half after link between e.deliver true (link_to side at.state.world) stands may.within has steps is lies last ends emptied
          (subst (λ (s : Side). IsAppended between after.end.lines (other s) after.end.packets ends) side-is appends),
    )
