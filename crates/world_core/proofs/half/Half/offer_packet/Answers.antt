use Rattle.std.proofs.Common.{◌≡◌, ◌∙◌, true, ap, subst}
use Rattle.end_parts.specs.PacketReading.{packet_read}
use Rattle.channel_core.specs.declared.answers.DeliverAnswer.TheVariants as delivery
use Rattle.channel_core.specs.Delivered.{IsDelivered, delivery_answer}
use Rattle.world_core.proofs.HalfLemmas.{delivery-gives}
use Rattle.world_core.proofs.KeptHalves.{offered-done, offered-refused, same-end}
use Rattle.world_core.proofs.half.Half.offer_packet.Goals as goal
use Rattle.world_core.specs.CountsSteps.{with_event}
use Rattle.world_core.specs.HalfView.{HalfView}
use Rattle.world_core.specs.Relaying.{is_refused}

pub returns-in-Done : goal.returns-in-Done
returns-in-Done g c =
    offered-done c.args.self.now _ g.progress c.args.packet.now (subst (λ (h : HalfView). delivery_answer h.end c.args.packet.now ≡ delivery.Done) c.self.view_is c.in-Done.ensures.0)
    (delivery-gives c.args.self.now _ g.progress c.args.packet.now c.requires.0
    (subst (λ (h : HalfView). IsDelivered h.end c.args.packet.now c.deliver.new.self) c.self.view_is c.in-Done.ensures.1)
    (ap (λ (h : HalfView). record h { end = c.deliver.new.self; counts = c.count_event.new.self }) c.self.view_is)
    (c.count_event.ensures ∙ ap (λ (h : HalfView). with_event h.counts) c.self.view_is))

pub returns-in-Bad : goal.returns-in-Bad
returns-in-Bad g c = (
  subst (λ (h : HalfView). is_refused h.end.schema h.end.end (packet_read h.end.schema c.args.packet.now) ≡ true) c.self.view_is (offered-refused c.self.inside.end c.args.packet.now (delivery.Bad c.in-Bad.offset c.in-Bad.rule) (λ e. let no : ⊥ = cc in no) c.in-Bad.ensures.0),
  ap (λ (h : HalfView). record h { end = c.deliver.new.self }) c.self.view_is ∙ same-end c.args.self.now c.deliver.new.self (c.in-Bad.ensures.1 ∙ ap (λ (h : HalfView). h.end) c.self.view_is),
)

pub returns-in-Stray : goal.returns-in-Stray
returns-in-Stray g c = (
  subst (λ (h : HalfView). is_refused h.end.schema h.end.end (packet_read h.end.schema c.args.packet.now) ≡ true) c.self.view_is (offered-refused c.self.inside.end c.args.packet.now (delivery.Stray c.in-Stray.seq) (λ e. let no : ⊥ = cc in no) c.in-Stray.ensures.0),
  ap (λ (h : HalfView). record h { end = c.deliver.new.self }) c.self.view_is ∙ same-end c.args.self.now c.deliver.new.self (c.in-Stray.ensures.1 ∙ ap (λ (h : HalfView). h.end) c.self.view_is),
)

pub returns-in-WrongActor : goal.returns-in-WrongActor
returns-in-WrongActor g c = (
  subst (λ (h : HalfView). is_refused h.end.schema h.end.end (packet_read h.end.schema c.args.packet.now) ≡ true) c.self.view_is (offered-refused c.self.inside.end c.args.packet.now (delivery.WrongActor c.in-WrongActor.id c.in-WrongActor.number) (λ e. let no : ⊥ = cc in no) c.in-WrongActor.ensures.0),
  ap (λ (h : HalfView). record h { end = c.deliver.new.self }) c.self.view_is ∙ same-end c.args.self.now c.deliver.new.self (c.in-WrongActor.ensures.1 ∙ ap (λ (h : HalfView). h.end) c.self.view_is),
)
