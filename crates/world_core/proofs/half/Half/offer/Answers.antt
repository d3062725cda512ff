use Rattle.std.proofs.Common.{◌≡◌, ◌∙◌, [], ◌∷◌, None, ap, subst}
use Rattle.ipdl_base.specs.Plain.{plain_message}
use Rattle.channel_model.specs.Ends as ends
use Rattle.channel_model.specs.Events as event
use Rattle.channel_model.specs.Refusals.{packet_refusal}
use Rattle.channel_core.specs.Steps.{IsStepBy}
use Rattle.world_core.specs.CountsSteps.{with_event}
use Rattle.world_core.specs.HalfView.{HalfView}
use Rattle.world_core.proofs.HalfLemmas.{delivered-step}
use Rattle.world_core.proofs.half.Half.offer.Goals as goal

pub returns-in-Done : goal.returns-in-Done
returns-in-Done g c = (
  subst (λ (h : HalfView). packet_refusal h.end.schema h.end.end (ends.message (plain_message c.args.message)) ≡ None) c.self.view_is c.in-Done.ensures.0,
  delivered-step (ends.message (plain_message c.args.message) ∷ []) c.args.self.now _ g.progress c.requires.0
      (subst (λ (h : HalfView). IsStepBy h.end (ends.message (plain_message c.args.message) ∷ []) event.deliver c.deliver_message.new.self) c.self.view_is c.in-Done.ensures.1)
      (ap (λ (h : HalfView). record h { end = c.deliver_message.new.self; counts = c.count_event.new.self }) c.self.view_is)
      (c.count_event.ensures ∙ ap (λ (h : HalfView). with_event h.counts) c.self.view_is),
)
