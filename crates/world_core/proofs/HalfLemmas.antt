-- Steps of a half, from those of its end and its counts.
use Rattle.std.proofs.Common.{◌≡◌, true, false, List, [], ◌∷◌, map, Some, refl, sym, ap, subst, ◌∙◌}
use Rattle.ipdl_base.specs.declared.kinds.Side.{Side}
use Rattle.ipdl_base.specs.declared.schema.Schema.{Schema}
use Rattle.channel_model.specs.Ends.{End, Packet}
use Rattle.channel_model.specs.Events.{Event}
use Rattle.channel_model.specs.Events as event
use Rattle.channel_model.specs.Outputs.{Output, line_at}
use Rattle.channel_model.specs.Steps.{step}
use Rattle.end_parts.specs.declared.packet.Packet.{Packet as ChannelPacket}
use Rattle.channel_core.specs.Delivered.{IsDelivered}
use Rattle.channel_core.specs.EndView.{EndView}
use Rattle.channel_core.specs.Steps.{IsStep, IsStepBy}
use Rattle.script_runs.specs.Dispatches.{dispatches_after}
use Rattle.script_steps.specs.Progress.{Progress, after_lines, one_act, one_event}
use Rattle.script_steps.proofs.StepLines.{step-prints}
use Rattle.world_core.specs.Counted.{AreCountsOf}
use Rattle.world_core.specs.HalfSteps.{IsHalfDelivery, IsHalfStep, with_end_of}
use Rattle.world_core.specs.CountsSteps.{with_event}
use Rattle.world_core.specs.CountsView.{CountsView, RunningView}
use Rattle.world_core.specs.HalfView.{HalfView, IsCountedBy, whats_of}
use Rattle.world_core.specs.Resolvers.{resolver_of}
use Rattle.world_core.proofs.CountsLemmas.{event-counted}
use Rattle.world_core.proofs.Held.{held-following}
use Rattle.world_core.proofs.EventLines.{act-begins, is_acting}
use Rattle.world_core.proofs.StepProgress.{Begins, Makes, act-makes, delivery-makes, step-makes}

-- the step of an event whose lines make this of a progress
pub stepped : (link : List Packet) (before after : HalfView) (progress next : Progress) (happened : Event) (is : IsStepBy before.end link happened after.end) → after ≡ with_end_of before after
    → after_lines progress (whats_of is.output.lines) ≡ next → AreCountsOf before.script before.end.end.side next after.counts
    → map (λ r. r.resolver) after.counts.running ≡ map resolver_of (dispatches_after before.end.schema before.end.end happened) → IsHalfStep before progress link happened after
stepped link before after progress next happened is same makes counted held =
    let prints = step-prints before.end.schema before.end.end link happened is.output is.is_step in
    let side : before.end.end.side ≡ after.end.end.side = sym (ap (λ (v : EndView). v.end.side) is.is_after ∙ prints.side) in
    let script : before.script ≡ after.script = sym (ap (λ (h : HalfView). h.script) same) in
    record {
      output = is.output;
      is_step = is.is_step;
      is_after = is.is_after;
      framed = is.framed;
      same = same;
      counted = record {
        counts =
            subst (λ s. AreCountsOf s after.end.end.side (after_lines progress (whats_of is.output.lines)) after.counts) script
            (subst (λ (at : Side). AreCountsOf before.script at (after_lines progress (whats_of is.output.lines)) after.counts) side
            (subst (λ (p : Progress). AreCountsOf before.script before.end.end.side p after.counts) (sym makes) counted));
        held = held-following before.end after.end link happened after.counts.running is held;
      };
    }

-- the step of an event whose lines begin with one that makes this of every progress
made-by : (link : List Packet) (before after : HalfView) (progress : Progress) (happened : Event) (f : Progress → Progress) → ((p : Progress) → (f p).takes ≡ false)
    → ((output : Output) → step before.end.schema before.end.end link happened ≡ Some output → Begins output (Makes f))
    → IsStepBy before.end link happened after.end → after ≡ with_end_of before after → AreCountsOf before.script before.end.end.side (f progress) after.counts
    → map (λ r. r.resolver) after.counts.running ≡ map resolver_of (dispatches_after before.end.schema before.end.end happened) → IsHalfStep before progress link happened after
made-by link before after progress happened f quiet begins is same counted held =
    let prints = step-prints before.end.schema before.end.end link happened is.output is.is_step in
    stepped link before after progress (f progress) happened is same (step-makes f quiet before.end.end happened is.output prints (begins is.output is.is_step) progress) counted held

-- the same of an event that takes nothing from the link
pub made-step : (before after : HalfView) (progress : Progress) (happened : Event) (f : Progress → Progress) → ((p : Progress) → (f p).takes ≡ false)
    → ((output : Output) → step before.end.schema before.end.end [] happened ≡ Some output → Begins output (Makes f))
    → IsStep before.end happened after.end → after ≡ with_end_of before after → AreCountsOf before.script before.end.end.side (f progress) after.counts
    → map (λ r. r.resolver) after.counts.running ≡ map resolver_of (dispatches_after before.end.schema before.end.end happened) → IsHalfStep before progress [] happened after
made-step = made-by []

-- the lines of a delivery begin with one that is an event and no act
delivery-begins : (schema : Schema) (e : End) (link : List Packet) (output : Output) → step schema e link event.deliver ≡ Some output → Begins output (Makes one_event)
delivery-begins schema e link output is =
    let prints = step-prints schema e link event.deliver output is in
    (e.side, prints.first, map (line_at e.side) prints.rest, prints.lines, delivery-makes prints.first prints.delivers)

-- a delivery
pub delivered-step : (link : List Packet) (before after : HalfView) (progress : Progress) → IsCountedBy before progress → IsStepBy before.end link event.deliver after.end → after ≡ with_end_of before after → after.counts ≡ with_event before.counts → IsHalfStep before progress link event.deliver after
delivered-step link before after progress counted is same counts =
    made-by link before after progress event.deliver one_event (λ p. refl) (λ output made. delivery-begins before.end.schema before.end.end link output made) is same
    (subst (λ (c : CountsView). AreCountsOf before.script before.end.end.side (one_event progress) c) (sym counts) (event-counted before.script before.end.end.side progress before.counts counted.counts))
    (ap (λ (c : CountsView). map (λ (r : RunningView). r.resolver) c.running) counts ∙ counted.held)

-- what a delivery gives
pub delivery-gives : (before after : HalfView) (progress : Progress) (packet : ChannelPacket) → IsCountedBy before progress → IsDelivered before.end packet after.end → after ≡ with_end_of before after → after.counts ≡ with_event before.counts → IsHalfDelivery before progress packet after
delivery-gives before after progress packet counted is same counts =
    record { carries = is.carries; is_read = is.is_read; steps = delivered-step (is.carries ∷ []) before after progress counted is.is_step same counts }

-- no act leaves the progress after a take
pub act-quiet : (p : Progress) → (one_act p.handled (one_event p)).takes ≡ false
act-quiet p = by p.handled where
  by : (hs : _) → (one_act hs (one_event p)).takes ≡ false
  by [] = refl
  by (h ∷ hs) = refl

-- the step of an act
pub act-step : (before after : HalfView) (progress : Progress) (happened : Event) → is_acting happened ≡ true → IsStep before.end happened after.end → after ≡ with_end_of before after
    → AreCountsOf before.script before.end.end.side (one_act progress.handled (one_event progress)) after.counts
    → map (λ r. r.resolver) after.counts.running ≡ map resolver_of (dispatches_after before.end.schema before.end.end happened) → IsHalfStep before progress [] happened after
act-step before after progress happened acts is same counted held =
    made-step before after progress happened (λ p. one_act p.handled (one_event p)) act-quiet
    (λ output made. let b = act-begins before.end.schema before.end.end [] happened output acts made in (b.0, b.1, b.2, b.3, act-makes b.1 b.4)) is same counted held
