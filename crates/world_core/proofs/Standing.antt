-- A half at a state of a run: what it does next is what its side does there.
use Rattle.std.proofs.Common.{◌≡◌, ℕ, ◌<◌, nat_lt, true, false, List, [], Some, refl, sym, ap, subst, ◌∙◌, arith}
use Rattle.std.specs.List.{AllZip}
use Rattle.handler_script.specs.Valid.{IsValid}
use Rattle.ipdl_base.specs.declared.schema.Schema.{Schema}
use Rattle.ipdl_base.specs.declared.kinds.Side.{Side}
use Rattle.channel_model.specs.Ends.{End, Packet, end_of, link_to}
use Rattle.channel_model.specs.Events.{Event}
use Rattle.channel_model.specs.Events as e
use Rattle.channel_model.specs.Fitting.{IsFitting}
use Rattle.channel_model.specs.Runs.{RunState, after_event, is_delivery}
use Rattle.channel_model.specs.Steps.{step}
use Rattle.script_runs.proofs.Changes.{resolvers_are_apart}
use Rattle.script_runs.proofs.KeptRuns.{handlers_stand}
use Rattle.script_runs.proofs.CaseRuns.{case_worlds_fit}
use Rattle.script_runs.proofs.Possible.{script_events_are_possible}
use Rattle.script_runs.proofs.Room.{cases_have_room}
use Rattle.script_runs.specs.Allowed.{IsAllowed}
use Rattle.script_runs.specs.Dispatches.{dispatches}
use Rattle.script_runs.specs.Handlers.{IsHandlerOf}
use Rattle.script_steps.proofs.Choosing.{event-delivers, side-of}
use Rattle.script_steps.specs.Choices.{Setting, is_within, own_event}
use Rattle.script_steps.specs.NextEvent.{next_event}
use Rattle.script_steps.specs.Progress.{Progress, progress_of}
use Rattle.world_core.proofs.Chosen.{run-sides}
use Rattle.world_core.specs.HalfSteps.{IsOwnStep, MayGoOn, next_of}
use Rattle.world_core.specs.HalfView.{HalfView}
use Rattle.world_core.specs.Halves.{HasComeTo}
use Rattle.world_core.specs.Resolvers.{AreApart}

-- an own event looks at no link
pub link-free : (schema : Schema) (end : End) (link : List Packet) (event : Event) → is_delivery event ≡ false → step schema end [] event ≡ step schema end link event
link-free schema end link (e.send route number vs name) h = refl
link-free schema end link (e.answer by vs) h = refl
link-free schema end link (e.keep seq name) h = refl
link-free schema end link (e.name name id) h = refl
link-free schema end link e.close h = refl
link-free schema end link e.die h = refl
link-free schema end link e.deliver h = cc
link-free schema end link e.take h = refl
link-free schema end link (e.return vs) h = refl
link-free schema end link e.resume h = refl
link-free schema end link e.flush h = refl

-- and takes nothing off it
pub link-kept : (link : List Packet) (event : Event) → is_delivery event ≡ false → after_event event link ≡ link
link-kept link (e.send route number vs name) h = refl
link-kept link (e.answer by vs) h = refl
link-kept link (e.keep seq name) h = refl
link-kept link (e.name name id) h = refl
link-kept link e.close h = refl
link-kept link e.die h = refl
link-kept link e.deliver h = cc
link-kept link e.take h = refl
link-kept link (e.return vs) h = refl
link-kept link e.resume h = refl
link-kept link e.flush h = refl

module _ (setting : Setting) (state : RunState) (side : Side) (half : HalfView) (come : HasComeTo setting state side half) where
  abbrev progress_at : Progress
  progress_at = progress_of side state.lines

  pub next-at : next_of half progress_at ≡ own_event setting side state
  next-at =
      ap (λ (s : Setting). next_event s.script s.stop half.end.end progress_at) come.about
      ∙ ap (λ (end : End). next_event setting.script setting.stop end progress_at) come.end

  pub within-at : nat_lt half.counts.events half.limit ≡ is_within setting side state
  within-at =
      ap (λ (n : ℕ). nat_lt n half.limit) come.counted.counts.events
      ∙ ap (λ (s : Setting). nat_lt progress_at.events s.limit) come.about

  own-side : (end_of side state.world).side ≡ side
  own-side = side-of state.world side (run-sides setting come.choices state come.plays)

  pub side-at : half.end.end.side ≡ side
  side-at = ap (λ (end : End). end.side) come.end ∙ own-side

  pub schema-at : half.end.schema ≡ setting.schema
  schema-at = ap (λ (s : Setting). s.schema) come.about

  few-sent : half.end.end.sent < 268435456
  few-sent =
      let room = cases_have_room setting come.choices state come.sound come.plays side in
      let sent = room.sent in
      let events = room.events in
      let small = come.small in
      let same = ap (λ (end : End). end.sent) come.end in
      omega (arith, sent, events, small, same)

  pub may-go-on-at : MayGoOn half progress_at
  may-go-on-at =
      let small = come.small in
      let possible = script_events_are_possible setting come.choices state come.sound come.valid (omega (arith, small)) come.plays in
      record {
        counted = come.counted;
        few = few-sent;
        allowed = λ event is.
            subst (λ (schema : Schema). IsAllowed schema half.end.end event) (sym schema-at)
            (subst (λ (end : End). IsAllowed setting.schema end event) (sym come.end) (possible.allowed side event (sym next-at ∙ is)));
        valid = subst (λ (s : Setting). IsValid s.schema s.script) (sym come.about) come.valid;
        handlers =
            subst (λ (s : Setting). AllZip (IsHandlerOf s.schema s.script half.end.end.side half.end.end) (dispatches half.end.end.stack) progress_at.handled) (sym come.about)
            (subst (λ (end : End). AllZip (IsHandlerOf setting.schema setting.script end.side end) (dispatches end.stack) progress_at.handled) (sym come.end)
            (subst (λ (s : Side). AllZip (IsHandlerOf setting.schema setting.script s (end_of side state.world)) (dispatches (end_of side state.world).stack) progress_at.handled) (sym own-side)
            (handlers_stand setting come.choices state come.sound come.valid (omega (arith, small)) come.plays side)));
        apart = subst AreApart (sym come.end) (resolvers_are_apart setting come.choices state come.sound come.plays side);
        fitting =
            subst (λ (schema : Schema). IsFitting schema half.end.end) (sym schema-at)
            (subst (λ (end : End). IsFitting setting.schema end) (sym come.end) (case_worlds_fit setting come.choices state come.sound (omega (arith, small)) come.plays side).end);
      }

  -- An own step of the half is one of its side
  module _ (after : HalfView) (own : IsOwnStep half progress_at after) where
    pub has-at : own_event setting side state ≡ Some own.event
    has-at = sym next-at ∙ own.is_next

    pub no-delivery-at : is_delivery own.event ≡ false
    no-delivery-at = event-delivers setting (record { side = side; delivers = false }) state own.event has-at

    pub step-at : step setting.schema (end_of side state.world) (link_to side state.world) own.event ≡ Some own.steps.output
    step-at =
        sym (link-free setting.schema (end_of side state.world) (link_to side state.world) own.event no-delivery-at)
        ∙ sym (ap (λ (schema : Schema). step schema half.end.end [] own.event) schema-at ∙ ap (λ (end : End). step setting.schema end [] own.event) come.end) ∙ own.steps.is_step

    pub own-within : is_within setting side state ≡ true
    own-within = sym within-at ∙ own.within
