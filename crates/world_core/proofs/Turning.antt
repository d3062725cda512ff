-- A turn of a side, from the steps of its half.
use Rattle.std.proofs.Common.{◌≡◌, nat_lt, Bool, true, false, not, ◌&&◌, if◌then◌else◌, List, [], length, Some, None, is_some, ◌⊎◌, inl, inr, refl, sym, ap, subst, ◌∙◌}
use Rattle.ipdl_base.specs.declared.kinds.Side.{Side}
use Rattle.ipdl_base.specs.declared.kinds.Side.TheVariants as sides
use Rattle.channel_model.specs.Ends.{End, end_of, link_to}
use Rattle.ipdl_base.specs.Sides.{other}
use Rattle.channel_model.specs.Runs.{RunState, after_event, is_delivery}
use Rattle.channel_model.specs.Steps.{step}
use Rattle.channel_core.specs.EndView.{packets_of}
use Rattle.script_steps.proofs.Choosing.{side-of}
use Rattle.schedules.specs.declared.turn.Turn.{Turn}
use Rattle.script_steps.specs.Choices.{Choice, Setting, is_within, own_event}
use Rattle.script_steps.specs.Turns.{delivery_choice, exceeds, leads, led_to, outcome, outcome_by, turn_choice}
use Rattle.script_steps.specs.Progress.{Progress, progress_of}
use Rattle.world_core.proofs.Chosen.{run-sides}
use Rattle.world_core.proofs.Played.{after-side, has-played, has-room, link-of}
use Rattle.world_core.proofs.Standing.{has-at, link-kept, may-go-on-at, next-at, no-delivery-at, own-within, step-at, within-at}
use Rattle.world_core.specs.declared.answers.StepAnswer.{StepAnswer}
use Rattle.world_core.specs.declared.answers.StepAnswer.TheVariants as answer
use Rattle.world_core.specs.HalfSteps.{IsOwnStep, MayGoOn, OwnGives, next_of}
use Rattle.world_core.specs.HalfView.{HalfView, appended}
use Rattle.world_core.specs.Halves.{HasComeTo}
use Rattle.world_core.specs.LinkView.{IsAppended, LinkHasRoom, LinkView, packets_to, with_packets_to}
use Rattle.world_core.specs.SideTurns.{DeliveryPlays, OwnPlays, StandsIn, TurnPlays}
use Rattle.world_core.specs.WorldView.{WorldView}

same-link : (side : Side) (link : LinkView) → with_packets_to side (packets_to side link) link ≡ link
same-link sides.Parent link = refl
same-link sides.Child link = refl

-- a half that is on its link has come to its state
pub stands-come : (at : WorldView) (side : Side) (half : HalfView) (link : LinkView) → StandsIn at side half link → HasComeTo at.setting at.state side half
stands-come at side half link stands = record {
  sound = stands.run.sound;
  valid = stands.run.valid;
  small = stands.run.small;
  choices = stands.run.choices;
  plays = stands.run.plays;
  about = stands.half_is.about;
  end = stands.half_is.end;
  counted = stands.half_is.counted;
}

module _ (at : WorldView) (side : Side) (half : HalfView) (link : LinkView) (stands : StandsIn at side half link) where
  abbrev progress_is : Progress
  progress_is = progress_of side at.state.lines

  come : HasComeTo at.setting at.state side half
  come = stands-come at side half link stands

  pub next-is : next_of half progress_is ≡ own_event at.setting side at.state
  next-is = next-at at.setting at.state side half come

  pub within-is : nat_lt half.counts.events half.limit ≡ is_within at.setting side at.state
  within-is = within-at at.setting at.state side half come

  own-side : (end_of side at.state.world).side ≡ side
  own-side = side-of at.state.world side (run-sides at.setting stands.run.choices at.state stands.run.plays)

  pub may-go-on : MayGoOn half progress_is
  may-go-on = may-go-on-at at.setting at.state side half come

  module _ (after : HalfView) (own : IsOwnStep half progress_is after) where
    has : own_event at.setting side at.state ≡ Some own.event
    has = has-at at.setting at.state side half come after own

    no-delivery : is_delivery own.event ≡ false
    no-delivery = no-delivery-at at.setting at.state side half come after own

    is : step at.setting.schema (end_of side at.state.world) (link_to side at.state.world) own.event ≡ Some own.steps.output
    is = step-at at.setting at.state side half come after own

    lies : link ≡ with_packets_to side (packets_of at.setting.schema (after_event own.event (link_to side at.state.world))) link
    lies =
        sym (same-link side link)
        ∙ ap (λ (ps : List _). with_packets_to side ps link) ((link-of at.setting at.state link stands.run side).packets ∙ ap (packets_of at.setting.schema) (sym (link-kept (link_to side at.state.world) own.event no-delivery)))

    within : is_within at.setting side at.state ≡ true
    within = own-within at.setting at.state side half come after own

    side-is : after.end.end.side ≡ side
    side-is = after-side at side half after link link own.event false [] stands within has own.steps is lies

    -- the link has room for what an own step has made
    pub own-room : LinkHasRoom link (length after.end.lines) (other after.end.end.side) (length after.end.packets)
    own-room =
        subst (λ (s : Side). LinkHasRoom link (length after.end.lines) (other s) (length after.end.packets)) (sym side-is)
        (has-room at side half after link link own.event false [] stands within has own.steps is lies)

    -- and the step was played
    pub own-plays : (last : HalfView) (ends : LinkView) → last ≡ appended after → IsAppended link after.end.lines (other after.end.end.side) after.end.packets ends → OwnPlays at side half link answer.Did last ends
    own-plays last ends emptied appends = (
      within,
      ap is_some has,
      has-played at side half after link link own.event false [] stands within has own.steps is lies last ends emptied (subst (λ (s : Side). IsAppended link after.end.lines (other s) after.end.packets ends) side-is appends),
    )

  -- where no step was made, nothing was played
  pub own-else : (a : StepAnswer) (after : HalfView) → (a ≡ answer.Did → ⊥) → OwnGives half progress_is a after → OwnPlays at side half link a after link
  own-else answer.Did after isnt h = absurd (isnt refl)
  own-else answer.Nothing after isnt h = (ap is_some (sym next-is) ∙ ap is_some h.0, (h.1, refl))
  own-else (answer.Spent s) after isnt h =
      let own : half.end.end.side ≡ side = ap (λ (end : End). end.side) stands.half_is.end ∙ own-side in
      (ap is_some (sym next-is) ∙ h.0, sym within-is ∙ h.1, h.2 ∙ own, (h.3, refl))
  own-else answer.NoMemory after isnt h = (h, refl)

-- Turns by own steps and by deliveries

own-choice : (setting : Setting) (turn : Turn) (state : RunState) (only own : Bool) → only ≡ false → own ≡ true
    → (if not only && own then Some (record { side = turn.side; delivers = false }) else delivery_choice turn.side state) ≡ Some (record { side = turn.side; delivers = false })
own-choice setting turn state true own h k = cc
own-choice setting turn state false true h k = refl
own-choice setting turn state false false h k = cc

rest-choice : (setting : Setting) (turn : Turn) (state : RunState) (only own : Bool) → (only ≡ true) ⊎ (own ≡ false)
    → (if not only && own then Some (record { side = turn.side; delivers = false }) else delivery_choice turn.side state) ≡ delivery_choice turn.side state
rest-choice setting turn state true own h = refl
rest-choice setting turn state false true (inl h) = cc
rest-choice setting turn state false true (inr h) = cc
rest-choice setting turn state false false h = refl

leads-on : (setting : Setting) (turn : Turn) (state next : RunState) (choice : Choice) → turn_choice setting turn state ≡ Some choice → is_within setting turn.side state ≡ true → led_to setting choice state ≡ next → outcome setting turn state ≡ leads next
leads-on setting turn state next choice chooses within to =
    ap (outcome_by setting turn.side state) chooses ∙ ap (λ (b : Bool). if b then leads (led_to setting choice state) else exceeds) within ∙ ap leads to

exceeds-so : (setting : Setting) (turn : Turn) (state : RunState) (choice : Choice) → turn_choice setting turn state ≡ Some choice → is_within setting turn.side state ≡ false → outcome setting turn state ≡ exceeds
exceeds-so setting turn state choice chooses full =
    ap (outcome_by setting turn.side state) chooses ∙ ap (λ (b : Bool). if b then leads (led_to setting choice state) else exceeds) full

module _ (at : WorldView) (turn : Turn) (half after : HalfView) (link ends : LinkView) where
  by-own : (a : StepAnswer) → turn.only_deliver ≡ false → (a ≡ answer.Nothing → ⊥) → OwnPlays at turn.side half link a after ends → TurnPlays at turn half link a after ends
  by-own answer.Did only isnt h =
      let chooses = own-choice at.setting turn at.state turn.only_deliver (is_some (own_event at.setting turn.side at.state)) only h.1 in
      record { choice = record { side = turn.side; delivers = false }; side = refl; played = h.2; is = leads-on at.setting turn at.state h.2.next (record { side = turn.side; delivers = false }) chooses h.0 h.2.leads_to }
  by-own answer.Nothing only isnt h = absurd (isnt refl)
  by-own (answer.Spent s) only isnt h =
      let chooses = own-choice at.setting turn at.state turn.only_deliver (is_some (own_event at.setting turn.side at.state)) only h.0 in
      (exceeds-so at.setting turn at.state (record { side = turn.side; delivers = false }) chooses h.1, h.2, h.3)
  by-own answer.NoMemory only isnt h = h

  by-delivery : (a : StepAnswer) → (turn.only_deliver ≡ true) ⊎ (is_some (own_event at.setting turn.side at.state) ≡ false) → DeliveryPlays at turn.side half link a after ends → TurnPlays at turn half link a after ends
  by-delivery answer.Did rest h =
      let chooses = rest-choice at.setting turn at.state turn.only_deliver (is_some (own_event at.setting turn.side at.state)) rest ∙ ap (λ (b : Bool). if b then Some (record { side = turn.side; delivers = true }) else None) h.1 in
      record { choice = record { side = turn.side; delivers = true }; side = refl; played = h.2; is = leads-on at.setting turn at.state h.2.next (record { side = turn.side; delivers = true }) chooses h.0 h.2.leads_to }
  by-delivery answer.Nothing rest h =
      let chooses = rest-choice at.setting turn at.state turn.only_deliver (is_some (own_event at.setting turn.side at.state)) rest ∙ ap (λ (b : Bool). if b then Some (record { side = turn.side; delivers = true }) else None) h.0 in
      (ap (outcome_by at.setting turn.side at.state) chooses, h.1)
  by-delivery (answer.Spent s) rest h =
      let chooses = rest-choice at.setting turn at.state turn.only_deliver (is_some (own_event at.setting turn.side at.state)) rest ∙ ap (λ (b : Bool). if b then Some (record { side = turn.side; delivers = true }) else None) h.0 in
      (exceeds-so at.setting turn at.state (record { side = turn.side; delivers = true }) chooses h.1, h.2, h.3)
  by-delivery answer.NoMemory rest h = h

  pub turn-own : (side : Side) (a : StepAnswer) → turn.side ≡ side → turn.only_deliver ≡ false → (a ≡ answer.Nothing → ⊥) → OwnPlays at side half link a after ends → TurnPlays at turn half link a after ends
  turn-own side a is only isnt h = by-own a only isnt (subst (λ (s : Side). OwnPlays at s half link a after ends) (sym is) h)

  pub turn-delivery : (side : Side) (a : StepAnswer) → turn.side ≡ side → (turn.only_deliver ≡ true) ⊎ (is_some (own_event at.setting side at.state) ≡ false) → DeliveryPlays at side half link a after ends → TurnPlays at turn half link a after ends
  turn-delivery side a is rest h =
      by-delivery a (subst (λ (s : Side). (turn.only_deliver ≡ true) ⊎ (is_some (own_event at.setting s at.state) ≡ false)) (sym is) rest) (subst (λ (s : Side). DeliveryPlays at s half link a after ends) (sym is) h)
