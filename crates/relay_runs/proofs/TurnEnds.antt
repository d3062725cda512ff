-- Turns end where a relay ends: at rest neither side has anything left to do, and at the limit the side of the last turn has.
use Rattle.std.proofs.Common.{◌≡◌, ℕ, ◌≤◌, Bool, true, false, ◌&&◌, ◌||◌, if◌then◌else◌, Option, Some, None, is_some, refl, sym, ap, subst, ◌∙◌, arith}
use Rattle.ipdl_base.specs.declared.kinds.Side.{Side}
use Rattle.ipdl_base.specs.declared.kinds.Side.TheVariants as sides
use Rattle.channel_model.specs.Ends.{Packet}
use Rattle.channel_model.specs.Events.{Event}
use Rattle.ipdl_base.specs.Sides.{other}
use Rattle.channel_model.specs.Outputs.{is_open}
use Rattle.script_steps.specs.Choices.{Setting}
use Rattle.script_steps.specs.Turns.{RunEnding, at_limit, at_rest}
use Rattle.relay_runs.proofs.Sides.{twice}
use Rattle.relay_runs.specs.HalfRuns.{is_within, own_event}
use Rattle.relay_runs.specs.RelaySteps.{RelayState, half_of, next_packet}
use Rattle.relay_runs.specs.Relays.{EndsAs, RelayTurns, exceeds, goes_on, has_left, idles, leads, packet_turn, passes, relay_turn, rests, stops, turn_by}

-- what a side may do at the limit leads nowhere, and within it somewhere
led : (b : Bool) (next : RelayState) → (if b then leads next else exceeds) ≡ idles → ⊥
led true next is = cc
led false next is = cc

full : (b : Bool) (next : RelayState) → (if b then leads next else exceeds) ≡ exceeds → b ≡ false
full true next is = cc
full false next is = refl

module _ (setting : Setting) (side : Side) (state : RelayState) where
  abbrev opened : Bool
  opened = is_open (half_of side state).end.state

  -- nothing is left where a turn idles
  idles-left : (own : Option Event) (may : Bool) (packet : Option Packet) → own_event setting side (half_of side state) ≡ own → opened ≡ may → next_packet side state ≡ packet
      → relay_turn setting side state ≡ idles → (is_some own || may && is_some packet) ≡ false
  idles-left (Some x) may packet own opens next is = absurd (led (is_within setting side (half_of side state)) _ (sym (ap (turn_by setting side state) own) ∙ is))
  idles-left None false packet own opens next is = refl
  idles-left None true None own opens next is = refl
  idles-left None true (Some p) own opens next is =
      absurd (led (is_within setting side (half_of side state)) _
      (sym (ap (packet_turn setting side state) next) ∙ sym (ap (λ (b : Bool). if b then packet_turn setting side state (next_packet side state) else idles) opens) ∙ sym (ap (turn_by setting side state) own) ∙ is))

  pub idles-so : relay_turn setting side state ≡ idles → has_left setting side state ≡ false
  idles-so is = idles-left (own_event setting side (half_of side state)) opened (next_packet side state) refl refl refl is

  -- and something where it exceeds the limit
  exceeds-left : (own : Option Event) (may : Bool) (packet : Option Packet) → own_event setting side (half_of side state) ≡ own → opened ≡ may → next_packet side state ≡ packet
      → relay_turn setting side state ≡ exceeds → ((is_some own || may && is_some packet) ≡ true) × (is_within setting side (half_of side state) ≡ false)
  exceeds-left (Some x) may packet own opens next is = (refl, full (is_within setting side (half_of side state)) _ (sym (ap (turn_by setting side state) own) ∙ is))
  exceeds-left None false packet own opens next is =
      absurd (let e : idles ≡ exceeds = sym (ap (λ (b : Bool). if b then packet_turn setting side state (next_packet side state) else idles) opens) ∙ sym (ap (turn_by setting side state) own) ∙ is in let no : ⊥ = cc in no)
  exceeds-left None true None own opens next is =
      absurd
      (let e : idles ≡ exceeds =
      sym (ap (packet_turn setting side state) next) ∙ sym (ap (λ (b : Bool). if b then packet_turn setting side state (next_packet side state) else idles) opens) ∙ sym (ap (turn_by setting side state) own) ∙ is in
      let no : ⊥ = cc in no)
  exceeds-left None true (Some p) own opens next is = (
    refl,
    full (is_within setting side (half_of side state)) _
        (sym (ap (packet_turn setting side state) next) ∙ sym (ap (λ (b : Bool). if b then packet_turn setting side state (next_packet side state) else idles) opens) ∙ sym (ap (turn_by setting side state) own) ∙ is),
  )

  pub exceeds-so : relay_turn setting side state ≡ exceeds → EndsAs setting state (at_limit side)
  exceeds-so is = exceeds-left (own_event setting side (half_of side state)) opened (next_packet side state) refl refl refl is

-- both sides idle
both-idle : (setting : Setting) (side : Side) (state : RelayState) → relay_turn setting side state ≡ idles → relay_turn setting (other side) state ≡ idles → EndsAs setting state at_rest
both-idle setting sides.Parent state is facing = (idles-so setting sides.Parent state is, idles-so setting sides.Child state facing)
both-idle setting sides.Child state is facing = (idles-so setting sides.Parent state facing, idles-so setting sides.Child state is)

-- where the other side has idled, if at most one turn may still do so, and this side too, if no turn may
ends : (setting : Setting) (side : Side) (idle : ℕ) (state last : RelayState) (ending : RunEnding) → (idle ≤ 1 → relay_turn setting (other side) state ≡ idles) → (idle ≤ 0 → relay_turn setting side state ≡ idles)
    → RelayTurns setting side idle state last ending → EndsAs setting last ending
ends setting _ _ _ _ _ one none (rests side state) = both-idle setting side state (none (omega arith)) (one (omega arith))
ends setting _ _ _ _ _ one none (goes_on side idle state next last ending is more) = ends setting (other side) 2 next last ending (λ h. absurd (omega (arith, h))) (λ h. absurd (omega (arith, h))) more
ends setting _ _ _ _ _ one none (passes side idle state last ending is more) =
    ends setting (other side) idle state last ending (λ h. subst (λ (s : Side). relay_turn setting s state ≡ idles) (sym (twice side)) is) (λ h. one (omega (arith, h))) more
ends setting _ _ _ _ _ one none (stops side idle state is) = exceeds-so setting side state is

pub turns-end : (setting : Setting) (side : Side) (from last : RelayState) (ending : RunEnding) → RelayTurns setting side 2 from last ending → EndsAs setting last ending
turns-end setting side from last ending turns = ends setting side 2 from last ending (λ h. absurd (omega (arith, h))) (λ h. absurd (omega (arith, h))) turns
