-- Relays do not depend on where boxes are.
use Rattle.std.proofs.Common.{◌≡◌, ◌∙◌, [], ◌∷◌, ◌&&◌, ◌||◌, Option, is_some, sym, ap, subst}
use Rattle.ipdl_base.specs.declared.kinds.Side.{Side}
use Rattle.ipdl_base.specs.declared.kinds.Side.TheVariants as sides
use Rattle.channel_model.specs.Ends.{Packet}
use Rattle.channel_model.specs.Events.{Event}
use Rattle.channel_model.specs.Events as event
use Rattle.channel_model.specs.Outputs.{is_open}
use Rattle.channel_model.specs.Steps.{step}
use Rattle.relay_runs.specs.HalfRuns.{HalfState, after_packet, delivered_for}
use Rattle.relay_runs.specs.RelaySteps.{LeadsOn, RelayState, RelayStep, acts, gets, half_of, next_packet, opening_relay, stays, steps, with_half}
use Rattle.relay_runs.specs.Relays.{EndsAs, has_left}
use Rattle.script_steps.specs.Choices.{Setting}
use Rattle.script_steps.specs.Turns.{RunEnding, at_limit, at_rest}
use Rattle.schema_laws.specs.Relays.{RelaysAlike}
use Rattle.schema_laws.specs.Runs.{AreSettingsAlike}
use Rattle.schema_laws.proofs.HalvesAlike.{delivered_alike, opening_alike, own_alike, within_alike}
use Rattle.schema_laws.proofs.StepsAlike.{steps_alike}

module _ (a b : Setting) (alike : AreSettingsAlike a b) where
  -- steps of the sides

  step_too : (side : Side) (state next : RelayState) → RelayStep a side state next → RelayStep b side state next
  step_too side state _ (acts own output within is_own is) =
      let half : HalfState = half_of side state in
      acts own output (sym (within_alike a b alike side half) ∙ within) (sym (own_alike a b alike side half) ∙ is_own) (sym (steps_alike a.schema b.schema alike.schemas half.end [] own) ∙ is)
  step_too side state _ (gets packet output within rests opened next is) =
      let half : HalfState = half_of side state in
      let given : delivered_for a.schema half.end packet ≡ delivered_for b.schema half.end packet = delivered_alike a b alike half.end packet in
      subst (λ (p : Packet). RelayStep b side state (with_half side (after_packet half packet p output) state)) (sym given)
      (gets packet output (sym (within_alike a b alike side half) ∙ within) (sym (own_alike a b alike side half) ∙ rests) opened next
      (sym (steps_alike a.schema b.schema alike.schemas half.end (delivered_for b.schema half.end packet ∷ []) event.deliver)
      ∙ ap (λ (p : Packet). step a.schema half.end (p ∷ []) event.deliver) (sym given) ∙ is))

  leads_too : (from state : RelayState) → LeadsOn a from state → LeadsOn b from state
  leads_too from _ stays = stays
  leads_too from _ (steps side state next run h) = steps side state next (leads_too from state run) (step_too side state next h)

  opening_relay_alike : opening_relay a ≡ opening_relay b
  opening_relay_alike = λ i. record { parent = opening_alike a b alike sides.Parent i; child = opening_alike a b alike sides.Child i }

  -- endings

  left_alike : (side : Side) (state : RelayState) → has_left a side state ≡ has_left b side state
  left_alike side state =
      ap (λ (found : Option Event). is_some found || is_open (half_of side state).end.state && is_some (next_packet side state)) (own_alike a b alike side (half_of side state))

  ends_too : (state : RelayState) (ending : RunEnding) → EndsAs a state ending → EndsAs b state ending
  ends_too state at_rest h = (sym (left_alike sides.Parent state) ∙ h.0, sym (left_alike sides.Child state) ∙ h.1)
  ends_too state (at_limit side) h = (sym (left_alike side state) ∙ h.0, sym (within_alike a b alike side (half_of side state)) ∙ h.1)

pub relays_alike : RelaysAlike
relays_alike = record {
  runs = λ a b alike state run. subst (λ (from : RelayState). LeadsOn b from state) (opening_relay_alike a b alike) (leads_too a b alike (opening_relay a) state run);
  ends = λ a b alike state ending h. ends_too a b alike state ending h;
}
