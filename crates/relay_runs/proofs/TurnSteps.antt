-- Turns are steps: a turn that leads on is a step of its side, or changes nothing where what it asks for is not possible.
use Rattle.std.proofs.Common.{◌≡◌, Bool, true, false, if◌then◌else◌, [], ◌∷◌, Option, Some, None, refl, sym, subst, ◌∙◌}
use Rattle.std.specs.Option.{option_map_or}
use Rattle.ipdl_base.specs.declared.kinds.Side.{Side}
use Rattle.ipdl_base.specs.declared.kinds.Side.TheVariants as sides
use Rattle.channel_model.specs.Ends.{Packet}
use Rattle.channel_model.specs.Events.{Event}
use Rattle.channel_model.specs.Events as event
use Rattle.ipdl_base.specs.Sides.{other}
use Rattle.channel_model.specs.Outputs.{Output, is_open}
use Rattle.channel_model.specs.Steps.{step}
use Rattle.script_steps.specs.Choices.{Setting}
use Rattle.relay_runs.specs.HalfRuns.{HalfState, after, after_packet, delivered_for, after_next, after_own, is_within, own_event}
use Rattle.relay_runs.specs.Laws.{TurnsAreRelays}
use Rattle.relay_runs.specs.RelaySteps.{LeadsOn, RelayState, RelayStep, acts, gets, half_of, next_packet, stays, steps, with_half}
use Rattle.relay_runs.specs.Relays.{exceeds, idles, leads, packet_turn, relay_turn, turn_by}
use Rattle.relay_runs.specs.Relays as turns

-- a state whose half is put back is the same
put-back : (side : Side) (state : RelayState) → with_half side (half_of side state) state ≡ state
put-back sides.Parent state = refl
put-back sides.Child state = refl

-- steps after steps
pub after-steps : (setting : Setting) (from state last : RelayState) → LeadsOn setting from state → LeadsOn setting state last → LeadsOn setting from last
after-steps setting from state _ h stays = h
after-steps setting from state _ h (steps side now next more step) = steps side now next (after-steps setting from state now h more) step

module _ (setting : Setting) (side : Side) (state next : RelayState) where
  abbrev half : HalfState
  half = half_of side state

  -- a turn that leads on is within the limit
  leads-within : (b : Bool) (led : HalfState) → is_within setting side half ≡ b → (if b then leads (with_half side led state) else exceeds) ≡ leads next → (is_within setting side half ≡ true) × (with_half side led state ≡ next)
  leads-within true led is h = (is, cc)
  leads-within false led is h = cc

  -- where this is the next state, steps lead there
  one-step : (led : HalfState) → RelayStep setting side state (with_half side led state) → with_half side led state ≡ next → LeadsOn setting state next
  one-step led step is = subst (LeadsOn setting state) is (steps side state (with_half side led state) stays step)

  no-step : with_half side half state ≡ next → LeadsOn setting state next
  no-step is = subst (LeadsOn setting state) (sym (put-back side state) ∙ is) stays

  own-steps : (own : Event) (made : Option Output) → own_event setting side half ≡ Some own → step setting.schema half.end [] own ≡ made → is_within setting side half ≡ true
      → with_half side (option_map_or (after half) made half) state ≡ next → LeadsOn setting state next
  own-steps own None is_own is within h = no-step h
  own-steps own (Some output) is_own is within h = one-step (after half output) (acts own output within is_own is) h

  packet-steps : (packet : Packet) (made : Option Output) → own_event setting side half ≡ None → is_open half.end.state ≡ true → next_packet side state ≡ Some packet
      → step setting.schema half.end (delivered_for setting.schema half.end packet ∷ []) event.deliver ≡ made → is_within setting side half ≡ true
      → with_half side (option_map_or (after_packet half packet (delivered_for setting.schema half.end packet)) made half) state ≡ next → LeadsOn setting state next
  packet-steps packet None none opened comes is within h = no-step h
  packet-steps packet (Some output) none opened comes is within h = one-step (after_packet half packet (delivered_for setting.schema half.end packet) output) (gets packet output within none opened comes is) h

  -- whatever the side finds to do
  next-steps : (found : Option Packet) → next_packet side state ≡ found → own_event setting side half ≡ None → is_open half.end.state ≡ true → packet_turn setting side state found ≡ leads next → LeadsOn setting state next
  next-steps None comes none opened h = cc
  next-steps (Some packet) comes none opened h =
      let w = leads-within (is_within setting side half) (after_next setting half packet) refl h in
      packet-steps packet (step setting.schema half.end (delivered_for setting.schema half.end packet ∷ []) event.deliver) none opened comes refl w.0 w.1

  open-steps : (b : Bool) → is_open half.end.state ≡ b → own_event setting side half ≡ None → (if b then packet_turn setting side state (next_packet side state) else idles) ≡ leads next → LeadsOn setting state next
  open-steps true opened none h = next-steps (next_packet side state) refl none opened h
  open-steps false opened none h = cc

  found-steps : (found : Option Event) → own_event setting side half ≡ found → turn_by setting side state found ≡ leads next → LeadsOn setting state next
  found-steps (Some own) is h =
      let w = leads-within (is_within setting side half) (after_own setting half own) refl h in
      own-steps own (step setting.schema half.end [] own) is refl w.0 w.1
  found-steps None is h = open-steps (is_open half.end.state) refl is h

  turn-steps : relay_turn setting side state ≡ leads next → LeadsOn setting state next
  turn-steps h = found-steps (own_event setting side half) refl h

pub turns_are_relays : TurnsAreRelays
turns_are_relays setting _ _ _ _ _ (turns.rests side state) = stays
turns_are_relays setting _ _ _ _ _ (turns.goes_on side idle state next last ending is more) =
    after-steps setting state next last (turn-steps setting side state next is) (turns_are_relays setting (other side) 2 next last ending more)
turns_are_relays setting _ _ _ _ _ (turns.passes side idle state last ending is more) = turns_are_relays setting (other side) idle state last ending more
turns_are_relays setting _ _ _ _ _ (turns.stops side idle state is) = stays
