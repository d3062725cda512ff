-- Every relay in turns comes to an end.
use Rattle.std.proofs.Common.{◌≡◌, ℕ, suc, zero, ◌+◌, ◌*◌, ◌≤◌, Bool, true, false, if◌then◌else◌, [], ◌∷◌, Option, Some, None, is_some, refl, ap, ◌∙◌, arith}
use Rattle.std.specs.Option.{option_map_or}
use Rattle.ipdl_base.specs.declared.kinds.Side.{Side}
use Rattle.ipdl_base.specs.declared.kinds.Side.TheVariants as sides
use Rattle.channel_model.specs.Ends.{Packet}
use Rattle.channel_model.specs.Events.{Event}
use Rattle.channel_model.specs.Events as event
use Rattle.ipdl_base.specs.Sides.{other}
use Rattle.channel_model.specs.Outputs.{Output, is_open}
use Rattle.channel_model.specs.Steps.{step}
use Rattle.relay_history.specs.Laws.{RelaysComeInOrder}
use Rattle.relay_runs.specs.HalfRuns.{HalfRun, HalfState, after, after_packet, delivered_for, after_next, after_own, is_within, own_event}
use Rattle.relay_runs.specs.RelaySteps.{IsRelay, RelayState, acts, gets, half_of, next_packet, opening_relay, stays, steps, with_half}
use Rattle.relay_runs.specs.Relays.{IsHalfRunPair, RelayTurns, exceeds, goes_on, idles, leads, packet_turn, passes, relay_turn, rests, stops, turn_by}
use Rattle.run_existence.specs.Laws.{IsRunnable}
use Rattle.script_steps.specs.Choices.{Setting}
use Rattle.script_steps.specs.Progress.{progress_of}
use Rattle.script_steps.specs.Turns.{RunEnding, at_limit, at_rest}
use Rattle.script_steps.proofs.StepLines.{step-prints}
use Rattle.world_core.proofs.KeptEnds.{KeepsEnd, delivery-possible, grown, own-possible}
use Rattle.world_core.proofs.KeptHalves.{run-keeps}
use Rattle.answer_existence.specs.Laws.{RelaysEnd}

-- how many events a half has, and both have
abbrev events_of : Side → RelayState → ℕ
events_of side state = (progress_of side (half_of side state).lines).events

abbrev events : RelayState → ℕ
events state = events_of sides.Parent state + events_of sides.Child state

-- a possible step of a side gives a result
given_some : (found : Option Output) → is_some found ≡ true → (output : Output) × (found ≡ Some output)
given_some None some = cc
given_some (Some output) some = (output, refl)

-- one more event of a side is one more event of both
one_more : (side : Side) (state : RelayState) (half : HalfState) → (progress_of side half.lines).events ≡ events_of side state + 1 → events (with_half side half state) ≡ suc (events state)
one_more sides.Parent state half more = omega (arith, more)
one_more sides.Child state half more = omega (arith, more)

-- what a turn does: it makes one event, or does nothing
data TurnCase (setting : Setting) (side : Side) (state : RelayState) : Type 0 where
  goes : (next : RelayState) → relay_turn setting side state ≡ leads next → IsRelay setting next → events next ≡ suc (events state) → TurnCase setting side state
  waits : relay_turn setting side state ≡ idles → TurnCase setting side state
  fails : relay_turn setting side state ≡ exceeds → TurnCase setting side state

module _ (in_order : RelaysComeInOrder) (setting : Setting) (is : IsRunnable setting) where
  half_runs : (side : Side) (state : RelayState) → IsRelay setting state → HalfRun setting side (half_of side state)
  half_runs side state relay = by side (in_order setting state is.sound is.limit relay)
    where
      by : (side : Side) → IsHalfRunPair setting state → HalfRun setting side (half_of side state)
      by sides.Parent pair = pair.parent_runs
      by sides.Child pair = pair.child_runs

  keeps : (side : Side) (state : RelayState) → IsRelay setting state → KeepsEnd setting side (half_of side state).end (half_of side state).lines (half_of side state).delivered
  keeps side state relay = run-keeps setting side is.sound is.valid is.limit (half_of side state) (half_runs side state relay)

  few_events : (state : RelayState) → IsRelay setting state → events state ≤ 2 * setting.limit
  few_events state relay =
      let parent = (keeps sides.Parent state relay).within_limit in
      let child = (keeps sides.Child state relay).within_limit in
      omega (arith, parent, child)

  module _ (side : Side) (state : RelayState) (relay : IsRelay setting state) where
    abbrev half : HalfState
    half = half_of side state

    own_turn : (own : Event) → own_event setting side half ≡ Some own → (w : Bool) → is_within setting side half ≡ w → TurnCase setting side state
    own_turn own e false w = fails (ap (turn_by setting side state) e ∙ ap (λ (b : Bool). if b then leads (with_half side (after_own setting half own) state) else exceeds) w)
    own_turn own e true w =
        let k = keeps side state relay in
        let made = given_some (step setting.schema half.end [] own) (own-possible setting side is.sound is.valid is.limit half.end half.lines half.delivered k own e) in
        let after_is : after_own setting half own ≡ after half made.0 = ap (λ found. option_map_or (after half) found half) made.1 in
        let printed = step-prints setting.schema half.end [] own made.0 made.1 in
        goes (with_half side (after half made.0) state)
        (ap (turn_by setting side state) e ∙ ap (λ (b : Bool). if b then leads (with_half side (after_own setting half own) state) else exceeds) w ∙ ap (λ (h : HalfState). leads (with_half side h state)) after_is)
        (steps side state (with_half side (after half made.0) state) relay (acts own made.0 w e made.1))
        (one_more side state (after half made.0) (grown setting side is.sound is.valid is.limit half.end half.lines half.delivered k own [] made.0 made.1 printed))

    packet_case : own_event setting side half ≡ None → is_open half.end.state ≡ true → (packet : Packet) → next_packet side state ≡ Some packet → (w : Bool) → is_within setting side half ≡ w → TurnCase setting side state
    packet_case none opened packet e false w =
        fails
        (ap (turn_by setting side state) none ∙ ap (λ (b : Bool). if b then packet_turn setting side state (next_packet side state) else idles) opened ∙ ap (packet_turn setting side state) e
        ∙ ap (λ (b : Bool). if b then leads (with_half side (after_next setting half packet) state) else exceeds) w)
    packet_case none opened packet e true w =
        let k = keeps side state relay in
        let given : Packet = delivered_for setting.schema half.end packet in
        let made = given_some (step setting.schema half.end (given ∷ []) event.deliver) (delivery-possible setting side is.sound is.valid is.limit half.end half.lines half.delivered k given opened) in
        let after_is : after_next setting half packet ≡ after_packet half packet given made.0 = ap (λ found. option_map_or (after_packet half packet given) found half) made.1 in
        let printed = step-prints setting.schema half.end (given ∷ []) event.deliver made.0 made.1 in
        goes (with_half side (after_packet half packet given made.0) state)
        (ap (turn_by setting side state) none ∙ ap (λ (b : Bool). if b then packet_turn setting side state (next_packet side state) else idles) opened ∙ ap (packet_turn setting side state) e
        ∙ ap (λ (b : Bool). if b then leads (with_half side (after_next setting half packet) state) else exceeds) w ∙ ap (λ (h : HalfState). leads (with_half side h state)) after_is)
        (steps side state (with_half side (after_packet half packet given made.0) state) relay (gets packet made.0 w none opened e made.1))
        (one_more side state (after_packet half packet given made.0) (grown setting side is.sound is.valid is.limit half.end half.lines half.delivered k event.deliver (given ∷ []) made.0 made.1 printed))

    next_case : own_event setting side half ≡ None → is_open half.end.state ≡ true → (found : Option Packet) → next_packet side state ≡ found → TurnCase setting side state
    next_case none opened None e =
        waits (ap (turn_by setting side state) none ∙ ap (λ (b : Bool). if b then packet_turn setting side state (next_packet side state) else idles) opened ∙ ap (packet_turn setting side state) e)
    next_case none opened (Some packet) e = packet_case none opened packet e (is_within setting side half) refl

    open_case : own_event setting side half ≡ None → (b : Bool) → is_open half.end.state ≡ b → TurnCase setting side state
    open_case none true opened = next_case none opened (next_packet side state) refl
    open_case none false closed = waits (ap (turn_by setting side state) none ∙ ap (λ (b : Bool). if b then packet_turn setting side state (next_packet side state) else idles) closed)

    by_own : (own : Option Event) → own_event setting side half ≡ own → TurnCase setting side state
    by_own None none = open_case none (is_open half.end.state) refl
    by_own (Some own) e = own_turn own e (is_within setting side half) refl

  turn_case : (side : Side) (state : RelayState) → IsRelay setting state → TurnCase setting side state
  turn_case side state relay = by_own side state relay (own_event setting side (half_of side state)) refl

  -- the sides take turns until two of them do nothing
  abbrev HasLast : Side → ℕ → RelayState → Type 0
  HasLast side idle state = (last : RelayState) × (ending : RunEnding) × RelayTurns setting side idle state last ending

  has_last : (fuel idle : ℕ) (side : Side) (state : RelayState) → IsRelay setting state → 6 * setting.limit + idle ≤ 3 * events state + fuel → HasLast side idle state
  has_last fuel zero side state relay few = (state, at_rest, rests side state)
  has_last zero (suc idle) side state relay few = let most = few_events state relay in absurd (omega (arith, few, most))
  has_last (suc fuel) (suc idle) side state relay few = by (λ left from further less. has_last fuel left (other side) from further less) (turn_case side state relay)
    where
      by : ((left : ℕ) (from : RelayState) → IsRelay setting from → 6 * setting.limit + left ≤ 3 * events from + fuel → HasLast (other side) left from) → TurnCase setting side state → HasLast side (suc idle) state
      by onward (goes next e further more) = let rest = onward 2 next further (omega (arith, few, more)) in (rest.0, rest.1, goes_on side idle state next rest.0 rest.1 e rest.2)
      by onward (waits e) = let rest = onward idle state relay (omega (arith, few)) in (rest.0, rest.1, passes side idle state rest.0 rest.1 e rest.2)
      by onward (fails e) = (state, at_limit side, stops side idle state e)

pub relays_end : RelaysComeInOrder → RelaysEnd
relays_end in_order setting is =
    let l = has_last in_order setting is (6 * setting.limit + 2) 2 sides.Parent (opening_relay setting) stays (omega arith) in
    (l.0.parent.lines, l.0.child.lines, l.1, record { last = l.0; turns = l.2; parent_lines = refl; child_lines = refl })
