-- Words of turns do not depend on where boxes are.
use Rattle.std.proofs.Common.{◌≡◌, ◌∙◌, ℕ, List, [], ◌++◌, false, Option, None, Some, refl, sym, subst}
use Rattle.std.specs.Prelude.{nat_lt, not, ◌&&◌, is_some, if◌then◌else◌}
use Rattle.std.specs.Option.{option_map_or}
use Rattle.ipdl_base.specs.declared.kinds.Side.{Side}
use Rattle.ipdl_base.specs.declared.kinds.Side.TheVariants as sides
use Rattle.channel_model.specs.Ends.{World, end_of, link_to, opening}
use Rattle.channel_model.specs.Events.{Event, Move}
use Rattle.channel_model.specs.Events as event
use Rattle.ipdl_base.specs.Sides.{other}
use Rattle.channel_model.specs.Runs.{RunState, passed_by, happens}
use Rattle.schedules.specs.declared.turn.Turn.{Turn}
use Rattle.script_steps.specs.Choices.{Setting, Choice, beginning_of, may_deliver, is_within, event_by, following_event}
use Rattle.script_steps.specs.Progress.{progress_of}
use Rattle.script_steps.specs.Turns.{leads, exceeds, delivery_choice, turn_choice, led_to, outcome_by, outcome, RunEnding, whole_turn, Rests, rests, goes_on, passes, stops, Picks, word_ends, turn_leads, turn_idles, turn_exceeds}
use Rattle.schema_laws.specs.Runs.{AreSettingsAlike, PicksAlike}
use Rattle.schema_laws.proofs.EventsAlike.{events_alike}
use Rattle.schema_laws.proofs.StepsAlike.{steps_alike}

module _ (a b : Setting) (alike : AreSettingsAlike a b) where
  -- What a turn does

  pub within_alike : (side : Side) (state : RunState) → is_within a side state ≡ is_within b side state
  within_alike side state = λ i. nat_lt (progress_of side state.lines).events (alike.limit i)

  pub event_alike : (choice : Choice) (state : RunState) → event_by a choice state ≡ event_by b choice state
  event_alike choice state = λ i. if choice.delivers then (if may_deliver choice.side state.world then Some event.deliver else None) else events_alike a b alike choice.side state i

  happens_alike : (world : World) (move : Move) → happens a.schema world move ≡ happens b.schema world move
  happens_alike world move = λ i. passed_by (steps_alike a.schema b.schema alike.schemas (end_of move.side world) (link_to move.side world) move.event i) move world

  pub after_alike : (side : Side) (state : RunState) (what : Event) → following_event a side state what ≡ following_event b side state what
  after_alike side state what = λ i.
      let next : RunState = happens_alike state.world (record { side = side; event = what }) i in
      record { world = next.world; lines = state.lines ++ next.lines }

  led_alike : (choice : Choice) (state : RunState) → led_to a choice state ≡ led_to b choice state
  led_alike choice state = λ i. option_map_or (λ what. after_alike choice.side state what i) (event_alike choice state i) state

  choice_alike : (turn : Turn) (state : RunState) → turn_choice a turn state ≡ turn_choice b turn state
  choice_alike turn state = λ i.
      if not turn.only_deliver && is_some (events_alike a b alike turn.side state i) then Some (record { side = turn.side; delivers = false }) else delivery_choice turn.side state

  by_alike : (side : Side) (state : RunState) (choice : Option Choice) → outcome_by a side state choice ≡ outcome_by b side state choice
  by_alike side state None = refl
  by_alike side state (Some choice) = λ i. if within_alike side state i then leads (led_alike choice state i) else exceeds

  pub outcome_alike : (turn : Turn) (state : RunState) → outcome a turn state ≡ outcome b turn state
  outcome_alike turn state = (λ i. outcome_by a turn.side state (choice_alike turn state i)) ∙ by_alike turn.side state (turn_choice b turn state)

  -- What words of turns do

  rests_too : (side : Side) (idle : ℕ) (state last : RunState) (ending : RunEnding) → Rests a side idle state last ending → Rests b side idle state last ending
  rests_too _ _ _ _ _ (rests side state) = rests side state
  rests_too _ _ _ _ _ (goes_on side idle state next last ending does rest) = goes_on side idle state next last ending (sym (outcome_alike (whole_turn side) state) ∙ does) (rests_too (other side) 2 next last ending rest)
  rests_too _ _ _ _ _ (passes side idle state last ending does rest) = passes side idle state last ending (sym (outcome_alike (whole_turn side) state) ∙ does) (rests_too (other side) idle state last ending rest)
  rests_too _ _ _ _ _ (stops side idle state does) = stops side idle state (sym (outcome_alike (whole_turn side) state) ∙ does)

  picks_too : (word : List Turn) (state last : RunState) (ending : RunEnding) → Picks a word state last ending → Picks b word state last ending
  picks_too _ _ _ _ (word_ends state last ending rest) = word_ends state last ending (rests_too sides.Parent 2 state last ending rest)
  picks_too _ _ _ _ (turn_leads turn word state next last ending does rest) = turn_leads turn word state next last ending (sym (outcome_alike turn state) ∙ does) (picks_too word next last ending rest)
  picks_too _ _ _ _ (turn_idles turn word state last ending does rest) = turn_idles turn word state last ending (sym (outcome_alike turn state) ∙ does) (picks_too word state last ending rest)
  picks_too _ _ _ _ (turn_exceeds turn word state does) = turn_exceeds turn word state (sym (outcome_alike turn state) ∙ does)

  pub beginning_alike : beginning_of a ≡ beginning_of b
  beginning_alike = λ i. record { world = opening (alike.scripts i).top; lines = [] }

pub picks_alike : PicksAlike
picks_alike a b alike word state ending picks = subst (λ (from : RunState). Picks b word from state ending) (beginning_alike a b alike) (picks_too a b alike word (beginning_of a) state ending picks)
