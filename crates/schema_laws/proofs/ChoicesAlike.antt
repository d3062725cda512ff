-- Choices do not depend on where boxes are.
use Rattle.std.proofs.Common.{◌≡◌, List, [], ◌∷◌, None, Some, refl}
use Rattle.std.specs.Prelude.{not, ◌&&◌, is_some, if◌then◌else◌, option_and_then}
use Rattle.ipdl_base.specs.declared.kinds.Side.{Side}
use Rattle.channel_model.specs.Ends.{end_of, link_to}
use Rattle.channel_model.specs.Events.{Event}
use Rattle.channel_model.specs.Runs.{RunState}
use Rattle.script_steps.specs.Choices.{Setting, Choice, chosen, is_doable, may_deliver, played}
use Rattle.script_steps.specs.Turns.{is_quiet_at}
use Rattle.schema_laws.specs.Runs.{AreSettingsAlike, ChoicesAlike}
use Rattle.schema_laws.proofs.EventsAlike.{events_alike}
use Rattle.schema_laws.proofs.PicksAlike.{beginning_alike, after_alike, event_alike, within_alike}
use Rattle.schema_laws.proofs.StepsAlike.{steps_alike}

module _ (a b : Setting) (alike : AreSettingsAlike a b) where
  doable_alike : (side : Side) (state : RunState) (what : Event) → is_doable a side state what ≡ is_doable b side state what
  doable_alike side state what = λ i. is_some (steps_alike a.schema b.schema alike.schemas (end_of side state.world) (link_to side state.world) what i)

  chosen_alike : (choice : Choice) (state : RunState) → chosen a choice state ≡ chosen b choice state
  chosen_alike choice state = λ i.
      if within_alike a b alike choice.side state i then option_and_then (λ (what : Event). if doable_alike choice.side state what i then Some (after_alike a b alike choice.side state what i) else None) (event_alike a b alike choice state i) else None

  played_alike : (choices : List Choice) (state : RunState) → played a choices state ≡ played b choices state
  played_alike [] state = refl
  played_alike (choice ∷ more) state = λ i. option_and_then (λ (next : RunState). played_alike more next i) (chosen_alike choice state i)

  pub quiet_alike : (state : RunState) (side : Side) → is_quiet_at a state side ≡ is_quiet_at b state side
  quiet_alike state side = λ i. not (is_some (events_alike a b alike side state i)) && not (may_deliver side state.world)

pub choices_alike : ChoicesAlike
choices_alike = record {
  plays = λ a b alike choices. λ i. played_alike a b alike choices (beginning_alike a b alike i) i;
  within = λ a b alike side state. within_alike a b alike side state;
  quiet = λ a b alike state side. quiet_alike a b alike state side;
}
