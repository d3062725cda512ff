-- What a word leads to by its first turn. So words lead to the same points where their turns do the same.
use Rattle.std.proofs.Common.{◌≡◌, ◌∙◌, List, [], ◌∷◌, Option, None, refl, sym, ap}
use Rattle.ipdl_base.specs.declared.kinds.Side.{Side}
use Rattle.channel_model.specs.Runs.{RunState}
use Rattle.explorations.specs.Words.{Point, point_from, spent_point}
use Rattle.schedules.specs.declared.turn.Turn.{Turn}
use Rattle.script_steps.specs.Choices.{Setting}
use Rattle.script_steps.specs.Turns.{TurnOutcome, exceeds, idles, leads, outcome}

abbrev pub by_outcome : Setting → Side → List Turn → RunState → TurnOutcome → Option Point
by_outcome setting side word state (leads next) = point_from setting word next
by_outcome setting side word state idles = None
by_outcome setting side word state exceeds = spent_point state side word

pub point-by : (setting : Setting) (turn : Turn) (word : List Turn) (state : RunState) (found : TurnOutcome) → outcome setting turn state ≡ found → point_from setting (turn ∷ word) state ≡ by_outcome setting turn.side word state found
point-by setting turn word state found is = so (outcome setting turn state) ∙ ap (by_outcome setting turn.side word state) is
  where
    so : (x : TurnOutcome) → (elim x as (λ t. Option Point) [ leads next ↦ point_from setting word next | idles ↦ None | exceeds ↦ spent_point state turn.side word ]) ≡ by_outcome setting turn.side word state x
    so (leads next) = refl
    so idles = refl
    so exceeds = refl

-- Two settings, and states at which a turn does the same under both and leads to one of them again
module _ (a b : Setting) (Visited : RunState → Type 0) (onward : (turn : Turn) (state next : RunState) → Visited state → outcome a turn state ≡ leads next → Visited next)
    (alike : (turn : Turn) (state : RunState) → Visited state → outcome a turn state ≡ outcome b turn state) where
  pub points_alike : (word : List Turn) (state : RunState) → Visited state → point_from a word state ≡ point_from b word state
  points_alike [] state visited = refl
  points_alike (turn ∷ word) state visited =
      point-by a turn word state (outcome a turn state) refl ∙ by (outcome a turn state) refl (λ next is. points_alike word next (onward turn state next visited is))
      ∙ sym (point-by b turn word state (outcome a turn state) (sym (alike turn state visited)))
    where
      by : (found : TurnOutcome) → outcome a turn state ≡ found → ((next : RunState) → outcome a turn state ≡ leads next → point_from a word next ≡ point_from b word next)
          → by_outcome a turn.side word state found ≡ by_outcome b turn.side word state found
      by (leads next) is rest = rest next is
      by idles is rest = refl
      by exceeds is rest = refl
