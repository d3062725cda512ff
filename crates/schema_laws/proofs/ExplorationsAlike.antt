-- Explorations do not depend on where boxes are.
use Rattle.std.proofs.Common.{◌≡◌, ◌∙◌, ◌&&◌, List}
use Rattle.ipdl_base.specs.declared.kinds.Side.TheVariants as sides
use Rattle.channel_model.specs.Runs.{RunState}
use Rattle.explorations.proofs.Points.{points_alike}
use Rattle.explorations.proofs.Same.{explored_too}
use Rattle.explorations.specs.Words.{point_from, reached}
use Rattle.schedules.specs.declared.turn.Turn.{Turn}
use Rattle.schema_laws.proofs.ChoicesAlike.{quiet_alike}
use Rattle.schema_laws.proofs.PicksAlike.{beginning_alike, outcome_alike}
use Rattle.schema_laws.specs.Explorations.{ExplorationsAlike}
use Rattle.schema_laws.specs.Runs.{AreSettingsAlike}
use Rattle.script_steps.specs.Choices.{Setting, beginning_of}
use Rattle.script_steps.specs.Turns.{is_quiet}

module _ (a b : Setting) (alike : AreSettingsAlike a b) where
  reached_alike : (word : List Turn) → reached a word ≡ reached b word
  reached_alike word = (λ i. point_from a word (beginning_alike a b alike i)) ∙ points_alike a b (λ state. Unit {0}) (λ turn state next any is. tt) (λ turn state any. outcome_alike a b alike turn state) word (beginning_of b) tt

  rest_alike : (state : RunState) → is_quiet a state ≡ is_quiet b state
  rest_alike state = λ i. quiet_alike a b alike state sides.Parent i && quiet_alike a b alike state sides.Child i

pub explorations_alike : ExplorationsAlike
explorations_alike a b alike = explored_too a b (reached_alike a b alike) (rest_alike a b alike)
