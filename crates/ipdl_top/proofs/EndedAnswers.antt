-- An answer whose output is that for how a run ended.
use Rattle.std.proofs.Common.{◌≡◌, ◌∙◌, ℕ, List, refl, ap}
use Rattle.std.specs.Prelude.{Option, Some, None}
use Rattle.ipdl_base.specs.declared.kinds.Side.{Side}
use Rattle.script_steps.specs.Turns.{RunEnding}
use Rattle.world_core.specs.declared.answers.RunAnswer.{RunAnswer}
use Rattle.ipdl_top.specs.declared.answer.CommandAnswer.{CommandAnswer}
use Rattle.ipdl_top.specs.Ended.{IsEndedAnswer, answer_of, answer_with, ending_by, spent_side}

pub ended_so : (outputs : RunEnding → List ℕ) (ended : RunAnswer) (ending : RunEnding) (out : List ℕ) (answer : CommandAnswer)
    → ended ≡ answer_of ending → out ≡ outputs ending → answer ≡ answer_with out ending → IsEndedAnswer (λ e. answer_with (outputs e) e) ended answer
ended_so outputs ended ending out answer ends out_is is = record { ending = ending; ends = ends; says = is ∙ ap (λ (text : List ℕ). answer_with text ending) out_is }

pub same_side : (spent : Option Side) → spent ≡ spent_side (ending_by spent)
same_side None = refl
same_side (Some side) = refl
