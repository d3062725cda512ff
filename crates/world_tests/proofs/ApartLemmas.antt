-- A half that runs on its own, between two tries at a step.
use Rattle.world_core.specs.declared.answers.StepAnswer.{StepAnswer}
use Rattle.world_core.specs.declared.answers.StepAnswer.TheVariants as answer
use Rattle.world_core.specs.HalfView.{HalfView}
use Rattle.world_core.specs.Relaying.{GoingGives, InEach, IsApart}

after-step : (before after : HalfView) (apart : IsApart before) (told : StepAnswer) → GoingGives apart.setting apart.side apart.state apart.handed told after → IsApart after
after-step before after apart answer.Did acted = record { setting = apart.setting; side = apart.side; state = _; handed = apart.handed; goes = acted.goes }
after-step before after apart answer.Nothing gives = record { setting = apart.setting; side = apart.side; state = apart.state; handed = apart.handed; goes = gives.1 }
after-step before after apart (answer.Spent at) gives = record { setting = apart.setting; side = apart.side; state = apart.state; handed = apart.handed; goes = gives.3 }
after-step before after apart answer.NoMemory goes = record { setting = apart.setting; side = apart.side; state = apart.state; handed = apart.handed; goes = goes }

-- it still runs on its own after a step, or after no step
pub stays-apart : (before after : HalfView) (told : StepAnswer) → IsApart before → InEach before (λ setting side state handed. GoingGives setting side state handed told after) → IsApart after
stays-apart before after told apart gives = after-step before after apart told (gives apart.setting apart.side apart.state apart.handed apart.goes)
