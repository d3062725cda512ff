-- A run that follows words.
use Rattle.std.proofs.Common.{◌≡◌, List, [], ◌∷◌, ◌++◌, sym, ap, subst, ◌∙◌}
use Rattle.channel_model.specs.Runs.{RunState}
use Rattle.schedules.specs.declared.turn.Turn.{Turn}
use Rattle.script_steps.specs.Choices.{Setting}
use Rattle.script_steps.specs.Turns.{leads, outcome}
use Rattle.explorations.specs.Words.{Point, point_from}
use Rattle.world_core.specs.declared.answers.StepAnswer.{StepAnswer}
use Rattle.world_core.specs.declared.answers.StepAnswer.TheVariants as answer
use Rattle.world_core.specs.Turns.{TurnGives}
use Rattle.world_core.specs.WorldView.{WorldView}
use Rattle.explorer.proofs.Points.{goes-on, point-same}
use Rattle.explorer.specs.declared.runner.Runner.{Runner}
use Rattle.explorer.specs.Runs.{HasCome, IsGiven, MayGoOn, setting_of}

-- What the rest of a word leads to is what the word leads to from the beginning.
pub record FollowsSo (begun now : WorldView) (word rest : List Turn) : Type 0 where
  pub same : now.setting ≡ begun.setting
  pub on : point_from begun.setting rest now.state ≡ point_from begun.setting word begun.state

-- A runner comes to a word, and goes on from there
module _ (runner mid after : Runner) (word : List Turn) (turn : Turn) (may : MayGoOn (setting_of runner) word turn) (come : HasCome runner word mid) where
  at : mid.world.state ≡ may.state
  at = ap (λ (p : Point). p.state) (point-same (sym come.here.leads ∙ may.before.leads))

  does : outcome mid.world.setting turn mid.world.state ≡ leads may.next
  does =
      ap (λ (s : Setting). outcome s turn mid.world.state) (come.is.about ∙ come.same) ∙ ap (λ (s : RunState). outcome (setting_of runner) turn s) at ∙ may.does

  pub goes-did : (told : StepAnswer) → told ≡ answer.Did → TurnGives mid.world turn told after.world → setting_of after ≡ setting_of mid → after.is_away ≡ mid.is_away → HasCome runner (word ++ turn ∷ []) after
  goes-did told e gives same away =
      let g : TurnGives mid.world turn answer.Did after.world = subst (λ (a : StepAnswer). TurnGives mid.world turn a after.world) e gives in
      let is : outcome (setting_of runner) turn mid.world.state ≡ leads after.world.state = subst (λ (s : Setting). outcome s turn mid.world.state ≡ leads after.world.state) (come.is.about ∙ come.same) g.0 in
      record {
        same = same ∙ come.same;
        is = record { given = subst IsGiven (sym same) come.is.given; about = g.1 ∙ come.is.about ∙ sym same };
        near = away ∙ come.near;
        here = record { leads = goes-on (setting_of runner) word turn mid.world.state come.here.leads after.world.state is };
      }
