-- The result of a run whose sides run at the same time.
use Rattle.std.specs.Prelude.{◌≡◌, []}
use Rattle.world_core.specs.declared.answers.RunAnswer.{RunAnswer}
use Rattle.world_core.specs.Turns.{GrowsTo, WordGives}
use Rattle.world_core.specs.WorldView.{WorldView}
use Rattle.world_core.specs.Worlds.{IsCase}

-- The sides ran at the same time to some state of the run, whose history is one of the script and continues the one before.
-- Then both sides took turns, the parent first, to the end.
pub record RunsAtOnce (before after : WorldView) (answer : RunAnswer) : Type 0 where
  pub met : WorldView
  pub same : met.setting ≡ before.setting
  pub grows : GrowsTo before.state.lines met.state.lines
  pub history : IsCase met
  pub rests : WordGives met [] answer after
