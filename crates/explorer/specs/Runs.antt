-- Where the run of a search is.
use Rattle.std.specs.Prelude.{◌≡◌, ◌≤◌, false, List, Some, None}
use Rattle.handler_script.specs.Valid.{IsValid}
use Rattle.ipdl_base.specs.Sound.{IsSound}
use Rattle.channel_model.specs.Runs.{RunState}
use Rattle.schedules.specs.declared.turn.Turn.{Turn}
use Rattle.script_steps.specs.Choices.{Setting}
use Rattle.script_steps.specs.Turns.{leads, outcome}
use Rattle.world_core.specs.WorldView.{WorldView}
use Rattle.world_core.specs.Worlds.{most_events}
use Rattle.explorations.specs.Words.{point_from}
use Rattle.explorer.specs.declared.runner.Runner.{Runner}
use Rattle.explorer.specs.Searched.{LeadsTo}

-- what a runner runs: a script without a stop
abbrev pub setting_of : Runner → Setting
setting_of runner = record { schema = runner.schema.now; script = runner.script.now; stop = None; limit = runner.limit }

-- A setting of an exploration: a valid script of a sound schema, with a small limit.
pub record IsGiven (setting : Setting) : Type 0 where
  pub sound : IsSound setting.schema
  pub valid : IsValid setting.schema setting.script
  pub small : setting.limit ≤ most_events
  pub no_stop : setting.stop ≡ None

-- A runner runs its script.
pub record IsRunner (runner : Runner) : Type 0 where
  pub given : IsGiven (setting_of runner)
  pub about : runner.world.setting ≡ setting_of runner

-- A runner is where a word leads, unless it is away.
pub record RunsAt (word : List Turn) (runner : Runner) : Type 0 where
  pub is : IsRunner runner
  pub here : runner.is_away ≡ false → LeadsTo (setting_of runner) word runner.world.state

-- A runner has come to where a word leads.
pub record HasCome (before : Runner) (word : List Turn) (after : Runner) : Type 0 where
  pub same : setting_of after ≡ setting_of before
  pub is : IsRunner after
  pub near : after.is_away ≡ false
  pub here : LeadsTo (setting_of before) word after.world.state

-- A word leads to a state of a run.
pub record IsPassable (setting : Setting) (word : List Turn) : Type 0 where
  pub state : RunState
  pub leads : LeadsTo setting word state

-- From a world a word leads to a state.
pub record IsLed (w : WorldView) (word : List Turn) : Type 0 where
  pub last : RunState
  pub leads : point_from w.setting word w.state ≡ Some (record { state = last; spent = None })

-- A world has made the turns of a word, each of which led to another state.
pub record HasFollowed (before : WorldView) (word : List Turn) (after : WorldView) : Type 0 where
  pub same : after.setting ≡ before.setting
  pub leads : point_from before.setting word before.state ≡ Some (record { state = after.state; spent = None })

-- After a word that leads to a state, a turn leads to another.
pub record MayGoOn (setting : Setting) (word : List Turn) (turn : Turn) : Type 0 where
  pub state : RunState
  pub before : LeadsTo setting word state
  pub next : RunState
  pub does : outcome setting turn state ≡ leads next
