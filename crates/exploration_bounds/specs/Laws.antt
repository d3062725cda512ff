-- What limits mean for the ways of a script whose runs come to rest.
use Rattle.std.specs.Prelude.{◌≡◌, ℕ, ◌*◌, ◌<◌, ◌≤◌, Contains}
use Rattle.handler_script.specs.Valid.{IsValid}
use Rattle.ipdl_base.specs.Sound.{IsSound}
use Rattle.script_bounds.specs.Laws.{ServesAgainWithoutActions, all_actions}
use Rattle.script_runs.specs.Laws.{HasLimit}
use Rattle.script_steps.specs.Choices.{Setting}
use Rattle.script_steps.specs.Turns.{at_rest}
use Rattle.explorations.specs.Explorations.{Exploration, IsExplored, Way}

-- The last block of each message has no actions, and the limit is above seven events for each action. So the script has no
-- handler that acts without end, and each of its runs comes to rest.
pub record ComesToRest (setting : Setting) : Type 0 where
  pub sound : IsSound setting.schema
  pub valid : IsValid setting.schema setting.script
  pub again : ServesAgainWithoutActions setting.script
  pub limit : 7 * all_actions setting < setting.limit
  pub small : HasLimit setting

-- Where a script comes to rest, no way of it ends at the limit.
abbrev pub WaysFinish : Type 0
WaysFinish = (setting : Setting) (most : ℕ) (exploration : Exploration) (way : Way) → ComesToRest setting → IsExplored setting most exploration → Contains exploration.ways way → way.ending ≡ at_rest

-- And the limit does not matter: any greater one gives the same exploration.
abbrev pub LimitsDoNotMatter : Type 0
LimitsDoNotMatter =
    (setting : Setting) (greater most : ℕ) (exploration : Exploration) → ComesToRest setting → setting.limit ≤ greater → HasLimit (record setting { limit = greater })
    → IsExplored setting most exploration → IsExplored (record setting { limit = greater }) most exploration
