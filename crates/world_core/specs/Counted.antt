-- The counts of a side are those of its progress.
use Rattle.std.specs.Prelude.{◌≡◌, ℕ, List, [], ◌∷◌, slice_get, Option, Some, option_and_then}
use Rattle.handler_script.specs.declared.action.Action.{Action}
use Rattle.handler_script.specs.declared.action.Block.{Block}
use Rattle.handler_script.specs.declared.script.Script.{Script}
use Rattle.handler_script.specs.ScriptOf.{blocks_for}
use Rattle.ipdl_base.specs.declared.kinds.Side.{Side}
use Rattle.script_parts.specs.Tables.{IsTableOf}
use Rattle.script_steps.specs.NextEvent.{block_for}
use Rattle.script_steps.specs.Progress.{HandledRequest, Progress}
use Rattle.world_core.specs.CountsView.{CountsView, RunningView}

-- the block at an index of a script, if there is an index
abbrev pub block_at : Script → Option ℕ → Option Block
block_at script place = option_and_then (slice_get script.blocks) place

-- the action of this index in a block
abbrev pub action_in : Option Block → ℕ → Option Action
action_in block index = option_and_then (λ b. slice_get b.actions index) block

-- A running request is this handled one.
pub record IsRunning (script : Script) (side : Side) (running : RunningView) (handled : HandledRequest) : Type 0 where
  pub block : block_at script running.block ≡ slice_get (blocks_for script side (Some handled.number)) (block_for script side handled)
  pub acts : running.acts ≡ handled.acts
  pub given : running.given ≡ handled.given
  pub made : running.made ≡ handled.made

-- running requests are these handled ones, one by one
abbrev pub AreRunning : Script → Side → List RunningView → List HandledRequest → Type 0
AreRunning script side [] [] = Unit {0}
AreRunning script side (r ∷ rs) (h ∷ hs) = IsRunning script side r h × AreRunning script side rs hs
AreRunning script side _ _ = ⊥

-- The counts of a side are those of this progress.
pub record AreCountsOf (script : Script) (side : Side) (progress : Progress) (counts : CountsView) : Type 0 where
  pub events : counts.events ≡ progress.events
  pub main : counts.main ≡ progress.main
  pub table : IsTableOf script.blocks side progress.taken counts.table
  pub running : AreRunning script side counts.running progress.handled
