-- What a side may do at a state of a run.
use Rattle.std.specs.Prelude.{◌≡◌, not, is_some}
use Rattle.ipdl_base.specs.declared.kinds.Side.{Side}
use Rattle.script_steps.specs.Choices.{is_within, may_deliver, own_event}
use Rattle.world_core.specs.declared.side_turns.SideOptions.{SideOptions}
use Rattle.world_core.specs.WorldView.{WorldView}

-- These are the options of a side: whether it has a step of its own, whether it may have a packet delivered, and whether it has
-- reached the limit.
pub record AreOptionsAt (w : WorldView) (side : Side) (options : SideOptions) : Type 0 where
  pub acts : options.acts ≡ is_some (own_event w.setting side w.state)
  pub receives : options.receives ≡ may_deliver side w.state.world
  pub spent : options.spent ≡ not (is_within w.setting side w.state)
