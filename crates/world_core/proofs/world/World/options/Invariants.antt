use Rattle.world_core.proofs.world.World.options.Given as goal
use Rattle.world_core.specs.HalfView.{setting_of}
use Rattle.world_core.specs.WorldView.{seen_by}

abbrev pub ghost-options_of : goal.ghost-options_of
ghost-options_of a = (seen_by (setting_of a.half.now) a.link.now, a.side)
