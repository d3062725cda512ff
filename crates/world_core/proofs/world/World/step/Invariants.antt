use Rattle.world_core.proofs.world.World.step.Given as goal
use Rattle.world_core.specs.HalfView.{setting_of}
use Rattle.world_core.specs.WorldView.{seen_by}

abbrev pub ghost-turn_of : goal.ghost-turn_of
ghost-turn_of a = (seen_by (setting_of a.half.now) a.link.now, a.turn.side)
