use Rattle.world_core.proofs.half.Half.step_on.Given as goal
use Rattle.world_core.specs.Relaying.{own_progress}

abbrev pub ghost-own_step : goal.ghost-own_step
ghost-own_step a = own_progress a.self.now
