use Rattle.world_core.proofs.half.Half.take_in.Given as goal
use Rattle.world_core.specs.Relaying.{own_progress}

abbrev pub ghost-deliver_for : goal.ghost-deliver_for
ghost-deliver_for a = own_progress a.self.now
