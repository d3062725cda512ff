use Rattle.world_core.specs.HalfView.{setting_of}
use Rattle.world_core.proofs.SplitHalves.{split-own}
use Rattle.world_tests.proofs.halves.go_apart.Goals as goal

pub join-requires : goal.join-requires
join-requires c = split-own (setting_of c.split-parent.result.0) c.two_rounds-ended.new.parent c.two_rounds-ended.new.child c.two_rounds-ended.new.link c.two_rounds-ended.ensures
