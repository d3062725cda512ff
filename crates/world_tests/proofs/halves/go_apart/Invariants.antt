use Rattle.world_core.specs.HalfView.{setting_of}
use Rattle.world_tests.proofs.halves.go_apart.Given as goal

abbrev pub ghost-two_rounds : goal.ghost-two_rounds
ghost-two_rounds a = setting_of a.parent.now
