use Rattle.world_tests.proofs.ApartLemmas.{stays-apart}
use Rattle.world_tests.proofs.half_lines.step.Goals as goal

pub returns : goal.returns
returns c = stays-apart c.args.half.now c.go_on.new.self c.go_on.result c.requires c.go_on.ensures
