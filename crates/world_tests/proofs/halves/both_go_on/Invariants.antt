use Rattle.world_tests.proofs.halves.both_go_on.Given as goal

abbrev pub ghost-go_on : goal.ghost-go_on
ghost-go_on g a = (g.at.0, a.side, g.at.1)
