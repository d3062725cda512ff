use Rattle.world_tests.proofs.halves.two_rounds.Given as goal

abbrev pub ghost-round : goal.ghost-round
ghost-round g a = (g.setting, a.link.now.lines)
