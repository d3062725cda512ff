use Rattle.world_tests.proofs.halves.round.Given as goal

abbrev pub ghost-both_go_on : goal.ghost-both_go_on
ghost-both_go_on g a = g.at

abbrev pub ghost-both_meet : goal.ghost-both_meet
ghost-both_meet g a = g.at.0
