use Rattle.world_tests.proofs.halves.meet.Given as goal

abbrev pub ghost-meet : goal.ghost-meet
ghost-meet g a = g.at
