use Rattle.world_tests.proofs.halves.hand_in.Given as goal

abbrev pub ghost-hand_in : goal.ghost-hand_in
ghost-hand_in g a = g.at
