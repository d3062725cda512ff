use Rattle.world_core.proofs.side_turns.deliver_first.Given as goal

abbrev pub ghost-hand_over : goal.ghost-hand_over
ghost-hand_over g a = g.at
