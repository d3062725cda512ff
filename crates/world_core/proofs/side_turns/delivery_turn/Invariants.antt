use Rattle.world_core.proofs.side_turns.delivery_turn.Given as goal

abbrev pub ghost-deliver_first : goal.ghost-deliver_first
ghost-deliver_first g a = g.at
