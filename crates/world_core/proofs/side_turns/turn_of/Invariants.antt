use Rattle.world_core.proofs.side_turns.turn_of.Given as goal

abbrev pub ghost-own_turn : goal.ghost-own_turn
ghost-own_turn g a = g.at

abbrev pub ghost-delivery_turn : goal.ghost-delivery_turn
ghost-delivery_turn g a = g.at
