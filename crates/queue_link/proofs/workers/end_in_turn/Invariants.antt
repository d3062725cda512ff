use Rattle.queue_link.proofs.workers.end_in_turn.Given as goal

abbrev pub ghost-take_turns : goal.ghost-take_turns
ghost-take_turns g a = g.at
