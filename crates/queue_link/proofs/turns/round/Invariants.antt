use Rattle.queue_link.proofs.turns.round.Given as goal

abbrev pub ghost-parent_step : goal.ghost-parent_step
ghost-parent_step g a = g.at

abbrev pub ghost-child_step : goal.ghost-child_step
ghost-child_step g a = g.at
