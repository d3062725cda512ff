use Rattle.world_core.proofs.feeding.own_turn.Given as goal

abbrev pub ghost-own_step : goal.ghost-own_step
ghost-own_step g a = g.progress
