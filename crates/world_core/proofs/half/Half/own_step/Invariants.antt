use Rattle.world_core.proofs.half.Half.own_step.Given as goal

abbrev pub ghost-do_step : goal.ghost-do_step
ghost-do_step g a = g.progress
