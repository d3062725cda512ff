use Rattle.world_core.proofs.half.Half.do_step.Given as goal

abbrev pub ghost-do_main : goal.ghost-do_main
ghost-do_main g a = g.progress

abbrev pub ghost-do_handler : goal.ghost-do_handler
ghost-do_handler g a = g.progress
