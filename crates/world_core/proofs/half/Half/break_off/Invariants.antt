use Rattle.world_core.proofs.half.Half.break_off.Given as goal

abbrev pub ghost-deliver : goal.ghost-deliver
ghost-deliver g a = g.progress
