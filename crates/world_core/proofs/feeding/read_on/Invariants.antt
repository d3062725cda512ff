use Rattle.world_core.proofs.feeding.read_on.Given as goal

abbrev pub ghost-deliver_frame : goal.ghost-deliver_frame
ghost-deliver_frame g a = g.at.2

abbrev pub ghost-break_off : goal.ghost-break_off
ghost-break_off g a = g.at.2
