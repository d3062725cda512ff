use Rattle.world_core.proofs.feeding.deliver_frame.Given as goal

abbrev pub ghost-deliver_message : goal.ghost-deliver_message
ghost-deliver_message g a = g.progress
