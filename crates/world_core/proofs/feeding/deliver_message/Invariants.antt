use Rattle.world_core.proofs.feeding.deliver_message.Given as goal

abbrev pub ghost-offer : goal.ghost-offer
ghost-offer g a = g.progress
