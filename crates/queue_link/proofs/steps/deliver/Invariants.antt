use Rattle.queue_link.proofs.steps.deliver.Given as goal

abbrev pub ghost-accept : goal.ghost-accept
ghost-accept g a = g.at

abbrev pub ghost-hand_over : goal.ghost-hand_over
ghost-hand_over g a = g.at
