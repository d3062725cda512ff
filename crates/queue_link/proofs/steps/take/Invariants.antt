use Rattle.queue_link.proofs.steps.take.Given as goal

abbrev pub ghost-deliver : goal.ghost-deliver
ghost-deliver g a = g.at
