use Rattle.queue_link.proofs.steps.stamped.Given as goal

abbrev pub ghost-new : goal.ghost-new
ghost-new g a = g.n
