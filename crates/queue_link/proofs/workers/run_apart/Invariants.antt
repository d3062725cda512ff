use Rattle.queue_link.proofs.workers.run_apart.Given as goal

abbrev pub ghost-run_over : goal.ghost-run_over
ghost-run_over g a = g.at
