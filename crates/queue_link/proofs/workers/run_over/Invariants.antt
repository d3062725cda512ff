use Rattle.queue_link.proofs.workers.run_over.Given as goal

abbrev pub ghost-work_at_once : goal.ghost-work_at_once
ghost-work_at_once g a = g.at

abbrev pub ghost-end_in_turn : goal.ghost-end_in_turn
ghost-end_in_turn g a = g.at
