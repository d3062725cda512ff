use Rattle.queue_link.proofs.steps.step.Given as goal

abbrev pub ghost-go_on : goal.ghost-go_on
ghost-go_on g a = g.at

abbrev pub ghost-hand_over : goal.ghost-hand_over
ghost-hand_over g a = g.at

abbrev pub ghost-take : goal.ghost-take
ghost-take g a = g.at
