use Rattle.world_core.proofs.half.Half.meet.Given as goal

abbrev pub ghost-hand_in : goal.ghost-hand_in
ghost-hand_in g a = g.at

abbrev pub ghost-deliver_all : goal.ghost-deliver_all
ghost-deliver_all g a = g.at
