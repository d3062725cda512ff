use Rattle.world_core.proofs.half.Half.act.Given as goal

abbrev pub ghost-resolve : goal.ghost-resolve
ghost-resolve g a = g.seq

abbrev pub ghost-reject : goal.ghost-reject
ghost-reject g a = g.seq

abbrev pub ghost-keep : goal.ghost-keep
ghost-keep g a = g.seq
