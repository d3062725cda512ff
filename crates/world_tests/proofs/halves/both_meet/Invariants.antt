use Rattle.ipdl_base.specs.declared.kinds.Side.TheVariants as sides
use Rattle.world_tests.proofs.halves.both_meet.Given as goal

abbrev pub ghost-hand_in : goal.ghost-hand_in
ghost-hand_in g a = (g.setting, sides.Parent)

abbrev pub ghost-meet : goal.ghost-meet
ghost-meet g a = (g.setting, a.side)
