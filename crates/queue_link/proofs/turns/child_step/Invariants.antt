use Rattle.ipdl_base.specs.declared.kinds.Side.TheVariants as sides
use Rattle.queue_link.proofs.turns.child_step.Given as goal

abbrev pub ghost-step : goal.ghost-step
ghost-step g a = (g.at, sides.Child)
