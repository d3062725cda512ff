use Rattle.ipdl_base.specs.declared.kinds.Side.TheVariants as sides
use Rattle.queue_link.proofs.workers.work_of_parent.Given as goal
use Rattle.world_core.specs.HalfView.{setting_of}

abbrev pub ghost-work_on : goal.ghost-work_on
ghost-work_on g a = (setting_of a.half.now, sides.Parent)
