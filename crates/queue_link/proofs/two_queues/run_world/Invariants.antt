use Rattle.world_core.specs.HalfView.{setting_of}
use Rattle.queue_link.proofs.two_queues.run_world.Given as goal

abbrev pub ghost-run_apart : goal.ghost-run_apart
ghost-run_apart g a = setting_of a.parent.now
