use Rattle.world_core.specs.NextSteps.{acting_seq}
use Rattle.world_core.proofs.half.Half.do_main.Given as goal

abbrev pub ghost-act : goal.ghost-act
ghost-act g a = acting_seq g.progress.handled
