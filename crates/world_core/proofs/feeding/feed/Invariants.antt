use Rattle.world_core.proofs.feeding.feed.Given as goal
use Rattle.world_core.specs.HalfView.{setting_of}

abbrev pub ghost-do_turns : goal.ghost-do_turns
ghost-do_turns a = (setting_of a.half.now, a.half.now.end.end.side)
