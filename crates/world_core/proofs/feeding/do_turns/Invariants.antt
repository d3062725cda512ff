use Rattle.std.proofs.Common.{◌-◌}
use Rattle.world_core.proofs.feeding.do_turns.Given as goal
use Rattle.world_core.specs.Feeding.{HasCome, progress_in}

abbrev pub ghost-do_turn : goal.ghost-do_turn
ghost-do_turn g a = g.feed

abbrev pub invariant-loop : goal.invariant-loop
invariant-loop g l = HasCome g.feed.0 g.feed.1 l.bytes l.half l.trace

abbrev pub decreases-loop : goal.decreases-loop
decreases-loop g l = g.feed.0.limit - (progress_in g.feed.1 l.trace).events
