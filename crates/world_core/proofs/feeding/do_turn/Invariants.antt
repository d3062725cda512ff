use Rattle.world_core.proofs.feeding.do_turn.Given as goal
use Rattle.world_core.specs.Feeding.{progress_in}

abbrev pub ghost-own_turn : goal.ghost-own_turn
ghost-own_turn g a = progress_in g.feed.1 a.trace.now

abbrev pub ghost-reading_turn : goal.ghost-reading_turn
ghost-reading_turn g a = g.feed
