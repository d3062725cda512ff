use Rattle.world_core.proofs.feeding.reading_turn.Given as goal
use Rattle.world_core.specs.Feeding.{progress_in}

abbrev pub ghost-read_on : goal.ghost-read_on
ghost-read_on g a = (g.feed.0, g.feed.1, progress_in g.feed.1 a.trace.now)
