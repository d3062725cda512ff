use Rattle.channel_laws.proofs.StillWorlds as law
use Rattle.channel_laws.proofs.laws.still_ends_wait_for_nothing.Goals as goal

pub returns : goal.returns
returns c = law.still_ends_wait_for_nothing
