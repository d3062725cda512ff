use Rattle.channel_laws.proofs.QuietWorlds as law
use Rattle.channel_laws.proofs.quiet_laws.quiet_worlds_are_still.Goals as goal

pub returns : goal.returns
returns c = law.quiet_worlds_are_still
