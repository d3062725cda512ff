use Rattle.channel_laws.proofs.MissingAlike as law
use Rattle.channel_laws.proofs.two_end_laws.values_are_read_alike.Goals as goal

pub returns : goal.returns
returns c = law.values_are_read_alike
