use Rattle.channel_laws.proofs.EveryRun as law
use Rattle.channel_laws.proofs.laws.nested_worlds_stay.Goals as goal

pub returns : goal.returns
returns c = law.nested_worlds_stay
