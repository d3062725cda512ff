use Rattle.relay_laws.proofs.HalvesAlone as law
use Rattle.relay_laws.proofs.laws.feeds_obey_alone.Goals as goal

pub returns : goal.returns
returns c = law.feeds_obey_alone
