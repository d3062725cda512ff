use Rattle.relay_laws.proofs.HalvesAlone as law
use Rattle.relay_laws.proofs.laws.relays_obey_alone.Goals as goal

pub returns : goal.returns
returns c = law.relays_obey_alone
