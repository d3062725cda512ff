use Rattle.schema_laws.proofs.RelaysAlike as law
use Rattle.schema_laws.proofs.runs.relays_alike.Goals as goal

pub returns : goal.returns
returns c = law.relays_alike
