use Rattle.schema_laws.proofs.EventsAlike as law
use Rattle.schema_laws.proofs.runs.events_alike.Goals as goal

pub returns : goal.returns
returns c = law.events_alike
