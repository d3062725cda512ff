use Rattle.schema_laws.proofs.PicksAlike as law
use Rattle.schema_laws.proofs.runs.picks_alike.Goals as goal

pub returns : goal.returns
returns c = law.picks_alike
