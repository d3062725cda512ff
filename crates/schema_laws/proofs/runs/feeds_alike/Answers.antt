use Rattle.schema_laws.proofs.FeedsAlike as law
use Rattle.schema_laws.proofs.runs.feeds_alike.Goals as goal

pub returns : goal.returns
returns c = law.feeds_alike
