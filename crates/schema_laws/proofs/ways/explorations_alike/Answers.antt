use Rattle.schema_laws.proofs.ExplorationsAlike as law
use Rattle.schema_laws.proofs.ways.explorations_alike.Goals as goal

pub returns : goal.returns
returns c = law.explorations_alike
