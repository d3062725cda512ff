use Rattle.schema_laws.proofs.StepsAlike as law
use Rattle.schema_laws.proofs.runs.steps_alike.Goals as goal

pub returns : goal.returns
returns c = law.steps_alike
