use Rattle.schema_laws.proofs.ChoicesAlike as law
use Rattle.schema_laws.proofs.runs.choices_alike.Goals as goal

pub returns : goal.returns
returns c = law.choices_alike
