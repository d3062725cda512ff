use Rattle.schema_laws.proofs.ScriptsAlike as law
use Rattle.schema_laws.proofs.runs.scripts_alike.Goals as goal

pub returns : goal.returns
returns c = law.scripts_alike c.one_answer.ensures
