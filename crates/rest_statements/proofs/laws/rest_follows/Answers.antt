use Rattle.rest_statements.proofs.RestLaw as law
use Rattle.rest_statements.proofs.laws.rest_follows.Goals as goal

pub returns : goal.returns
returns c = law.rest_follows
