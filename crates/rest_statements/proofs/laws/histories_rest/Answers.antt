use Rattle.rest_statements.proofs.RestLaw as law
use Rattle.rest_statements.proofs.laws.histories_rest.Goals as goal

pub returns : goal.returns
returns c = law.histories_rest
