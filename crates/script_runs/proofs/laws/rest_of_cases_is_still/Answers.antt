use Rattle.script_runs.proofs.Rest as law
use Rattle.script_runs.proofs.laws.rest_of_cases_is_still.Goals as goal

pub returns : goal.returns
returns c = law.rest_of_cases_is_still
