use Rattle.script_runs.proofs.KeptRuns as law
use Rattle.script_runs.proofs.laws.handlers_stand.Goals as goal

pub returns : goal.returns
returns c = law.handlers_stand
