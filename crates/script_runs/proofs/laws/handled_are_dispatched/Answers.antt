use Rattle.script_runs.proofs.KeptRuns as law
use Rattle.script_runs.proofs.laws.handled_are_dispatched.Goals as goal

pub returns : goal.returns
returns c = law.handled_are_dispatched
