use Rattle.script_runs.proofs.Changes as law
use Rattle.script_runs.proofs.laws.steps_change_dispatches.Goals as goal

pub returns : goal.returns
returns c = law.steps_change_dispatches
