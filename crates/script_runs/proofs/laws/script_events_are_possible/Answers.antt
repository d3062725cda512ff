use Rattle.script_runs.proofs.Possible as law
use Rattle.script_runs.proofs.laws.script_events_are_possible.Goals as goal

pub returns : goal.returns
returns c = law.script_events_are_possible
