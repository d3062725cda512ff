use Rattle.plain_runs.proofs.Steps as law
use Rattle.plain_runs.proofs.laws.steps_stay_plain.Goals as goal

pub returns : goal.returns
returns c = law.steps_stay_plain
